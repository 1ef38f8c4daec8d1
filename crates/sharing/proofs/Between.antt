-- Between the rounds. Assumes nothing.
use Prim.Native.Nat.{ℕ, ◌+◌, ◌≤◌, ◌<◌}
use mathlib.Core.Path.{◌≡◌}
use mathlib.Core.List.{List}
use lib.ListN.{length}
use Rattle.source.specs.Sources.{Source}
use Rattle.listing.specs.declared.paused.Paused.{Paused}
use Rattle.sharing.specs.Held.{AllGo, HasAt, spent_in, Idle}
use Rattle.sharing.proofs.Served.{Mixed}

-- between the rounds, with so many tests left: the sheets stand somewhere, and at t tests each where one is left
pub record Between (n allowance : ℕ) (sources : List Source) (order : List ℕ) (words programs records : List (List ℕ)) (states : List Paused) (left t : ℕ) : Type 0 where
  pub four : length states ≡ 4
  pub idle : Idle n states
  pub go : AllGo sources words order n states programs records
  pub in_all : spent_in states + left ≡ allowance
  pub r : ℕ
  pub p : ℕ
  pub within : p ≤ n
  pub somewhere : Mixed sources words n r p states records
  pub each : 0 < left → (q : ℕ) → q < n → HasAt sources words t states records q
