-- `sharing::turns::some_waits` meets its contract. Assumes nothing.
use Prim.Native.Nat.{ℕ, ◌<◌}
use mathlib.Core.Path.{◌≡◌}
use mathlib.Core.Bool.{false}
use lib.ListN.{get_or}
use Rattle.listing.specs.Pauses.{fresh, waits}
use Rattle.sharing.proofs.turns.some_waits.Given as goal

abbrev pub invariant-loop-p : goal.invariant-loop-p
invariant-loop-p l = ((q : ℕ) → q < l.p → waits (get_or l.states q fresh) ≡ false)
