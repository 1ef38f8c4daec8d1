-- `records::covered_by` meets its contract. The loop has passed only records that do not cover the guess. Assumes nothing.
use Prim.Native.Nat.{ℕ, ◌*◌, ◌≤◌, ◌<◌}
use mathlib.Core.Path.{◌≡◌}
use mathlib.Core.Bool.{false}
use lib.ListN.{get_or}
use Rattle.sets.specs.Sets.{◌⊂?◌}
use Rattle.records.proofs.covered_by.Given as goal

abbrev pub invariant-loop-j : goal.invariant-loop-j
invariant-loop-j l = (l.j ≤ l.n) × ((i : ℕ) → i < l.j → (l.guess ⊂? get_or l.records (4 * i) 0) ≡ false)
