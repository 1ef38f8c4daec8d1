-- `opened::words::load_rules_in` meets its contract. Assumes nothing.
use lib.ListN.{length}
use mathlib.Core.Path.{◌≡◌}
use Prim.Native.Nat.{◌-◌, ◌≤◌}
use Rattle.opened.proofs.Loaded.{OnlyLoaded}
use Rattle.opened.proofs.words.load_rules_in.Given as goal

abbrev pub invariant-loop-place : goal.invariant-loop-place
invariant-loop-place l = (length l.out ≡ length l.initial.out) × (l.n ≤ l.number) × (l.number ≤ l.rules) × OnlyLoaded l.s l.rules_at l.set l.out l.n l.number

abbrev pub decreases-loop-place : goal.decreases-loop-place
decreases-loop-place l = l.rules - l.number
