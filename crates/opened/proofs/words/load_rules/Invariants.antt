-- `opened::words::load_rules` meets its contract. Assumes nothing.
use lib.ListN.{length}
use mathlib.Core.Path.{◌≡◌}
use Prim.Native.Nat.{◌-◌, ◌≤◌}
use Rattle.opened.proofs.Loaded.{RulesLoaded}
use Rattle.opened.proofs.words.load_rules.Given as goal

abbrev pub invariant-loop-place : goal.invariant-loop-place
invariant-loop-place l = (length l.out ≡ length l.initial.out) × (l.number ≤ l.rules) × RulesLoaded l.s l.rules_at l.out l.number

abbrev pub decreases-loop-place : goal.decreases-loop-place
decreases-loop-place l = l.rules - l.number
