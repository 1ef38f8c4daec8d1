-- `stable::nogood::by_smaller` meets its contract: the rules passed are blocked. Assumes nothing.
use Prim.Native.Nat.{ℕ, ◌≤◌, ◌<◌}
use Rattle.sets.specs.Sets.{◌⊆◌, ◌∖◌}
use Rattle.semantics.specs.Words.{rule_in}
use Rattle.stable.specs.Nogoods.{Blocked}
use Rattle.stable.proofs.nogood.by_smaller.Given as goal

abbrev pub invariant-loop-j : goal.invariant-loop-j
invariant-loop-j l = (l.j ≤ l.rules) × (l.i ∖ l.s ⊆ l.r.has) × ((k : ℕ) → k < l.j → Blocked l.r.has l.r.lacks (l.i ∖ l.s) (rule_in l.program k))
