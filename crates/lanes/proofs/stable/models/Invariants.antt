-- `lanes::stable::models` meets its contract. Assumes nothing.
use Prim.Native.Nat.{◌+◌, ◌*◌}
use Rattle.sets.specs.Sets.{◌∈◌}
use Rattle.lanes.specs.Lanes.{Lanes}
use Rattle.lanes.specs.Stable.{HeadsMeet}
use Rattle.lanes.proofs.stable.models.Given as goal

abbrev pub invariant-loop-rule : goal.invariant-loop-rule
invariant-loop-rule l = Lanes (λ b. (b ∈ l.lanes) × HeadsMeet l.rules l.rule-index (64 * l.w + b)) l.left
