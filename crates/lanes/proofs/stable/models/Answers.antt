-- `lanes::stable::models` meets its contract. Assumes nothing.
use mathlib.Core.Path.{◌∙◌}
use Rattle.lanes.specs.Lanes.{lanes_is}
use Rattle.lanes.specs.Stable.{meet_empty, meet_some}
use Rattle.lanes.proofs.stable.models.Goals as goal
use Rattle.lanes.proofs.stable.models.Goals.{then-rule-eq0, else-rule-eq0}

pub loop-rule-preserved : goal.loop-rule-preserved
loop-rule-preserved c =
    let l = c.loop-rule in
    let a = c.args in
    elim c.if-rule-eq0.branch [
      | then-rule-eq0 w ↦
          lanes_is (w.left-is ∙ w.minus-left.ensures) (meet_empty a.rules.now a.w a.lanes l.rule-index l.invariant w.if-rule-eq0.true w.cube.ensures)
      | else-rule-eq0 w ↦ lanes_is w.left-is (meet_some a.rules.now a.w a.lanes l.rule-index l.invariant w.if-rule-eq0.false)
    ]
