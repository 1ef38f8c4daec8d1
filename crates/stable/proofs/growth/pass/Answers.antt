-- `stable::growth::pass` meets its contract. Assumes nothing.
use Rattle.stable.proofs.Written.{nth, positive-none, positive-more}
use Rattle.stable.specs.Applied.{positive_rule}
use Rattle.stable.proofs.Growing.{grows_none, grows_more}
use Rattle.stable.proofs.growth.pass.Goals as goal

pub loop-rule-init : goal.loop-rule-init
loop-rule-init c = let a = c.args in rw positive-none (grows_none a.i a.l)

pub loop-rule-preserved : goal.loop-rule-preserved
loop-rule-preserved c =
    let a = c.args in
    let l = c.loop-rule in
    rw (positive-more a.positive.now l.rule-index c.loop-rule-test.true, c.enter-m.ensures)
    (grows_more (positive_rule (nth a.positive.now l.rule-index)) l.invariant)
