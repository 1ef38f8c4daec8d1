-- `ruling::contradiction::empty_head` meets its contract. Assumes nothing.
use Rattle.lanes.specs.Lanes.{lanes_is}
use Rattle.ruling.specs.Contradiction.{empty_more, empty_over}
use Rattle.ruling.proofs.contradiction.empty_head.Goals as goal
use Rattle.ruling.proofs.contradiction.empty_head.Goals.{then-words-j-eq0, else-words-j-eq0}

pub loop-j-preserved : goal.loop-j-preserved
loop-j-preserved c =
    let a = c.args in
    let l = c.loop-j in
    elim c.if-words-j-eq0.branch [
      | then-words-j-eq0 w ↦
          lanes_is w.lanes-is (empty_more a.words.now a.truths.now a.falsities.now l.invariant w.if-words-j-eq0.true w.sure-lanes.ensures)
      | else-words-j-eq0 w ↦ lanes_is w.lanes-is (empty_over a.words.now a.truths.now a.falsities.now l.invariant w.if-words-j-eq0.false)
    ]
