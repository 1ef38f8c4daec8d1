-- `lanes::stable::switch_on` meets its contract. Assumes nothing.
use native.Mathlib.Omega.{arith}
use Rattle.lanes.specs.Lanes.{lanes_self, lanes_and}
use Rattle.lanes.specs.Stable.{on-more}
use borrow.Author.Rules.{rules}
use Rattle.lanes.proofs.stable.switch_on.Goals as goal

pub loop-r-preserved : goal.loop-r-preserved
loop-r-preserved c =
    let l = c.loop-r in
    (omega arith, search rules, on-more (omega arith) l.invariant.2 (lanes_and lanes_self c.cube.ensures))
