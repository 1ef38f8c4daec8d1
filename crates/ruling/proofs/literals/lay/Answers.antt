-- `ruling::literals::lay` meets its contract. Assumes nothing.
use lib.ListN.{length-set}
use native.Mathlib.Omega.{arith}
use Rattle.ruling.specs.Laid.{laid_more}
use Rattle.ruling.proofs.literals.lay.Goals as goal

pub loop-a-preserved : goal.loop-a-preserved
loop-a-preserved c =
    let a = c.args in
    let l = c.loop-a in (
      simp length-set l.invariant.0,
      simp length-set l.invariant.1,
      laid_more a.x.now a.less.now a.more.now (omega (arith, l.invariant.0, c.loop-a-test.true)) (omega (arith, l.invariant.1, c.loop-a-test.true)) c.minus.ensures l.invariant.2,
    )
