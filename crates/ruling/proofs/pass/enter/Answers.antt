-- `ruling::pass::enter` meets its contract. Assumes nothing.
use mathlib.Core.Path.{◌∙◌}
use native.Mathlib.Omega.{arith}
use lib.ListN.{length-set}
use Rattle.ruling.specs.Pass.{enter_more}
use Rattle.ruling.proofs.pass.enter.Goals as goal

pub loop-a-preserved : goal.loop-a-preserved
loop-a-preserved c =
    let l = c.loop-a in
    (length-set l.f _ _ ∙ l.invariant.0, enter_more (omega (arith, l.invariant.0, c.requires, c.loop-a-test.true)) l.invariant.1)
