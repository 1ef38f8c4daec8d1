-- `ruling::assumed::assume` meets its contract. Assumes nothing.
use mathlib.Core.Path.{◌∙◌}
use native.Mathlib.Omega.{arith}
use lib.ListN.{length-set}
use Rattle.ruling.specs.Assumed.{assumed-more}
use Rattle.ruling.proofs.assumed.assume.Goals as goal

pub loop-a-preserved : goal.loop-a-preserved
loop-a-preserved c =
    let l = c.loop-a in (
      length-set l.lanes _ _ ∙ l.invariant.0,
      assumed-more (omega (arith, l.invariant.0, c.loop-a-test.true)) c.cube-left_out.ensures c.minus.ensures l.invariant.1,
    )
