-- `stable::growth::supported` meets its contract. Assumes nothing.
use Prim.Native.Nat.{◌≤◌}
use mathlib.Core.Path.{subst}
use native.Mathlib.Omega.{arith}
use Rattle.stable.specs.Applied.{positive_rule}
use Rattle.stable.proofs.Written.{nth, positive-none, positive-more}
use Rattle.stable.proofs.Growing.{supported_none, supported_more, supported_same}
use Rattle.stable.proofs.growth.supported.Goals as goal
use Rattle.stable.proofs.growth.supported.Goals.{then-size-le1, else-size-le1}

pub loop-rule-init : goal.loop-rule-init
loop-rule-init c = rw positive-none (supported_none c.args.i)

pub loop-rule-preserved : goal.loop-rule-preserved
loop-rule-preserved c =
    let l = c.loop-rule in
    let rule = positive_rule (nth c.args.positive.now l.rule-index) in
    let told = c.size.ensures in
    rw (positive-more c.args.positive.now l.rule-index c.loop-rule-test.true)
    (elim c.if-size-le1.branch [
      | then-size-le1 w ↦ rw w.set-is (supported_more rule l.invariant (subst (λ z. z ≤ 1) told w.if-size-le1.true))
      | else-size-le1 w ↦ rw w.set-is (supported_same rule l.invariant (λ one. omega (arith, told, one, w.if-size-le1.false)))
    ])
