-- `stable::nogood::by_masks` meets its contract. Assumes nothing.
use mathlib.Core.Path.{subst}
use Rattle.sets.specs.One.{OneOf}
use Rattle.stable.specs.Nogoods.{in_excludes, out_excludes}
use Rattle.stable.proofs.nogood.by_masks.Goals as goal

pub returns-then-missing-ne0 : goal.returns-then-missing-ne0
returns-then-missing-ne0 c =
    let a = c.args in
    λ p. in_excludes a.ins a.outs p a.i (subst (λ z. OneOf z c.highest.result) c.minus-missing.ensures c.highest.ensures)

pub returns : goal.returns
returns c =
    let a = c.args in
    λ p. out_excludes a.ins a.outs p a.i c.highest-2.ensures
