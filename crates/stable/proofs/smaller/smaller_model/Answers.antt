-- `stable::smaller::smaller_model` meets its contract. Assumes nothing.
use mathlib.Core.Path.{sym, subst, ◌∙◌}
use Rattle.std.specs.Prelude.{Some}
use Rattle.sets.specs.One.{OneOf}
use Rattle.semantics.proofs.Theorems.Stable.{dec_model}
use Rattle.stable.specs.Applied.{positive_program}
use Rattle.stable.specs.Smaller.{SmallerIfAny, grown_within, two_heads}
use Rattle.stable.proofs.Written.{plain_only}
use Rattle.stable.proofs.Growing.{without_unsupported, whole-grown}
use Rattle.stable.proofs.smaller.smaller_model.Goals as goal

pub returns-then-unsupported-ne0 : goal.returns-then-unsupported-ne0
returns-then-unsupported-ne0 c =
    let a = c.args in
    let p = positive_program a.positive.now in
    let one = subst (λ z. OneOf z c.highest.result) c.minus-unsupported.ensures c.highest.ensures in
    subst (λ z. SmallerIfAny p a.i (Some z)) (sym c.minus.ensures)
    (without_unsupported (plain_only a.positive.now) ((dec_model p a.i).yes c.requires) c.supported.ensures one)

pub returns-then-l-i : goal.returns-then-l-i
returns-then-l-i c =
    let a = c.args in
    whole-grown (plain_only a.positive.now) c.grown-l.ensures c.if-l-i.true

pub returns-then-is_model : goal.returns-then-is_model
returns-then-is_model c =
    let p = positive_program c.args.positive.now in
    let l = c.grown-l in
    (record { within = grown_within (plain_only c.args.positive.now) l.ensures; differ = c.if-l-i.false }, (dec_model p l.result).yes (sym c.is_model.ensures ∙ c.if-is_model.true))

pub search-requires-clause-two_heads : goal.search-requires-clause-two_heads
search-requires-clause-two_heads c =
    let a = c.args in
    let p = positive_program a.positive.now in
    let l = c.grown-l in
    two_heads (plain_only a.positive.now) l.ensures ((dec_model p a.i).yes c.requires) ((dec_model p l.result).no (sym c.is_model.ensures ∙ c.if-is_model.false))
