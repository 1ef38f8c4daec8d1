-- `gather::supported` meets its contract. Assumes nothing.
use mathlib.Core.Path.{refl, sym, ap, ◌∙◌, subst}
use Rattle.sets.specs.Sets.{◌∈◌, size as size_of}
use Rattle.sets.specs.Members.{∈-∖, ∈-single}
use Rattle.sets.specs.One.{size-single}
use Rattle.gather.proofs.supported.Goals as goal

pub returns-then-size-eq1 : goal.returns-then-size-eq1
returns-then-size-eq1 c = λ a q.
    let e = c.args.e in
    subst (λ z. a ∈ z) (sym c.minus.ensures) ((∈-∖ a e.head e.plain).1 (subst (λ z. a ∈ z) (sym q.0) ((∈-single a a).1 refl), q.1))

pub returns : goal.returns
returns c = λ a q. absurd (c.if-size-eq1.false (c.size.ensures ∙ ap size_of q.0 ∙ size-single a))
