-- `sheet::opposites::pair` meets its contract. Assumes nothing.
use mathlib.Core.Path.{sym, ◌∙◌}
use Rattle.semantics.specs.Definitions.Sheet.{pair_at}
use Rattle.sheet.proofs.opposites.pair.Goals as goal

pub returns-then-good_pair : goal.returns-then-good_pair
unfolding pair_at
returns-then-good_pair c =
    let present = sym c.present.ensures ∙ c.if-present.true in
    let good = sym c.good_pair.ensures ∙ c.if-good_pair.true in
    rw (present, good)

pub returns-then-present : goal.returns-then-present
unfolding pair_at
returns-then-present c =
    let present = sym c.present.ensures ∙ c.if-present.true in
    let good = sym c.good_pair.ensures ∙ c.if-good_pair.false in
    rw (present, good)

pub returns : goal.returns
unfolding pair_at
returns c = simp (sym c.present.ensures ∙ c.if-present.false)
