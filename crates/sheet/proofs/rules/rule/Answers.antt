-- `sheet::rules::rule` meets its contract. Assumes nothing.
use lib.ListN.{length}
use mathlib.Core.Path.{sym, ◌∙◌}
use Rattle.semantics.specs.Definitions.Sheet.{rule_at}
use Rattle.sheet.proofs.Laws.{there}
use Rattle.sheet.proofs.rules.rule.Goals as goal

pub masks-requires : goal.masks-requires
masks-requires c =
    let a = c.args in
    (there a.c.at 16 (length a.s.now) c.present.ensures c.if-present.true, c.requires)

pub returns-then-present : goal.returns-then-present
unfolding rule_at
returns-then-present c = c.masks.ensures ∙ simp (sym c.present.ensures ∙ c.if-present.true)

pub returns : goal.returns
unfolding rule_at
returns c = simp (sym c.present.ensures ∙ c.if-present.false)
