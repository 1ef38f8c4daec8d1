-- `sheet::fields::count` meets its contract. Assumes nothing.
use borrow.Author.Tests.{le-leb, lt-leb}
use lib.ListN.{length}
use mathlib.Core.Path.{sym, ◌∙◌}
use native.Mathlib.Omega.{arith}
use Rattle.semantics.specs.Definitions.Sheet.{count_at}
use Rattle.sheet.proofs.Laws.{there}
use Rattle.sheet.proofs.fields.count.Goals as goal

pub bounds-s-at : goal.bounds-s-at
bounds-s-at c =
    let a = c.args in
    omega (arith, there a.c.at 1 (length a.s.now) c.present.ensures c.if-present.true)

pub returns-then-limit-n : goal.returns-then-limit-n
unfolding count_at
returns-then-limit-n c = simp (sym c.present.ensures ∙ c.if-present.true, lt-leb _ _ c.if-limit-n.true)

pub overflow_add-result : goal.overflow_add-result
overflow_add-result c =
    let a = c.args in
    omega (arith, there a.c.at 1 (length a.s.now) c.present.ensures c.if-present.true)

pub returns-then-present : goal.returns-then-present
unfolding count_at
returns-then-present c = simp (sym c.present.ensures ∙ c.if-present.true, le-leb _ _ c.if-limit-n.false)

pub returns : goal.returns
unfolding count_at
returns c = simp (sym c.present.ensures ∙ c.if-present.false)
