-- `engine::yes_no_open::yes_no_open` meets its contract. Assumes nothing.
use mathlib.Core.Path.{sym, ◌∙◌}
use Rattle.records.specs.Records.{views_in}
use Rattle.engine.proofs.Answered.{answers_yes, answers_no, answers_open}
use Rattle.engine.proofs.yes_no_open.yes_no_open.Goals as goal

pub returns-then-known_in_all : goal.returns-then-known_in_all
returns-then-known_in_all c =
    let a = c.args in
    answers_yes (views_in a.records.now a.n) a.atom (sym c.if-known_in_all.true ∙ c.known_in_all.ensures)

pub returns-then-possible_in_none : goal.returns-then-possible_in_none
returns-then-possible_in_none c =
    let a = c.args in
    answers_no (views_in a.records.now a.n) a.atom (sym c.if-known_in_all.false ∙ c.known_in_all.ensures) (sym c.if-possible_in_none.true ∙ c.possible_in_none.ensures)

pub returns : goal.returns
returns c =
    let a = c.args in
    answers_open (views_in a.records.now a.n) a.atom (sym c.if-known_in_all.false ∙ c.known_in_all.ensures) (sym c.if-possible_in_none.false ∙ c.possible_in_none.ensures)
