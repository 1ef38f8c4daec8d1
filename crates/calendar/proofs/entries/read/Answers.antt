-- `calendar::entries::read` meets its contract. Assumes nothing.
use mathlib.Core.Path.{ap, ◌∙◌}
use native.Mathlib.Omega.{arith}
use Rattle.std.proofs.lemmas.Result.{err_from_is_err_and}
use Rattle.semantics.specs.Definitions.Reading.{field}
use Rattle.calendar.specs.Steps.{reading_by}
use Rattle.calendar.proofs.Calendars.{count_refused, few_counted, entries_refused, no_more, extra}
use Rattle.calendar.proofs.entries.read.Goals as goal

pub returns-in_err-n-clause-value : goal.returns-in_err-n-clause-value
returns-in_err-n-clause-value c =
    let a = c.args in
    let p = err_from_is_err_and c.from_residual.result c.from_residual.ensures.1 in
    rw (p.1, p.2) (count_refused a.c.now a.rules c.in_err-n.ensures)

pub entries-requires : goal.entries-requires
entries-requires c =
    let few = few_counted c.args.c.now c.args.rules c.in_ok-n.ensures in
    (omega (arith, few, c.requires), few)

pub returns-in_err-end-clause-value : goal.returns-in_err-end-clause-value
returns-in_err-end-clause-value c =
    let a = c.args in
    let p = err_from_is_err_and c.from_residual-in_err-end.result c.from_residual-in_err-end.ensures.1 in
    rw (p.1, p.2) (entries_refused a.c.now a.rules c.in_ok-n.ensures c.in_err-end.ensures.value)

pub returns-then-end-c-clause-upper_bound : goal.returns-then-end-c-clause-upper_bound
returns-then-end-c-clause-upper_bound c = few_counted c.args.c.now c.args.rules c.in_ok-n.ensures

pub returns-then-end-c-clause-value : goal.returns-then-end-c-clause-value
returns-then-end-c-clause-value c = no_more c.args.c.now c.args.rules c.in_ok-n.ensures c.in_ok-end.ensures.value c.if-end-c.true

pub returns-clause-value : goal.returns-clause-value
returns-clause-value c = extra c.args.c.now c.args.rules c.in_ok-n.ensures c.in_ok-end.ensures.value c.if-end-c.false
