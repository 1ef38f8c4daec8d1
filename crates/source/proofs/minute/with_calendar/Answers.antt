-- `source::minute::with_calendar` meets its contract. Assumes nothing.
use mathlib.Core.Path.{sym, ◌∙◌}
use native.Mathlib.Omega.{arith}
use Rattle.std.proofs.lemmas.Result.{err_from_is_err_and}
use Rattle.source.proofs.Calendars.{both_read, calendar_turned_back, sheet_turned_back}
use Rattle.source.proofs.minute.with_calendar.Goals as goal

pub returns-in_err-x-clause-reads_both : goal.returns-in_err-x-clause-reads_both
returns-in_err-x-clause-reads_both c =
    let a = c.args in
    let p = err_from_is_err_and c.from_residual.result c.from_residual.ensures.1 in
    rw (p.1, p.2) (sheet_turned_back a.sheet.now a.calendar.now a.entries.now (sym c.open.ensures ∙ c.in_err-x.was))

pub returns-in_err-n-clause-reads_both : goal.returns-in_err-n-clause-reads_both
returns-in_err-n-clause-reads_both c =
    let a = c.args in
    let w = c.read in
    let p = err_from_is_err_and c.from_residual-in_err-n.result c.from_residual-in_err-n.ensures.1 in
    rw (p.1, p.2) (calendar_turned_back a.sheet.now a.calendar.now w.new.out (sym c.open.ensures ∙ c.in_ok-x.was) w.ensures.value c.in_err-n.was)

pub returns-clause-reads_both : goal.returns-clause-reads_both
returns-clause-reads_both c =
    let a = c.args in
    let w = c.read in
    both_read a.sheet.now a.calendar.now w.new.out (sym c.open.ensures ∙ c.in_ok-x.was) w.ensures.value c.in_ok-n.was
    (omega (arith, w.ensures.out_len_unchanged, c.requires, c.in_ok-n.ensures.upper_bound))
