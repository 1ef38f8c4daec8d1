-- `source::minute::at_minute` meets its contract. Assumes nothing.
use mathlib.Core.Path.{refl}
use native.Mathlib.Omega.{arith}
use lib.Seq.{length-take-le}
use mathlib.Core.Logic.{inl}
use Rattle.semantics.proofs.Theorems.CalendarCalls.{minute_refused}
use Rattle.source.proofs.Opened.{few_loaded}
use Rattle.source.proofs.Calendars.{turned_back, few_entries, entries_stand, holds, minute_over, within_left, minute_reads}
use borrow.Author.Rules.{rules}
use Rattle.std.proofs.lemmas.Result.{err_from_is_err_and}
use Rattle.source.proofs.minute.at_minute.Goals as goal

pub returns-then-minute-gt10079 : goal.returns-then-minute-gt10079
returns-then-minute-gt10079 c =
    let a = c.args in
    let r = c.with_calendar in
    record {
      words_len_unchanged = refl;
      reads = minute_over a.sheet.now a.calendar.now _ r.result r.ensures.reads_both c.in_ok-x.was a.minute a.words.now (omega (arith, c.if-minute-gt10079.true));
    }

pub in_force-set-requires : goal.in_force-set-requires
in_force-set-requires c =
    let a = c.args in
    let r = c.with_calendar in
    entries_stand a.sheet.now a.calendar.now _ r.result r.ensures.reads_both c.in_ok-x.was

pub load_only-rules-requires : goal.load_only-rules-requires
load_only-rules-requires c =
    let a = c.args in
    let r = c.with_calendar in
    let h = holds a.sheet.now a.calendar.now _ r.result r.ensures.reads_both c.in_ok-x.was in
    (h, omega (arith, few_loaded a.sheet.now h, c.requires))

pub outline_of-requires : goal.outline_of-requires
outline_of-requires c =
    let a = c.args in
    let r = c.with_calendar in
    let w = c.load_only-rules in
    within_left a.sheet.now a.calendar.now _ r.result r.ensures.reads_both c.in_ok-x.was a.minute _ _ w.result c.in_force-set.ensures w.ensures.upper_bound w.ensures.loads_only (omega (arith, w.ensures.out_len_unchanged, c.requires))

pub returns : goal.returns
returns c =
    let a = c.args in
    let r = c.with_calendar in
    let w = c.load_only-rules in
    let o = c.outline_of in record {
      words_len_unchanged = w.ensures.out_len_unchanged;
      reads = minute_reads a.sheet.now a.calendar.now _ r.result r.ensures.reads_both c.in_ok-x.was a.minute _ _ w.result c.in_force-set.ensures w.ensures.upper_bound w.ensures.loads_only (omega (arith, w.ensures.out_len_unchanged, c.requires))
          (omega (arith, c.if-minute-gt10079.false)) o.result o.ensures.atoms_value o.ensures.outlines;
    }

pub returns-in_err-x-clause-reads : goal.returns-in_err-x-clause-reads
returns-in_err-x-clause-reads c =
    let a = c.args in
    let r = c.with_calendar in
    let p = err_from_is_err_and c.from_residual.result c.from_residual.ensures.1 in
    rw (p.1, p.2) ((minute_refused a.sheet.now a.calendar.now a.minute _ _).1 (inl (turned_back a.sheet.now a.calendar.now _ r.result r.ensures.reads_both c.in_err-x.was)))

pub slice_bounds-entries-end : goal.slice_bounds-entries-end
slice_bounds-entries-end c =
    let a = c.args in
    let r = c.with_calendar in
    let few = few_entries a.sheet.now a.calendar.now _ r.result r.ensures.reads_both c.in_ok-x.was in
    omega (arith, few, r.ensures.entries_len_unchanged)

pub slice_bounds-in_force-end : goal.slice_bounds-in_force-end
slice_bounds-in_force-end c =
    let a = c.args in
    let r = c.with_calendar in
    let few = few_entries a.sheet.now a.calendar.now _ r.result r.ensures.reads_both c.in_ok-x.was in
    let long = length-take-le c.in_ok-x.n r.new.entries (omega (arith, few, r.ensures.entries_len_unchanged)) in
    omega (arith, long)
