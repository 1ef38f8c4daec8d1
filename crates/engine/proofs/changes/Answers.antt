-- `engine::changes` meets its contract. Assumes nothing.
use mathlib.Core.Path.{◌≡◌, subst}
use mathlib.Core.Logic.{inl}
use native.Mathlib.Omega.{arith}
use lib.ListN.{length}
use lib.Seq.{length-take-le}
use Rattle.semantics.specs.Definitions.Returned.{refusal}
use Rattle.semantics.specs.Definitions.Calendar.{changes_call}
use Rattle.semantics.proofs.Theorems.CalendarCalls.{changes_refused}
use Rattle.source.proofs.Calendars.{turned_back, few_entries, entries_stand}
use Rattle.std.specs.Prelude.{Ok, Err}
use Rattle.sheet.specs.Refused.{refusal_of}
use Rattle.std.proofs.lemmas.Result.{err_from_is_err_and}
use Rattle.engine.proofs.Laws.{kept, filled, changes-met}
use Rattle.engine.proofs.Minutes.{minutes_returned, minutes_short}
use borrow.Author.Rules.{rules}
use Rattle.engine.proofs.changes.Goals as goal

pub minutes_of_change-count-requires : goal.minutes_of_change-count-requires
minutes_of_change-count-requires c =
    let a = c.args in
    let r = c.with_calendar in
    (entries_stand a.sheet.now a.calendar.now _ r.result r.ensures.reads_both c.in_ok-x.was, search rules)

pub returns-then-out-count : goal.returns-then-out-count
returns-then-out-count c =
    let a = c.args in
    let r = c.with_calendar in
    let w = c.minutes_of_change-count in
    let many = length-take-le c.minutes_of_change-count.result c.minutes_of_change-count.new.out (omega (arith, c.minutes_of_change-count.ensures.out_len_unchanged, c.minutes_of_change-count.ensures.upper_bound)) in
    let met = changes-met a.sheet.now a.calendar.now a.out.now (Err (refusal_of 9 _)) a.out.now
    (kept length (λ w. w) a.out.now (subst (λ n. changes_call a.sheet.now a.calendar.now (length a.out.now) ≡ refusal 9 n) many
    (minutes_short a.sheet.now a.calendar.now _ r.result r.ensures.reads_both c.in_ok-x.was _ w.ensures.out_after (length a.out.now) (omega (arith, many, c.if-out-count.true))))) in
    record { result_value = met.0; out_after = met.1.0; changes_demand = met.1.1 }

pub write-requires : goal.write-requires
write-requires c = let w = c.minutes_of_change-count in (omega (arith, w.ensures.out_len_unchanged, w.ensures.upper_bound), omega (arith, c.if-out-count.false))

pub returns : goal.returns
returns c =
    let a = c.args in
    let r = c.with_calendar in
    let w = c.minutes_of_change-count in
    let many = length-take-le c.minutes_of_change-count.result c.minutes_of_change-count.new.out (omega (arith, c.minutes_of_change-count.ensures.out_len_unchanged, c.minutes_of_change-count.ensures.upper_bound)) in
    let met = changes-met a.sheet.now a.calendar.now a.out.now (Ok _) _
    (filled length (λ w. w) a.out.now
    (minutes_returned a.sheet.now a.calendar.now _ r.result r.ensures.reads_both c.in_ok-x.was _ w.ensures.out_after (length a.out.now) (omega (arith, many, c.if-out-count.false)))
    many c.write.ensures) in
    record { result_value = met.0; out_after = met.1.0; changes_demand = met.1.1 }

pub returns-in_err-x : goal.returns-in_err-x
returns-in_err-x c =
    let a = c.args in
    let r = c.with_calendar in
    let met = changes-met a.sheet.now a.calendar.now a.out.now (Err _) a.out.now
    (kept length (λ w. w) a.out.now ((changes_refused a.sheet.now a.calendar.now (length a.out.now) _ _).1 (inl (turned_back a.sheet.now a.calendar.now _ r.result r.ensures.reads_both c.in_err-x.was)))) in
    let p = err_from_is_err_and c.from_residual.result c.from_residual.ensures.1 in
    rw (p.1, p.2) (record { result_value = met.0; out_after = met.1.0; changes_demand = met.1.1 })

pub slice_bounds-entries-end : goal.slice_bounds-entries-end
slice_bounds-entries-end c =
    let a = c.args in
    let r = c.with_calendar in
    let few = few_entries a.sheet.now a.calendar.now _ r.result r.ensures.reads_both c.in_ok-x.was in
    omega (arith, few, r.ensures.entries_len_unchanged)

pub slice_bounds-minutes_of_change-end : goal.slice_bounds-minutes_of_change-end
slice_bounds-minutes_of_change-end c =
    let a = c.args in
    let r = c.with_calendar in
    let few = few_entries a.sheet.now a.calendar.now _ r.result r.ensures.reads_both c.in_ok-x.was in
    let long = length-take-le c.in_ok-x.n r.new.entries (omega (arith, few, r.ensures.entries_len_unchanged)) in
    omega (arith, long)
