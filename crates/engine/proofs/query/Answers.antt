-- `engine::query` meets its contract. Assumes nothing.
use mathlib.Core.Path.{ap, ◌∙◌}
use native.Mathlib.Omega.{arith}
use Rattle.semantics.specs.Definitions.Day.{of_day}
use Rattle.semantics.specs.Definitions.Returned.{accepted}
use Rattle.semantics.specs.Definitions.Calls.{for_atom}
use Rattle.records.specs.Records.{views_in}
use Rattle.source.proofs.Checks.{reads_atom}
use Rattle.source.proofs.Read.{outlined}
use Rattle.std.specs.Prelude.{Ok, Err}
use Rattle.engine.specs.declared.Queried.TheVariants.{None}
use Rattle.std.proofs.lemmas.Result.{err_from_is_err_and}
use Rattle.engine.proofs.Laws.{is_atom, answers-query, query_turned_back, query-met}
use Rattle.engine.proofs.Answered.{answers-none, answers-three}
use borrow.Author.Rules.{rules}
use Rattle.engine.proofs.query.Goals as goal

pub list_in_order-t-requires : goal.list_in_order-t-requires
list_in_order-t-requires c =
    let a = c.args in
    (outlined (for_atom (of_day a.sheet.now a.ins a.outs) a.atom) _ _ (reads_atom a.atom (λ q e h. h) c.of_day-source.result c.for_atom.ensures (of_day a.sheet.now a.ins a.outs) _ c.of_day-source.ensures.reads) c.in_ok-x.was, search rules)

pub returns-then-t-eq0 : goal.returns-then-t-eq0
returns-then-t-eq0 c =
    let a = c.args in
    let from = of_day a.sheet.now a.ins a.outs in
    let w = c.list_in_order-t in
    let records = w.new.records in
    let n = w.result.views in
    let met = query-met a.sheet.now a.ins a.outs a.atom (Ok None)
    (ap accepted (answers-none records n a.atom c.if-t-eq0.true)
    ∙ answers-query from a.atom _ _ (reads_atom a.atom (λ q e h. h) c.of_day-source.result c.for_atom.ensures (of_day a.sheet.now a.ins a.outs) _ c.of_day-source.ensures.reads) c.in_ok-x.was (views_in records n) w.ensures.views_after) in
    record { result_value = met.0; query_demand = met.1.0; query_day = met.1.1 }

pub overflow_cast-atom : goal.overflow_cast-atom
overflow_cast-atom c =
    let a = c.args in
    let h = is_atom (of_day a.sheet.now a.ins a.outs) a.atom _ _ (reads_atom a.atom (λ q e h. h) c.of_day-source.result c.for_atom.ensures (of_day a.sheet.now a.ins a.outs) _ c.of_day-source.ensures.reads) c.in_ok-x.was in
    omega (arith, h)

pub yes_no_open-requires : goal.yes_no_open-requires
yes_no_open-requires c =
    let a = c.args in
    let h = is_atom (of_day a.sheet.now a.ins a.outs) a.atom _ _ (reads_atom a.atom (λ q e h. h) c.of_day-source.result c.for_atom.ensures (of_day a.sheet.now a.ins a.outs) _ c.of_day-source.ensures.reads) c.in_ok-x.was in
    (search rules, h)

pub returns : goal.returns
returns c =
    let a = c.args in
    let from = of_day a.sheet.now a.ins a.outs in
    let w = c.list_in_order-t in
    let records = w.new.records in
    let n = w.result.views in
    let met = query-met a.sheet.now a.ins a.outs a.atom _
    (ap accepted (c.yes_no_open.ensures ∙ answers-three records n a.atom c.if-t-eq0.false)
    ∙ answers-query from a.atom _ _ (reads_atom a.atom (λ q e h. h) c.of_day-source.result c.for_atom.ensures (of_day a.sheet.now a.ins a.outs) _ c.of_day-source.ensures.reads) c.in_ok-x.was (views_in records n) w.ensures.views_after) in
    record { result_value = met.0; query_demand = met.1.0; query_day = met.1.1 }

pub returns-in_err-x : goal.returns-in_err-x
returns-in_err-x c =
    let a = c.args in
    let met = query-met a.sheet.now a.ins a.outs a.atom (Err _) (query_turned_back (of_day a.sheet.now a.ins a.outs) a.atom _ _ (reads_atom a.atom (λ q e h. h) c.of_day-source.result c.for_atom.ensures (of_day a.sheet.now a.ins a.outs) _ c.of_day-source.ensures.reads) c.in_err-x.was) in
    let p = err_from_is_err_and c.from_residual.result c.from_residual.ensures.1 in
    rw (p.1, p.2) (record { result_value = met.0; query_demand = met.1.0; query_day = met.1.1 })
