-- `engine::list_at` meets its contract. Assumes nothing.
use Rattle.semantics.specs.Definitions.Calendar.{of_minute}
use Rattle.source.proofs.Read.{outlined_so}
use Rattle.engine.proofs.Laws.{minute_met}
use Rattle.engine.proofs.list_at.Goals as goal

pub list_from-requires : goal.list_from-requires
list_from-requires c =
    let a = c.args in
    outlined_so (of_minute a.sheet.now a.calendar.now a.minute) _ c.at_minute-source.result c.at_minute-source.ensures.reads

pub returns : goal.returns
returns c =
    let a = c.args in
    let w = c.list_from in
    let met = minute_met a.sheet.now a.calendar.now a.minute a.out.now w.result w.new.out
    (w.ensures.lists (of_minute a.sheet.now a.calendar.now a.minute) c.at_minute-source.ensures.reads) in
    record { result_value = met.0; out_after = met.1.0; minute_demand = met.1.1 }
