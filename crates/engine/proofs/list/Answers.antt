-- `engine::list` meets its contract. Assumes nothing.
use Rattle.semantics.specs.Definitions.Day.{of_day}
use Rattle.source.proofs.Read.{outlined_so}
use Rattle.engine.proofs.Laws.{listing-met}
use Rattle.engine.proofs.list.Goals as goal

pub list_from-requires : goal.list_from-requires
list_from-requires c =
    let a = c.args in
    outlined_so (of_day a.sheet.now a.ins a.outs) _ c.of_day-source.result c.of_day-source.ensures.reads

pub returns : goal.returns
returns c =
    let a = c.args in
    let from = of_day a.sheet.now a.ins a.outs in
    let met = listing-met a.sheet.now a.ins a.outs a.out.now c.list_from.result c.list_from.new.out (c.list_from.ensures.lists from c.of_day-source.ensures.reads) in
    record { result_value = met.0; out_after = met.1.0; listing_demand = met.1.1.0; listing_day = met.1.1.1 }
