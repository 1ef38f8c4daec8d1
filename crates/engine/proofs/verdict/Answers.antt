-- `engine::verdict` meets its contract. Assumes nothing.
use native.Mathlib.Omega.{arith}
use Rattle.semantics.specs.Definitions.Day.{of_day}
use Rattle.semantics.specs.Definitions.Calls.{for_guess}
use Rattle.source.proofs.Checks.{reads_guess}
use Rattle.source.proofs.Read.{within, outlined}
use Rattle.std.specs.Prelude.{Ok, Err}
use Rattle.std.proofs.lemmas.Result.{err_from_is_err_and}
use Rattle.engine.proofs.Laws.{guess_fits, judged_so, verdict_turned_back, verdict-met}
use Rattle.engine.proofs.verdict.Goals as goal

pub for_guess-requires : goal.for_guess-requires
for_guess-requires c =
    let a = c.args in
    within (of_day a.sheet.now a.ins a.outs) _ c.of_day-source.result c.of_day-source.ensures.reads

pub overflow_cast-guess : goal.overflow_cast-guess
overflow_cast-guess c =
    let a = c.args in
    omega (arith, guess_fits (of_day a.sheet.now a.ins a.outs) a.guess _ _ (reads_guess a.guess (λ q e h. h) c.of_day-source.result c.for_guess.ensures (of_day a.sheet.now a.ins a.outs) _ c.of_day-source.ensures.reads) c.in_ok-x.was)

pub verdict_on-requires : goal.verdict_on-requires
verdict_on-requires c =
    let a = c.args in
    outlined (for_guess (of_day a.sheet.now a.ins a.outs) a.guess) _ _ (reads_guess a.guess (λ q e h. h) c.of_day-source.result c.for_guess.ensures (of_day a.sheet.now a.ins a.outs) _ c.of_day-source.ensures.reads) c.in_ok-x.was

pub returns : goal.returns
returns c =
    let a = c.args in
    let met = verdict-met a.sheet.now a.ins a.outs a.guess (Ok _)
    (judged_so (of_day a.sheet.now a.ins a.outs) a.guess _ _ (reads_guess a.guess (λ q e h. h) c.of_day-source.result c.for_guess.ensures (of_day a.sheet.now a.ins a.outs) _ c.of_day-source.ensures.reads) c.in_ok-x.was _ c.verdict_on.ensures) in
    record { result_value = met.0; verdict_demand = met.1.0; verdict_day = met.1.1 }

pub returns-in_err-x : goal.returns-in_err-x
returns-in_err-x c =
    let a = c.args in
    let met = verdict-met a.sheet.now a.ins a.outs a.guess (Err _) (verdict_turned_back (of_day a.sheet.now a.ins a.outs) a.guess _ _ (reads_guess a.guess (λ q e h. h) c.of_day-source.result c.for_guess.ensures (of_day a.sheet.now a.ins a.outs) _ c.of_day-source.ensures.reads) c.in_err-x.was) in
    let p = err_from_is_err_and c.from_residual.result c.from_residual.ensures.1 in
    rw (p.1, p.2) (record { result_value = met.0; verdict_demand = met.1.0; verdict_day = met.1.1 })
