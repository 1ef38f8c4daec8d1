-- `engine::belief_sets` meets its contract. Assumes nothing.
use mathlib.Core.Path.{◌≡◌, subst}
use native.Mathlib.Omega.{arith}
use lib.ListN.{length}
use lib.Seq.{length-take-le}
use Rattle.semantics.specs.Definitions.Day.{of_day}
use Rattle.semantics.specs.Definitions.Returned.{refusal}
use Rattle.semantics.specs.Definitions.Calls.{for_guess, belief_sets_call}
use Rattle.source.proofs.Checks.{reads_guess}
use Rattle.source.proofs.Read.{within, outlined}
use Rattle.std.specs.Prelude.{Ok, Err}
use Rattle.sheet.specs.Refused.{refusal_of}
use Rattle.std.proofs.lemmas.Result.{err_from_is_err_and}
use Rattle.engine.proofs.Laws.{guess_fits, sets_returned, too_short, sets_turned_back, kept, filled, sets-met}
use borrow.Author.Rules.{rules}
use Rattle.engine.proofs.belief_sets.Goals as goal

pub for_guess-requires : goal.for_guess-requires
for_guess-requires c =
    let a = c.args in
    within (of_day a.sheet.now a.ins a.outs) _ c.of_day-source.result c.of_day-source.ensures.reads

pub overflow_cast-guess : goal.overflow_cast-guess
overflow_cast-guess c =
    let a = c.args in
    omega (arith, guess_fits (of_day a.sheet.now a.ins a.outs) a.guess _ _ (reads_guess a.guess (λ q e h. h) c.of_day-source.result c.for_guess.ensures (of_day a.sheet.now a.ins a.outs) _ c.of_day-source.ensures.reads) c.in_ok-x.was)

pub belief_sets-n-requires : goal.belief_sets-n-requires
belief_sets-n-requires c =
    let a = c.args in
    (outlined (for_guess (of_day a.sheet.now a.ins a.outs) a.guess) _ _ (reads_guess a.guess (λ q e h. h) c.of_day-source.result c.for_guess.ensures (of_day a.sheet.now a.ins a.outs) _ c.of_day-source.ensures.reads) c.in_ok-x.was, search rules)

pub returns-then-out-n : goal.returns-then-out-n
returns-then-out-n c =
    let a = c.args in
    let from = of_day a.sheet.now a.ins a.outs in
    let many = length-take-le c.belief_sets-n.result c.belief_sets-n.new.out (omega (arith, c.belief_sets-n.ensures.out_len_unchanged, c.belief_sets-n.ensures.upper_bound)) in
    let met = sets-met a.sheet.now a.ins a.outs a.guess a.out.now (Err (refusal_of 9 _)) a.out.now
    (kept length (λ w. w) a.out.now (subst (λ n. belief_sets_call from a.guess (length a.out.now) ≡ refusal 9 n) many
    (too_short from a.guess _ _ (reads_guess a.guess (λ q e h. h) c.of_day-source.result c.for_guess.ensures (of_day a.sheet.now a.ins a.outs) _ c.of_day-source.ensures.reads) c.in_ok-x.was _ c.belief_sets-n.ensures.out_after (length a.out.now) (omega (arith, many, c.if-out-n.true))))) in
    record { result_value = met.0; out_after = met.1.0; sets_demand = met.1.1.0; sets_day = met.1.1.1.0; sets_opposites = met.1.1.1.1 }

pub returns : goal.returns
returns c =
    let a = c.args in
    let from = of_day a.sheet.now a.ins a.outs in
    let many = length-take-le c.belief_sets-n.result c.belief_sets-n.new.out (omega (arith, c.belief_sets-n.ensures.out_len_unchanged, c.belief_sets-n.ensures.upper_bound)) in
    let met = sets-met a.sheet.now a.ins a.outs a.guess a.out.now (Ok _) _
    (filled length (λ w. w) a.out.now
    (sets_returned from a.guess _ _ (reads_guess a.guess (λ q e h. h) c.of_day-source.result c.for_guess.ensures (of_day a.sheet.now a.ins a.outs) _ c.of_day-source.ensures.reads) c.in_ok-x.was _ c.belief_sets-n.ensures.out_after (length a.out.now) (omega (arith, many, c.if-out-n.false)))
    many c.write.ensures) in
    record { result_value = met.0; out_after = met.1.0; sets_demand = met.1.1.0; sets_day = met.1.1.1.0; sets_opposites = met.1.1.1.1 }

pub returns-in_err-x : goal.returns-in_err-x
returns-in_err-x c =
    let a = c.args in
    let from = of_day a.sheet.now a.ins a.outs in
    let met = sets-met a.sheet.now a.ins a.outs a.guess a.out.now (Err _) a.out.now
    (kept length (λ w. w) a.out.now (sets_turned_back from a.guess _ _ (reads_guess a.guess (λ q e h. h) c.of_day-source.result c.for_guess.ensures (of_day a.sheet.now a.ins a.outs) _ c.of_day-source.ensures.reads) c.in_err-x.was (length a.out.now))) in
    let p = err_from_is_err_and c.from_residual.result c.from_residual.ensures.1 in
    rw (p.1, p.2) (record { result_value = met.0; out_after = met.1.0; sets_demand = met.1.1.0; sets_day = met.1.1.1.0; sets_opposites = met.1.1.1.1 })
