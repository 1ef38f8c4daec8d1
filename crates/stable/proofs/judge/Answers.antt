-- `stable::judge` meets its contract. Assumes nothing.
use mathlib.Core.Path.{sym, subst, ◌∙◌}
use Rattle.sets.specs.Decides.{is_true}
use Rattle.semantics.specs.Words.{rule_in, program_in}
use Rattle.semantics.proofs.Theorems.Stable.{dec_smaller}
use Rattle.std.proofs.lemmas.Result.{err_from_is_err_and}
use Rattle.stable.specs.Nogoods.{rule_excludes}
use Rattle.stable.specs.Tested.{ReducedBy}
use Rattle.stable.proofs.Written.{unstable, searched, model_kept}
use Rattle.stable.proofs.Excluding.{among-program}
use Rattle.stable.proofs.Masked.{if_allowed, not_stable}
use Rattle.stable.proofs.judge.Goals as goal

pub returns-in_err-n-clause-judged_by : goal.returns-in_err-n-clause-judged_by
returns-in_err-n-clause-judged_by c =
    let a = c.args in
    let p = program_in a.program.now a.rules in
    let (j, there, fails, own) = c.in_err-n.ensures.reduced_by in
    let e = err_from_is_err_and c.from_residual.result c.from_residual.ensures.1 in
    rw (e.1, e.2) (sym (not_stable a.ins a.outs a.i p (unstable a.program.now a.rules a.i j there fails)), rw (own.has, own.lacks) (rule_excludes a.ins a.outs p (rule_in a.program.now j) (among-program a.program.now a.rules j there)))

pub smaller_model-requires : goal.smaller_model-requires
smaller_model-requires c =
    let a = c.args in
    let told = subst (ReducedBy a.program.now a.rules a.i c.reduce.new.out) c.in_ok-n.was c.reduce.ensures.reduced_by in
    model_kept a.program.now a.rules a.i c.reduce.new.out c.in_ok-n.n told

pub returns-in-Some-clause-judged_by : goal.returns-in-Some-clause-judged_by
returns-in-Some-clause-judged_by c =
    let a = c.args in
    let out = c.reduce.new.out in
    let told = subst (ReducedBy a.program.now a.rules a.i out) c.in_ok-n.was c.reduce.ensures.reduced_by in
    let p = program_in a.program.now a.rules in
    let some = sym (is_true (dec_smaller _ a.i) (c.in-Some.s, c.in-Some.ensures.0, c.in-Some.ensures.1)) in
    (sym (not_stable a.ins a.outs a.i p (searched a.program.now a.rules a.i out c.in_ok-n.n told some)), c.by_smaller.ensures a.ins a.outs)

pub returns-in-None-clause-judged_by : goal.returns-in-None-clause-judged_by
returns-in-None-clause-judged_by c =
    let a = c.args in
    let out = c.reduce.new.out in
    let told = subst (ReducedBy a.program.now a.rules a.i out) c.in_ok-n.was c.reduce.ensures.reduced_by in
    let p = program_in a.program.now a.rules in
    sym (if_allowed a.ins a.outs a.i p (sym c.has_and_lacks.ensures ∙ c.if-not-has_and_lacks.false) (searched a.program.now a.rules a.i out c.in_ok-n.n told (sym c.in-None.ensures)))
