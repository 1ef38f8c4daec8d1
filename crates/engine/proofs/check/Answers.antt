-- `engine::check` meets its contract. Assumes nothing.
use native.Mathlib.Omega.{arith}
use mathlib.Core.Path.{◌≡◌, sym, ap, ◌∙◌}
use mathlib.Core.List.{List}
use Prim.Native.Nat.{ℕ}
use Rattle.semantics.specs.Definitions.Check.{opened, numbers_of, check}
use Rattle.semantics.specs.Definitions.Returned.{accepted, refusal}
use Rattle.semantics.proofs.Theorems.Source.{said_accepted, said_refused}
use Rattle.sheet.specs.declared.Contents.{Contents}
use Rattle.std.specs.Prelude.{Ok, Err}
use Rattle.answers.specs.Refusals.{number_of}
use Rattle.answers.specs.declared.refusal.Refusal.{Refusal}
use Rattle.std.proofs.lemmas.Result.{err_from_is_err_and}
use Rattle.sheet.specs.Opened.{opened_of, opened_as, opened_refused}
use Rattle.engine.proofs.Laws.{check-met}
use Rattle.engine.proofs.check.Goals as goal

-- what the check returns, from what opening the sheet answers
of_accepted : (sheet : List ℕ) {x : Contents} → opened_of (opened sheet) ≡ Ok x
    → accepted (record { atoms = x.atoms; rules = x.rules; negations = x.negations }) ≡ check sheet
unfolding check
of_accepted sheet e =
    let (y, end, d, same) = opened_as (opened sheet) e in
    sym ((said_accepted numbers_of sheet _).1 (y, end, d, ap (λ x. record { atoms = x.atoms; rules = x.rules; negations = x.negations }) same))

of_refused : (sheet : List ℕ) {q : Refusal} → opened_of (opened sheet) ≡ Err q → refusal (number_of q.reason) q.place ≡ check sheet
unfolding check
of_refused sheet e = sym ((said_refused numbers_of sheet _ _).1 (opened_refused sheet e))

pub returns : goal.returns
returns c =
    let sheet = c.args.sheet.now in
    let met = check-met sheet (λ i. omega (arith, c.type_inv.sheet i)) _
    (of_accepted sheet (sym c.open.ensures ∙ c.in_ok-x.was)) in
    record { result_value = met.0; check_demand = met.1 }

pub returns-in_err-x : goal.returns-in_err-x
returns-in_err-x c =
    let sheet = c.args.sheet.now in
    let met = check-met sheet (λ i. omega (arith, c.type_inv.sheet i)) (Err _)
    (of_refused sheet (sym c.open.ensures ∙ c.in_err-x.was)) in
    let p = err_from_is_err_and c.from_residual.result c.from_residual.ensures.1 in
    rw (p.1, p.2) (record { result_value = met.0; check_demand = met.1 })
