-- What opening a sheet answers, and what the answer says. Assumes nothing.
use Rattle.std.specs.Prelude.{ℕ, ◌≡◌, ◌≤◌, refl, List, length, Result, Ok, Err}
use Rattle.std.proofs.Common.{⊎_elim, arith, sym, ap, ◌∙◌}
use Rattle.sets.specs.Decides.{unequal}
use Rattle.semantics.specs.Definitions.Reading.{Reading, field, refused}
use Rattle.semantics.specs.Definitions.Sheet.{Sheet, atoms}
use Rattle.semantics.specs.Definitions.Setting.{k}
use Rattle.semantics.specs.Definitions.Check.{setting, opened}
use Rattle.semantics.specs.Fields.{k_atoms, m_atoms}
use Rattle.sheet.specs.declared.Contents.{Contents}
use Rattle.answers.specs.Refusals.{number_of, reason_of}
use Rattle.answers.specs.declared.refusal.Refusal.{Refusal}
use Rattle.semantics.proofs.Theorems.Places.{refusal_number}
use Rattle.sheet.specs.Refused.{refusal_of, numbered}

-- what is kept of an accepted sheet
abbrev pub contents : Sheet → Contents
contents x = record {
  atoms = atoms x;
  rules = length x.rules;
  pairs = length x.pairs;
  negations = k (setting x);
  rules_at = x.rules_at;
  k_atoms = k_atoms x.rules;
  m_atoms = m_atoms x.rules;
}

-- a reading of the sheet as the answer of `open`
abbrev pub opened_of : Reading Sheet → Result Contents Refusal
opened_of (field x end) = Ok (contents x)
opened_of (refused number place) = Err (refusal_of number place)

pub opened_as : (r : Reading Sheet) {x : Contents} → opened_of r ≡ Ok x → (y : Sheet) × (end : ℕ) × (r ≡ field y end) × (x ≡ contents y)
opened_as (field y end) e = (y, end, refl, cc)
opened_as (refused number place) e = unequal cc

-- the number and the place of a refusal are the reading's, of any reading that is refused by a number of the documents
pub opened_refused_by : (r : Reading Sheet) {q : Refusal} → ((n place : ℕ) → r ≡ refused n place → (1 ≤ n) × (n ≤ 15)) → opened_of r ≡ Err q
    → r ≡ refused (number_of q.reason) q.place
opened_refused_by (field x end) few e = unequal cc
opened_refused_by (refused n p) {q} few e =
    let same : refusal_of n p ≡ q = cc in
    let one : number_of (reason_of n) ≡ n = numbered n (few n p refl).0 (few n p refl).1 in
    (λ i. refused (sym one i) p) ∙ ap (λ z. refused (number_of z.reason) z.place) same

-- as every reading of bytes is
pub opened_refused : (s : List ℕ) {q : Refusal} → opened_of (opened s) ≡ Err q → opened s ≡ refused (number_of q.reason) q.place
opened_refused s =
    opened_refused_by (opened s) (λ n p o. ⊎_elim (λ b. (b.0, omega (arith, b.1))) (λ b. (omega (arith, b), omega (arith, b))) (refusal_number s n p o))

-- x is kept of the accepted sheet that the bytes are
abbrev pub Holds : List ℕ → Contents → Type 0
Holds s x = (y : Sheet) × (end : ℕ) × (opened s ≡ field y end) × (x ≡ contents y)
