-- Laws that several proofs cite. Assumes nothing.
use Prim.Native.Nat.{ℕ, ◌+◌, ◌≤◌}
use mathlib.Core.Path.{◌≡◌, refl, sym, ap, subst, ◌∙◌}
use mathlib.Core.Bool.{Bool, true}
use lib.Dec.{leb}
use borrow.Author.Tests.{leb-true}
use Rattle.sets.specs.Decides.{unequal}
use Rattle.semantics.specs.Definitions.Reading.{Reading, field, refused}
use Rattle.sheet.specs.declared.steps.Cursor.{Cursor}
use Rattle.answers.specs.declared.refusal.Refusal.{Refusal}
use Rattle.std.specs.Prelude.{Err}
use Rattle.sheet.specs.Refused.{refusal_of}
use Rattle.sheet.specs.Steps.{Field, Got, Refused, field_of}

-- what the answer of `present` says
pub there : (at n len : ℕ) {r : Bool} → r ≡ leb (at + n) len → r ≡ true → at + n ≤ len
there at n len answered e = leb-true (at + n) len (sym answered ∙ e)

-- what a step's answer says of its reading
module _ {A : Type 0} (number : A → ℕ) (cursor : A → ℕ → Cursor) (r : Reading A) {f : Field} (answered : f ≡ field_of number cursor r) where
  pub was_field : {v : ℕ} {c : Cursor} → f ≡ Got v c → (x : A) × (next : ℕ) × (r ≡ field x next) × (v ≡ number x) × (c ≡ cursor x next)
  was_field {v} {c} told = go r (sym answered ∙ told)
    where
      go : (q : Reading A) → field_of number cursor q ≡ Got v c → (x : A) × (next : ℕ) × (q ≡ field x next) × (v ≡ number x) × (c ≡ cursor x next)
      go (field x next) e =
          let both : (number x, cursor x next) ≡ (v, c) = cc in
          (x, next, refl, sym (ap (λ (p : ℕ × Cursor). p.0) both), sym (ap (λ (p : ℕ × Cursor). p.1) both))
      go (refused k p) e = unequal cc

  -- what holds of the refusal of any reading that is refused, holds of the refusal that the step answers
  pub refused_so : (Z : Refusal → Type 0) → ((n place : ℕ) → r ≡ refused n place → Z (refusal_of n place)) → {q : Refusal} → f ≡ Err q → Z q
  refused_so Z rest {q} told = go r refl (sym answered ∙ told)
    where
      go : (p : Reading A) → r ≡ p → field_of number cursor p ≡ Err q → Z q
      go (field x next) is e = unequal cc
      go (refused n place) is e =
          let same : refusal_of n place ≡ q = cc in
          subst Z same (rest n place is)

  pub was_refused : {answer : Field} → ((n place : ℕ) → r ≡ refused n place → Refused n place ≡ answer) → {q : Refusal} → f ≡ Err q → f ≡ answer
  was_refused {answer} rest told = told ∙ refused_so (λ q. Err q ≡ answer) rest told
