-- What a call returned says of its steps, and of the words lent. Assumes nothing.
use Rattle.std.specs.Prelude.{ℕ, ◌≤◌, ◌<◌, ◌≡◌, refl, Bool, true, false, cond, ◌↔◌, ◌⊎◌, leb}
use Rattle.std.proofs.Common.{inl, inr, ⊎_elim, le-leb, leb-true, leb-false}
use Rattle.std.proofs.lemmas.Bool.{lt-leb}
use Rattle.sets.specs.Decides.{unequal}
use Rattle.semantics.specs.Definitions.Reading.{Reading, field, refused}
use Rattle.semantics.specs.Definitions.Returned.{Returned, accepted, refusal, read, ◌and_then◌, limited, answer}

-- no call is both accepted and refused
pub not_both : {A : Type 0} {r : Returned A} {v : A} {number place : ℕ} → r ≡ accepted v → r ≡ refusal number place → ⊥
not_both e d = unequal cc

-- ---- one step after the other
module _ {A B : Type 0} where
  pub then_accepted : (r : Returned A) (rest : A → Returned B) {w : B} → r and_then rest ≡ accepted w → (v : A) × (r ≡ accepted v) × (rest v ≡ accepted w)
  then_accepted (accepted v) rest e = (v, refl, e)
  then_accepted (refusal number place) rest e = unequal cc

  -- refused: the first step is, or the rest
  pub then_refused : (r : Returned A) (rest : A → Returned B) (n p : ℕ) → r and_then rest ≡ refusal n p
      ↔ ((r ≡ refusal n p) ⊎ ((v : A) × (r ≡ accepted v) × (rest v ≡ refusal n p)))
  then_refused (accepted v) rest n p = (
    λ e. inr (v, refl, e),
    ⊎_elim (λ e. unequal cc) (λ (w, e, d). let same : v ≡ w = cc in rw same d),
  )
  then_refused (refusal m q) rest n p = (
    λ e. inl cc,
    ⊎_elim (λ e. cc) (λ (w, e, d). unequal cc),
  )

-- ---- something of the values
module _ {A B : Type 0} (of : A → B) where
  pub answer_accepted : (r : Returned A) {b : B} → answer of r ≡ accepted b → (values : A) × (r ≡ accepted values) × (of values ≡ b)
  answer_accepted (accepted values) e = (values, refl, cc)
  answer_accepted (refusal number place) e = unequal cc

  pub answer_refused : (r : Returned A) {number place : ℕ} → answer of r ≡ refusal number place → r ≡ refusal number place
  answer_refused (accepted values) e = unequal cc
  answer_refused (refusal n p) e = cc

-- ---- a reading
module _ {A : Type 0} where
  pub read_accepted : (r : Reading A) {v : A} → read r ≡ accepted v → (end : ℕ) × (r ≡ field v end)
  read_accepted (field w end) e = (end, cc)
  read_accepted (refused number place) e = unequal cc

  pub read_refused : (r : Reading A) {n p : ℕ} → read r ≡ refusal n p → r ≡ refused n p
  read_refused (field v end) e = unequal cc
  read_refused (refused m q) e = cc

-- ---- one check
module _ {A : Type 0} (values : A) (number place : ℕ) where
  pub check-passed : (b : Bool) {w : A} → cond b (accepted values) (refusal number place) ≡ accepted w → (b ≡ true) × (values ≡ w)
  check-passed true e = (refl, cc)
  check-passed false e = unequal cc

  pub check_failed : (b : Bool) {n p : ℕ} → cond b (accepted values) (refusal number place) ≡ refusal n p → (b ≡ false) × (n ≡ number) × (p ≡ place)
  check_failed true e = unequal cc
  check_failed false e = (refl, cc, cc)

-- ---- values that need so many words
module _ {A : Type 0} (needed words number : ℕ) (values : A) where
  pub limited_fits : {w : A} → limited needed words number values ≡ accepted w → (values ≡ w) × (needed ≤ words)
  limited_fits e =
      let (b, same) = check-passed values 9 number (leb needed words) e in
      (same, leb-true needed words b)

  pub limited_short : {n p : ℕ} → limited needed words number values ≡ refusal n p → (words < needed) × (n ≡ 9) × (p ≡ number)
  limited_short e =
      let (b, n, p) = check_failed values 9 number (leb needed words) e in
      (leb-false needed words b, n, p)

  pub fits_limited : needed ≤ words → limited needed words number values ≡ accepted values
  fits_limited h = rw (le-leb needed words h)

  pub short_limited : words < needed → limited needed words number values ≡ refusal 9 number
  short_limited h = rw (lt-leb needed words h)
