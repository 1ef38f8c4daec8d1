-- What a reading that yields a field has come through: its steps, its checks, and the same step several times; and what refuses two steps, a
-- check, and a reading with one check more. Assumes nothing.
use Prim.Native.Nat.{ℕ, zero, suc, ◌+◌}
use Rattle.std.specs.Prelude.{◌≡◌, refl, Bool, true, false, List, [], ◌∷◌, ◌++◌, ◌↔◌, ◌⊎◌, length}
use Rattle.std.proofs.Common.{sym, ap, ap₂, subst, ◌∙◌, inl, inr, ⊎_elim, length-append}
use native.Mathlib.Omega.{arith}
use Rattle.sets.specs.Decides.{unequal, Decides, is_false, dec_self}
use Rattle.semantics.specs.Definitions.Reading.{Reading, field, refused, ◌then◌, require, times}

pub then_field : {A B : Type 0} (r : Reading A) (rest : A → ℕ → Reading B) {w : B} {end : ℕ} → r then rest ≡ field w end
    → (v : A) × (next : ℕ) × (r ≡ field v next) × (rest v next ≡ field w end)
then_field (field v next) rest e = (v, next, refl, e)
then_field (refused number place) rest e = unequal cc

-- a step that yields a field, and then the rest
pub then_is : {A B : Type 0} {r : Reading A} {v : A} {next : ℕ} (rest : A → ℕ → Reading B) {x : Reading B} → r ≡ field v next → rest v next ≡ x
    → (r then rest) ≡ x
then_is rest e f = ap (λ r. r then rest) e ∙ f

pub field_same : {A : Type 0} {v w : A} {m n : ℕ} → field v m ≡ field w n → (w ≡ v) × (n ≡ m)
field_same e = (cc, cc)

-- refused: the first step is, or the rest
pub then_refused : {A B : Type 0} (r : Reading A) (rest : A → ℕ → Reading B) (n p : ℕ) → (r then rest) ≡ refused n p
    ↔ ((r ≡ refused n p) ⊎ ((v : A) × (next : ℕ) × (r ≡ field v next) × (rest v next ≡ refused n p)))
then_refused (field v next) rest n p = (
  λ e. inr (v, next, refl, e),
  ⊎_elim (λ e. unequal cc) (λ (w, m, e, d). let (same, last) = field_same e in rw (← same, ← last) d),
)
then_refused (refused m q) rest n p = (
  λ e. inl cc,
  ⊎_elim (λ e. cc) (λ (w, next, e, d). unequal cc),
)

module _ {A : Type 0} where
  pub require_field : (b : Bool) (number place : ℕ) (rest : Reading A) {v : A} {next : ℕ} → require b number place rest ≡ field v next
      → (b ≡ true) × (rest ≡ field v next)
  require_field true number place rest e = (refl, e)
  require_field false number place rest e = unequal cc

  -- a check that is passed, and one that is not
  pub require-passes : {b : Bool} (number place : ℕ) (rest : Reading A) → b ≡ true → require b number place rest ≡ rest
  require-passes number place rest e = ap (λ b. require b number place rest) e

  -- and then the rest
  pub require_is : {b : Bool} (number place : ℕ) {rest x : Reading A} → b ≡ true → rest ≡ x → require b number place rest ≡ x
  require_is number place {rest} e f = require-passes number place rest e ∙ f

  pub require_fails : {b : Bool} (number place : ℕ) (rest : Reading A) → b ≡ false → require b number place rest ≡ refused number place
  require_fails number place rest e = ap (λ b. require b number place rest) e

  -- a check whose test decides P: refused so where not P, or where P and the rest is refused
  pub test_refused : {P : Type 0} {b : Bool} → Decides P b → (number place : ℕ) (rest : Reading A) (n p : ℕ) → require b number place rest ≡ refused n p
      ↔ (((P → ⊥) × (n ≡ number) × (p ≡ place)) ⊎ (P × (rest ≡ refused n p)))
  test_refused {b = true} d number place rest n p = (λ e. inr (d.yes refl, e), ⊎_elim (λ h. absurd (h.0 (d.yes refl))) (λ h. h.1))
  test_refused {b = false} d number place rest n p = (
    λ e. inl (d.no refl, cc, cc),
    ⊎_elim (λ h. ap₂ refused (sym h.1) (sym h.2)) (λ h. absurd (d.no refl h.0)),
  )

  -- the last check, before a field
  pub last_refused : {P : Type 0} {b : Bool} → Decides P b → (number place : ℕ) (v : A) (next n p : ℕ)
      → require b number place (field v next) ≡ refused n p ↔ ((P → ⊥) × (n ≡ number) × (p ≡ place))
  last_refused d number place v next n p =
      let both = test_refused d number place (field v next) n p in
      (λ e. ⊎_elim (λ h. h) (λ (_, f). unequal cc) (both.0 e), λ h. both.1 (inl h))

  -- the check is not passed after the reading r, and is refused so
  pub record NotPassed (r : Reading A) (passed : A → Bool) (number place : ℕ) (n p : ℕ) : Type 0 where
    pub value : A
    pub next : ℕ
    pub yields : r ≡ field value next
    pub fails : passed value ≡ false
    pub numbered : n ≡ number
    pub placed : p ≡ place

  -- refused: the reading is, or the check after it is not passed
  pub require_refused : (r : Reading A) (passed : A → Bool) (number place n p : ℕ)
      → (r then λ value next. require (passed value) number place (field value next)) ≡ refused n p
      ↔ ((r ≡ refused n p) ⊎ NotPassed r passed number place n p)
  require_refused r passed number place n p =
      let both = then_refused r (λ value next. require (passed value) number place (field value next)) n p in (
        λ e. ⊎_elim inl (λ (v, next, y, f).
            let (b, m, q) = (last_refused (dec_self (passed v)) number place v next n p).0 f in
            inr (record { value = v; next = next; yields = y; fails = is_false (dec_self (passed v)) b; numbered = m; placed = q })) (both.0 e),
        ⊎_elim (λ e. both.1 (inl e)) (λ h.
            let v = h.value in
            let d = dec_self (passed v) in
            both.1 (inr (v, h.next, h.yields, (last_refused d number place v h.next n p).1 (d.no h.fails, h.numbered, h.placed)))),
      )

  -- what each step keeps, of the number of fields, the fields and the place, holds where all have been taken
  module _ (step : List A → ℕ → Reading A) (P : ℕ → List A → ℕ → Type 0)
      (each : (i : ℕ) (vs : List A) (at : ℕ) (v : A) (next : ℕ) → P i vs at → step vs at ≡ field v next → P (suc i) (vs ++ v ∷ []) next) where
    kept : (n i : ℕ) (vs : List A) (at : ℕ) (ws : List A) (end : ℕ) → P i vs at → times n vs step at ≡ field ws end → P (i + n) ws end
    unfolding times
    kept zero i vs at ws end p e =
        let (ew, ee) = field_same e in
        let z : i + 0 ≡ i = omega arith in
        rw (z, ew, ee) p
    kept (suc n) i vs at ws end p e =
        let (v, next, d, r) = then_field (step vs at) (λ v next. times n (vs ++ v ∷ []) step next) e in
        let z : i + suc n ≡ suc i + n = omega arith in
        rw z (kept n (suc i) (vs ++ v ∷ []) next ws end (each i vs at v next p d) r)

    pub times_field : (n at : ℕ) {ws : List A} {end : ℕ} → P 0 [] at → times n [] step at ≡ field ws end → P n ws end
    times_field n at {ws} {end} p e =
        let z : 0 + n ≡ n = omega arith in
        subst (λ m. P m ws end) z (kept n 0 [] at ws end p e)

  pub times-length : (step : List A → ℕ → Reading A) (n at : ℕ) {ws : List A} {end : ℕ} → times n [] step at ≡ field ws end → length ws ≡ n
  times-length step n at e = times_field step (λ i vs _. length vs ≡ i) (λ i vs p v _ h _. length-append vs (v ∷ []) ∙ omega arith) n at refl e
