-- A loop over a step: the whole reading is what is left of it after i turns. It starts so, goes on, stops at a refusal, and is done. Where it is
-- known what each turn can yield, the whole is refused exactly as the first turn that is, and yields exactly where all do. Assumes nothing.
use Prim.Native.Nat.{ℕ, zero, suc, ◌+◌, ◌-◌, ◌≤◌, ◌<◌}
use Rattle.std.proofs.Common.{eq-or-lt_of_le, le_of_suc-le-suc, not-suc-le-zero, sym, ◌∙◌, subst, inl, inr, ⊎_elim}
use native.Mathlib.Omega.{arith}
use Rattle.std.specs.Prelude.{◌≡◌, refl, List, [], ◌∷◌, ◌++◌, map, ◌↔◌, ◌⊎◌}
use Rattle.std.proofs.Math.Path.{ap₂}
use Rattle.sets.specs.Decides.{unequal}
use Rattle.sets.specs.Lists.{up_to, map_up_to_suc}
use Rattle.semantics.specs.Definitions.Reading.{Reading, field, refused, ◌then◌, times}
use Rattle.semantics.specs.Theorems.Reading.{field_same}

-- what is left of n turns after i, as a recursion takes it
pub one_left : (n i : ℕ) → i < n → n - i ≡ suc (n - (i + 1))
one_left n i h = omega arith

module _ {A : Type 0} (step : List A → ℕ → Reading A) (n : ℕ) where
  pub starts : (at : ℕ) → times n [] step at ≡ times (n - 0) [] step at
  starts at =
      let e : n - 0 ≡ n = omega arith in
      rw e

  module _ (i at : ℕ) (earlier : List A) {whole : Reading (List A)} (left : whole ≡ times (n - i) earlier step at) where
    turn : i < n → whole ≡ (step earlier at then λ v next. times (n - (i + 1)) (earlier ++ v ∷ []) step next)
    unfolding times
    turn h = left ∙ rw (one_left n i h)

    pub goes_on : {v : A} {next : ℕ} → i < n → step earlier at ≡ field v next → whole ≡ times (n - (i + 1)) (earlier ++ v ∷ []) step next
    goes_on h e = turn h ∙ rw e

    pub stops : {k p : ℕ} → i < n → step earlier at ≡ refused k p → whole ≡ refused k p
    stops h e = turn h ∙ rw e

    pub is_done : n ≤ i → whole ≡ field earlier at
    unfolding times
    is_done h =
        let e : n - i ≡ 0 = omega arith in
        left ∙ rw e

-- Turns of which the turn i begins at a known place, and yields a known value if it yields one.
module _ {A : Type 0} (step : List A → ℕ → Reading A) (value : ℕ → A) (place : ℕ → ℕ) where
  -- the values before the turn i, and what it reads
  abbrev pub before : (i : ℕ) → List A
  before i = map value (up_to i)

  abbrev pub turn_at : (i : ℕ) → Reading A
  turn_at i = step (before i) (place i)

  abbrev pub Yields : (i : ℕ) → Type 0
  Yields i = turn_at i ≡ field (value i) (place (suc i))

  abbrev pub YieldBefore : (i : ℕ) → Type 0
  YieldBefore i = (j : ℕ) → j < i → Yields j

  -- some turn of n is refused so, and those before it yield
  abbrev pub FirstRefused : (n k p : ℕ) → Type 0
  FirstRefused n k p = (i : ℕ) × (i < n) × YieldBefore i × (turn_at i ≡ refused k p)

  come_to : (n i : ℕ) → i ≤ n → YieldBefore i → times n [] step (place 0) ≡ times (n - i) (before i) step (place i)
  unfolding up_to
  come_to n zero l g = starts step n (place 0)
  come_to n (suc i) l g =
      let z : n - (i + 1) ≡ n - suc i = omega arith in
      goes_on step n i (place i) (before i) (come_to n i (omega arith) (λ j h. g j (omega arith))) l (g i (omega arith))
      ∙ ap₂ (λ m vs. times m vs step (place (suc i))) z (sym (map_up_to_suc value i))

  pub stops_at : (n i : ℕ) {k p : ℕ} → i < n → YieldBefore i → turn_at i ≡ refused k p → times n [] step (place 0) ≡ refused k p
  stops_at n i l g e = stops step n i (place i) (before i) (come_to n i (omega arith) g) l e

  pub all_yield : (n : ℕ) → YieldBefore n → times n [] step (place 0) ≡ field (before n) (place n)
  all_yield n g = is_done step n n (place n) (before n) (come_to n n (omega arith) g) (omega arith)

  module _ (known : (i : ℕ) (v : A) (next : ℕ) → turn_at i ≡ field v next → Yields i) where
    yield_or_not : (n : ℕ) → YieldBefore n ⊎ ((k : ℕ) × (p : ℕ) × FirstRefused n k p)
    yield_or_not zero = inl (λ j l. absurd (not-suc-le-zero l))
    yield_or_not (suc n) =
        ⊎_elim (λ g. go g (turn_at n) refl) (λ (k, p, (i, l, g, e)). inr (k, p, (i, omega arith, g, e))) (yield_or_not n)
      where
        go : YieldBefore n → (r : Reading A) → turn_at n ≡ r → YieldBefore (suc n) ⊎ ((k : ℕ) × (p : ℕ) × FirstRefused (suc n) k p)
        go g (field v next) e =
            inl (λ j l. ⊎_elim (λ same. subst Yields (sym same) (known n v next e)) (g j) (eq-or-lt_of_le (le_of_suc-le-suc l)))
        go g (refused k p) e = inr (k, p, (n, omega arith, g, e))

    pub refused_exactly : (n k p : ℕ) → times n [] step (place 0) ≡ refused k p ↔ FirstRefused n k p
    refused_exactly n k p = (
      λ e. ⊎_elim
          (λ g. let d = sym (all_yield n g) ∙ e in unequal cc)
          (λ (m, q, (i, l, g, r)). let d = sym (stops_at n i l g r) ∙ e in (i, l, g, cc))
          (yield_or_not n),
      λ (i, l, g, r). stops_at n i l g r,
    )

    pub yields_exactly : (n : ℕ) (vs : List A) (end : ℕ) → times n [] step (place 0) ≡ field vs end ↔ (YieldBefore n × (vs ≡ before n) × (end ≡ place n))
    yields_exactly n vs end = (
      λ e. ⊎_elim
          (λ g. let (same, last) = field_same (sym (all_yield n g) ∙ e) in (g, same, last))
          (λ (m, q, (i, l, g, r)). let d = sym (stops_at n i l g r) ∙ e in unequal cc)
          (yield_or_not n),
      λ (g, same, last). all_yield n g ∙ ap₂ field (sym same) (sym last),
    )
