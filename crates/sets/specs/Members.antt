-- The members of each set that is made of others, and what the tests decide. Here the laws of bits end. Assumes nothing.
use Prim.Native.Nat.{ℕ, zero, suc, ◌+◌, ◌-◌, ◌*◌, ◌/◌, ◌%◌, ◌^◌, ◌≤◌, ◌<◌, min, max}
use Rattle.std.specs.Prelude.{◌≡◌, refl, Bool, not, ◌&&◌, ◌↔◌, ◌⊎◌, eqb, get_or}
use Rattle.std.proofs.Common.{sym, ap₂, ◌∙◌, subst, true≢false, eq-zero-or-pos, eq-or-lt_of_le, le_of_suc-le-suc, not-suc-le-zero, lt_of_lt_of_le, lt_of_not-le, shr-shr, pow-add, pow_mono, pow_pos}
use Rattle.std.proofs.Math.Path.{ap}
use Rattle.std.proofs.Math.Bool.{true, false, cond}
use mathlib.Core.List.{List, [], ◌∷◌, foldl}
use Rattle.std.proofs.Math.Logic.{inl, inr, ⊎_elim}
use native.Mathlib.Omega.{arith}
use Rattle.std.proofs.Math.Nat.{zero-div, div-eq_of_lt, one-mul, pow-suc}
use Rattle.std.proofs.Math.Arith.{bin_ind}
use Rattle.std.specs.Int.Bits.{and_step, or_step, or_zero_l}
use Rattle.std.proofs.lemmas.Nat.{and_shr, or_shr, and_le_l, and_le_r, or_shifted, shl-shr}
use Rattle.std.proofs.Math.Pow.{pow-lt}
use Rattle.sets.specs.Decides.{is_true, Decides, decided, dec_one, dec_iff, dec_not, dec_and, dec_eq, dec_le}
use Rattle.sets.specs.Lists.{◌among◌, here, later, nowhere, first_or_later, all_cons, all_get_d}
use Rattle.sets.specs.Sets.{◌∈◌, ◌⊆◌, ◌⊂◌, Meets, Below, ◌∈?◌, ◌⊆?◌, ◌⊂?◌, ◌meets?◌, ◌∩◌, ◌∪◌, ◌∖◌, ∅, full, single, set_of, ⋂, ⋃}

-- ---- a member, by its bit
pub dec_∈ : (a x : ℕ) → Decides (a ∈ x) (a ∈? x)
dec_∈ a x = dec_iff (λ e. record { bit = e }, λ m. m.bit) (dec_eq (x / 2 ^ a % 2) 1)

pub ∈_below : {a n x : ℕ} → x < 2 ^ n → a ∈ x → a < n
∈_below {a} {n} {x} l m = lt_of_not-le (λ q. let z = div-eq_of_lt (lt_of_lt_of_le l (pow_mono q)) in omega (arith, m.bit))

pub ∈-∅ : {a : ℕ} → a ∈ ∅ → ⊥
∈-∅ {a} m = omega (arith, m.bit, zero-div (2 ^ a))

lowest : (x : ℕ) → 0 ∈ x ↔ (x % 2 ≡ 1)
lowest x = (λ m. omega (arith, m.bit), λ e. record { bit = omega arith })

-- a digit of x is one of x / 2
digit_half : (a x : ℕ) → x / 2 ^ suc a % 2 ≡ x / 2 / 2 ^ a % 2
digit_half a x = ap (λ z. x / 2 ^ z % 2) (omega arith) ∙ ap (λ z. z % 2) (sym (shr-shr x 1 a))

halved : (a x : ℕ) → suc a ∈ x ↔ a ∈ x / 2
halved a x = (λ m. record { bit = sym (digit_half a x) ∙ m.bit }, λ m. record { bit = digit_half a x ∙ m.bit })

pub some-member : (x : ℕ) → 0 < x → (a : ℕ) × (a ∈ x)
some-member =
    bin_ind (λ x. 0 < x → (a : ℕ) × (a ∈ x)) (λ l. absurd (omega arith))
    (λ x ih l.
    ⊎_elim (λ e. (0, (lowest x).1 e)) (λ n. let (a, m) = ih (omega arith) in (suc a, (halved a x).1 m)) (decided (dec_eq (x % 2) 1)))

-- sets with the same members are one
pub ∈_ext : (x y : ℕ) → ((a : ℕ) → a ∈ x ↔ a ∈ y) → x ≡ y
∈_ext =
    bin_ind (λ x. (y : ℕ) → ((a : ℕ) → a ∈ x ↔ a ∈ y) → x ≡ y)
    (λ y f. ⊎_elim sym (λ l. let (a, m) = some-member y l in absurd (∈-∅ ((f a).1 m))) (eq-zero-or-pos y))
    (λ x ih y f.
    let h = ih (y / 2) (λ a. (λ m. (halved a y).0 ((f (suc a)).0 ((halved a x).1 m)), λ m. (halved a x).0 ((f (suc a)).1 ((halved a y).1 m)))) in
    ⊎_elim (λ e. let q = (lowest y).0 ((f 0).0 ((lowest x).1 e)) in omega arith)
    (λ n. let q : y % 2 ≡ 1 → ⊥ = λ e. n ((lowest x).0 ((f 0).1 ((lowest y).1 e))) in omega arith)
    (decided (dec_eq (x % 2) 1)))

-- ---- intersection and union
module _ (a x y : ℕ) where
  digit_∩ : (x ∩ y) / 2 ^ a % 2 ≡ min (x / 2 ^ a % 2) (y / 2 ^ a % 2)
  digit_∩ = ap (λ z. z % 2) (and_shr x y a) ∙ omega (arith, and_step (x / 2 ^ a) (y / 2 ^ a))

  digit_∪ : (x ∪ y) / 2 ^ a % 2 ≡ max (x / 2 ^ a % 2) (y / 2 ^ a % 2)
  digit_∪ = ap (λ z. z % 2) (or_shr x y a) ∙ omega (arith, or_step (x / 2 ^ a) (y / 2 ^ a))

  pub ∈-∩ : a ∈ x ∩ y ↔ ((a ∈ x) × (a ∈ y))
  ∈-∩ = (
    λ m. (record { bit = omega (arith, digit_∩) }, record { bit = omega (arith, digit_∩) }),
    λ p. record { bit = omega (arith, digit_∩) },
  )

  pub ∈-∪ : a ∈ x ∪ y ↔ ((a ∈ x) ⊎ (a ∈ y))
  ∈-∪ = (
    λ m. ⊎_elim inl (λ n. let q : x / 2 ^ a % 2 ≡ 1 → ⊥ = λ e. n (record { bit = e }) in inr (record { bit = omega (arith, digit_∪) })) (decided (dec_∈ a x)),
    ⊎_elim (λ m. record { bit = omega (arith, digit_∪) }) (λ m. record { bit = omega (arith, digit_∪) }),
  )

pub ∅-∪ : (x : ℕ) → ∅ ∪ x ≡ x
∅-∪ x = or_zero_l x

-- the members of x that are not in y: the last digit of their number, and the others
minus_step : (x y : ℕ) → ((x ∖ y) % 2 ≡ x % 2 - y % 2) × ((x ∖ y) / 2 ≡ (x / 2) ∖ (y / 2))
minus_step x y = go (x ∩ y) ((x / 2) ∩ (y / 2)) (decided (dec_eq (x % 2) 1)) (decided (dec_eq (y % 2) 1)) (and_step x y) (and_le_l (x / 2) (y / 2))
  where
    go : (b c : ℕ) → (x % 2 ≡ 1) ⊎ (x % 2 ≡ 1 → ⊥) → (y % 2 ≡ 1) ⊎ (y % 2 ≡ 1 → ⊥) → b ≡ c * 2 + min (x % 2) (y % 2) → c ≤ x / 2
        → ((x - b) % 2 ≡ x % 2 - y % 2) × ((x - b) / 2 ≡ x / 2 - c)
    go b c (inl p) (inl q) e l = (omega arith, omega arith)
    go b c (inl p) (inr q) e l = (omega arith, omega arith)
    go b c (inr p) (inl q) e l = (omega arith, omega arith)
    go b c (inr p) (inr q) e l = (omega arith, omega arith)

digit_∖ : (a x y : ℕ) → (x ∖ y) / 2 ^ a % 2 ≡ x / 2 ^ a % 2 - y / 2 ^ a % 2
digit_∖ zero x y = ap (λ z. z % 2) (whole (x ∖ y)) ∙ (minus_step x y).0 ∙ ap₂ (λ u v. u % 2 - v % 2) (sym (whole x)) (sym (whole y))
  where
    whole : (z : ℕ) → z / 2 ^ 0 ≡ z
    whole z = omega arith
digit_∖ (suc a) x y =
    digit_half a (x ∖ y) ∙ ap (λ z. z / 2 ^ a % 2) (minus_step x y).1 ∙ digit_∖ a (x / 2) (y / 2)
    ∙ ap₂ ◌-◌ (sym (digit_half a x)) (sym (digit_half a y))

pub ∈-∖ : (a x y : ℕ) → a ∈ x ∖ y ↔ ((a ∈ x) × (a ∈ y → ⊥))
∈-∖ a x y = (
  λ m. (record { bit = omega (arith, m.bit, digit_∖ a x y) }, λ n. omega (arith, m.bit, n.bit, digit_∖ a x y)),
  λ p. record { bit = let n : y / 2 ^ a % 2 ≡ 1 → ⊥ = λ e. p.1 (record { bit = e }) in omega (arith, p.0.bit, digit_∖ a x y) },
)

-- ---- subsets
pub ⊆_refl : {x : ℕ} → x ⊆ x
⊆_refl = record { into = λ m. m }

pub ⊆_trans : {x y z : ℕ} → x ⊆ y → y ⊆ z → x ⊆ z
⊆_trans s t = record { into = λ m. t.into (s.into m) }

pub ⊆_antisym : {x y : ℕ} → x ⊆ y → y ⊆ x → x ≡ y
⊆_antisym {x} {y} s t = ∈_ext x y (λ a. (λ m. s.into m, λ m. t.into m))

pub ∅-⊆ : {x : ℕ} → ∅ ⊆ x
∅-⊆ = record { into = λ m. absurd (∈-∅ m) }

⊆-∩ : {x y : ℕ} → x ⊆ y → x ∩ y ≡ x
⊆-∩ {x} {y} s = ∈_ext (x ∩ y) x (λ a. (λ m. ((∈-∩ a x y).0 m).0, λ m. (∈-∩ a x y).1 (m, s.into m)))

pub dec_⊆ : (x y : ℕ) → Decides (x ⊆ y) (x ⊆? y)
dec_⊆ x y = dec_iff (λ e. record { into = λ {a} m. ((∈-∩ a x y).0 (subst (λ z. a ∈ z) (sym e) m)).1 }, ⊆-∩) (dec_eq (x ∩ y) x)

pub ⊆_le : {x y : ℕ} → x ⊆ y → x ≤ y
⊆_le {x} {y} s = omega (arith, ⊆-∩ s, and_le_r x y)

pub dec_⊂ : (x y : ℕ) → Decides (x ⊂ y) (x ⊂? y)
dec_⊂ x y = dec_iff (λ p. record { within = p.0; differ = p.1 }, λ s. (s.within, s.differ)) (dec_and (dec_⊆ x y) (dec_not (dec_eq x y)))

pub ⊂_less : {x y : ℕ} → x ⊂ y → x < y
⊂_less s = let h = ⊆_le s.within in let n = s.differ in omega arith

pub ⊂_⊆_trans : {x y z : ℕ} → x ⊂ y → y ⊆ z → x ⊂ z
⊂_⊆_trans {x} {y} s t = record {
  within = ⊆_trans s.within t;
  differ = λ e. s.differ (⊆_antisym s.within (subst (λ w. y ⊆ w) (sym e) t));
}

pub ∩-⊆ : (x y : ℕ) → x ∩ y ⊆ y
∩-⊆ x y = record { into = λ {a} m. ((∈-∩ a x y).0 m).1 }

pub ∩_⊆_left : (x y : ℕ) → x ∩ y ⊆ x
∩_⊆_left x y = record { into = λ {a} m. ((∈-∩ a x y).0 m).0 }

pub ∖-⊆ : (x y : ℕ) → x ∖ y ⊆ x
∖-⊆ x y = record { into = λ {a} m. ((∈-∖ a x y).0 m).0 }

pub ⊆_∪_left : (x y : ℕ) → x ⊆ x ∪ y
⊆_∪_left x y = record { into = λ {a} m. (∈-∪ a x y).1 (inl m) }

pub ⊆_∪_right : (x y : ℕ) → y ⊆ x ∪ y
⊆_∪_right x y = record { into = λ {a} m. (∈-∪ a x y).1 (inr m) }

-- a union without a member: neither set has one
pub ∪-∅ : (x y : ℕ) → x ∪ y ≡ ∅ → (x ≡ ∅) × (y ≡ ∅)
∪-∅ x y e = (omega (arith, e, ⊆_le (⊆_∪_left x y)), omega (arith, e, ⊆_le (⊆_∪_right x y)))

-- the subsets of y by falling number: below s, a subset, the next is (s - 1) ∩ y
next_subset : (s y t : ℕ) → s ∩ y ≡ s → t ∩ y ≡ t → t < s → t ≤ (s - 1) ∩ y
next_subset = bin_ind (λ s. (y t : ℕ) → s ∩ y ≡ s → t ∩ y ≡ t → t < s → t ≤ (s - 1) ∩ y) (λ y t p q l. absurd (omega arith)) step
  where
    step : (s : ℕ) → ((y t : ℕ) → s / 2 ∩ y ≡ s / 2 → t ∩ y ≡ t → t < s / 2 → t ≤ (s / 2 - 1) ∩ y)
        → (y t : ℕ) → s ∩ y ≡ s → t ∩ y ≡ t → t < s → t ≤ (s - 1) ∩ y
    step s ih y t p q l =
        ⊎_elim (λ e.
        let half : (s - 1) / 2 ≡ s / 2 = omega arith in
        omega (arith, and_step s y, and_step (s - 1) y, ap (λ (x : ℕ). x ∩ (y / 2)) half))
        (λ n.
        let half : (s - 1) / 2 ≡ s / 2 - 1 = omega arith in
        let r : t / 2 ≤ (s / 2 - 1) ∩ (y / 2) = ih (y / 2) (t / 2) (omega (arith, and_step s y)) (omega (arith, and_step t y)) (omega arith) in
        omega (arith, and_step t y, and_step (s - 1) y, ap (λ (x : ℕ). x ∩ (y / 2)) half))
        (decided (dec_eq (s % 2) 1))

pub none_between : {s t y : ℕ} → s ⊆ y → t ⊆ y → (s - 1) ∩ y ≤ t → (t ≡ (s - 1) ∩ y) ⊎ (s ≤ t)
none_between {s} {t} {y} p q l =
    ⊎_elim inr (λ n. inl (omega (arith, next_subset s y t (⊆-∩ p) (⊆-∩ q) (lt_of_not-le n)))) (decided (dec_le s t))

pub next_less : (s y : ℕ) → 0 < s → (s - 1) ∩ y < s
next_less s y l = omega (arith, and_le_l (s - 1) y)

-- ---- sets that meet
pub dec_meets : (x y : ℕ) → Decides (Meets x y) (x meets? y)
dec_meets x y =
    dec_iff (
      λ n. let (a, m) = some-member (x ∩ y) (omega arith) in
          let (l, r) = (∈-∩ a x y).0 m in record { common = a; left = l; right = r },
      λ m e. ∈-∅ (subst (λ z. m.common ∈ z) e ((∈-∩ m.common x y).1 (m.left, m.right))),
    ) (dec_not (dec_eq (x ∩ y) 0))

pub meets-⊆ : {x y z : ℕ} → Meets x y → y ⊆ z → Meets x z
meets-⊆ m s = record { common = m.common; left = m.left; right = s.into m.right }

-- ---- a union of sets within another, and one that meets another
module _ (x y z : ℕ) where
  pub ∪-⊆ : (x ∪ y ⊆ z) ↔ ((x ⊆ z) × (y ⊆ z))
  ∪-⊆ = (
    λ s. (record { into = λ {a} m. s.into ((∈-∪ a x y).1 (inl m)) }, record { into = λ {a} m. s.into ((∈-∪ a x y).1 (inr m)) }),
    λ p. record { into = λ {a} m. ⊎_elim p.0.into p.1.into ((∈-∪ a x y).0 m) },
  )

-- ---- a set that has every member of x and lacks every member of y
pub has_and_lacks : (i x y : ℕ) → eqb (x ∖ i ∪ y ∩ i) ∅ ≡ (x ⊆? i) && not (y meets? i)
has_and_lacks i x y = dec_one (dec_iff (from_empty, to_empty) (dec_eq (x ∖ i ∪ y ∩ i) ∅)) (dec_and (dec_⊆ x i) (dec_not (dec_meets y i)))
  where
    nowhere_in : (a : ℕ) → x ∖ i ∪ y ∩ i ≡ ∅ → (a ∈ x ∖ i) ⊎ (a ∈ y ∩ i) → ⊥
    nowhere_in a e m = ∈-∅ (subst (λ z. a ∈ z) e ((∈-∪ a (x ∖ i) (y ∩ i)).1 m))

    from_empty : x ∖ i ∪ y ∩ i ≡ ∅ → (x ⊆ i) × (Meets y i → ⊥)
    from_empty e = (
      record { into = λ {a} m. ⊎_elim (λ k. k) (λ n. absurd (nowhere_in a e (inl ((∈-∖ a x i).1 (m, n))))) (decided (dec_∈ a i)) },
      λ m. nowhere_in m.common e (inr ((∈-∩ m.common y i).1 (m.left, m.right))),
    )

    to_empty : (x ⊆ i) × (Meets y i → ⊥) → x ∖ i ∪ y ∩ i ≡ ∅
    to_empty p = ∈_ext (x ∖ i ∪ y ∩ i) ∅ (λ a. (
      λ m. absurd (⊎_elim (λ k. let (l, n) = (∈-∖ a x i).0 k in n (p.0.into l))
          (λ k. let (l, n) = (∈-∩ a y i).0 k in p.1 (record { common = a; left = l; right = n })) ((∈-∪ a (x ∖ i) (y ∩ i)).0 m)),
      λ m. absurd (∈-∅ m),
    ))

-- ---- a alone, and the numbers below n of which f holds
pub ∈-single : (a b : ℕ) → a ∈ single b ↔ (a ≡ b)
∈-single a b = (
  λ m. ⊎_elim (λ e. e) (λ l. absurd (below l m)) (eq-or-lt_of_le (le_of_suc-le-suc (∈_below (pow-lt (omega arith)) m))),
  λ e. record { bit = rw e (ap (λ z. z / 2 ^ b % 2) (sym (one-mul (2 ^ b))) ∙ ap (λ z. z % 2) (shl-shr 1 b)) },
)
  where
    even : (k : ℕ) → 2 ^ suc k % 2 ≡ 0
    even k = omega (arith, pow-suc 2 k)

    below : a < b → a ∈ single b → ⊥
    below l m =
        let z : b ≡ suc (b - suc a) + a = omega arith in
        let q = ap (λ y. y / 2 ^ a) (ap (λ y. 2 ^ y) z ∙ pow-add 2 (suc (b - suc a)) a) ∙ shl-shr (2 ^ suc (b - suc a)) a in
        omega (arith, m.bit, ap (λ y. y % 2) q, even (b - suc a))

-- without one of its members a set is a proper subset
pub ∖-⊂ : {a x : ℕ} → a ∈ x → x ∖ single a ⊂ x
∖-⊂ {a} {x} m = record { within = ∖-⊆ x (single a); differ = λ e. ((∈-∖ a x (single a)).0 (subst (λ z. a ∈ z) (sym e) m)).1 ((∈-single a a).1 refl) }

-- a alone where b is true, otherwise nothing
pub ∈_cond : (b : Bool) (a n : ℕ) → a ∈ cond b (single n) ∅ ↔ ((b ≡ true) × (a ≡ n))
∈_cond true a n = (λ m. (refl, (∈-single a n).0 m), λ p. (∈-single a n).1 p.1)
∈_cond false a n = ((λ m. absurd (∈-∅ m)), λ p. absurd (true≢false (sym p.0)))

module _ (f : ℕ → Bool) where
  pub set_of_below : (n : ℕ) → set_of f n < 2 ^ n
  unfolding set_of
  set_of_below zero = omega arith
  set_of_below (suc n) = go (f n) (set_of_below n)
    where
      go : (b : Bool) → set_of f n < 2 ^ n → cond b (2 ^ n) 0 + set_of f n < 2 ^ suc n
      go true l = omega (arith, pow-suc 2 n)
      go false l = omega (arith, pow-suc 2 n)

  pub set_of-suc : (n : ℕ) → set_of f (suc n) ≡ cond (f n) (single n) ∅ ∪ set_of f n
  unfolding set_of
  set_of-suc n = go (f n)
    where
      go : (b : Bool) → cond b (2 ^ n) 0 + set_of f n ≡ cond b (single n) ∅ ∪ set_of f n
      go true = rw (← one-mul (2 ^ n)) (sym (or_shifted 1 n (set_of f n) (set_of_below n)))
      go false = omega arith

  pub ∈-set_of : (a n : ℕ) → a ∈ set_of f n ↔ ((a < n) × (f a ≡ true))
  unfolding set_of
  ∈-set_of a zero = ((λ m. absurd (∈-∅ m)), λ p. absurd (not-suc-le-zero p.0))
  ∈-set_of a (suc n) =
      let ih = ∈-set_of a n in
      let one = ∈_cond (f n) a n in
      rw (set_of-suc n) (
        λ m. ⊎_elim (λ q. let (b, e) = one.0 q in (omega arith, ap f e ∙ b)) (λ q. let (l, b) = ih.0 q in (omega arith, b)) ((∈-∪ a _ _).0 m),
        λ p. (∈-∪ a _ _).1 (⊎_elim (λ e. inl (one.1 (ap f (sym e) ∙ p.1, e))) (λ l. inr (ih.1 (l, p.1))) (eq-or-lt_of_le (le_of_suc-le-suc p.0))),
      )

pub ∈_set_of_dec : (P : ℕ → Type 0) (f : ℕ → Bool) → ((a : ℕ) → Decides (P a) (f a)) → (n : ℕ) {a : ℕ} → a ∈ set_of f n ↔ ((a < n) × P a)
∈_set_of_dec P f d n {a} =
    (λ m. let (l, e) = (∈-set_of f a n).0 m in (l, (d a).yes e), λ p. (∈-set_of f a n).1 (p.0, is_true (d a) p.1))

pub set_of-same : (f h : ℕ → Bool) (n : ℕ) → ((a : ℕ) → a < n → f a ≡ h a) → set_of f n ≡ set_of h n
set_of-same f h n e = ∈_ext (set_of f n) (set_of h n) (λ a. (
  λ m. let (l, t) = (∈-set_of f a n).0 m in (∈-set_of h a n).1 (l, sym (e a l) ∙ t),
  λ m. let (l, t) = (∈-set_of h a n).0 m in (∈-set_of f a n).1 (l, e a l ∙ t),
))

-- ---- all numbers below n, and the intersection and the union of many sets
all_below : (n : ℕ) → set_of (λ _. true) n ≡ full n
unfolding set_of
all_below zero = refl
all_below (suc n) = rw (all_below n) (omega (arith, pow-suc 2 n, pow_pos n))

pub ∈-full : (a n : ℕ) → a ∈ full n ↔ (a < n)
∈-full a n = rw (← all_below n) (λ m. ((∈-set_of (λ _. true) a n).0 m).0, λ l. (∈-set_of (λ _. true) a n).1 (l, refl))

-- below 2 ^ n is what has no bit at or above n: document 01's "a bit at or above the atom count", n being the number of atoms
pub below_power : (n x : ℕ) → (x < 2 ^ n) ↔ ((a : ℕ) → a ∈ x → a < n)
below_power n x = (
  λ l a m. ∈_below l m,
  λ f. let s : x ⊆ full n = record { into = λ {a} m. (∈-full a n).1 (f a m) } in omega (arith, ⊆_le s, pow_pos n),
)

pub get_or_below : (n : ℕ) (xs : List ℕ) → Below n xs → (i : ℕ) → get_or xs i 0 < 2 ^ n
get_or_below n xs f = all_get_d (λ x. x < 2 ^ n) xs 0 f (pow_pos n)

∈_foldl_∩ : (a b : ℕ) (xs : List ℕ) → a ∈ foldl ◌∩◌ b xs ↔ ((a ∈ b) × ((x : ℕ) → x among xs → a ∈ x))
∈_foldl_∩ a b [] = (λ m. (m, λ x k. absurd (nowhere k)), λ p. p.0)
∈_foldl_∩ a b (y ∷ xs) =
    let ih = ∈_foldl_∩ a (b ∩ y) xs in (
      λ m. let (k, f) = ih.0 m in
          let (l, r) = (∈-∩ a b y).0 k in (l, all_cons (λ z. a ∈ z) r f),
      λ p. ih.1 ((∈-∩ a b y).1 (p.0, p.1 y here), λ x q. p.1 x (later q)),
    )

∈_foldl_∪ : (a b : ℕ) (xs : List ℕ) → a ∈ foldl ◌∪◌ b xs ↔ ((a ∈ b) ⊎ ((x : ℕ) × (x among xs) × (a ∈ x)))
∈_foldl_∪ a b [] = (inl, ⊎_elim (λ m. m) (λ p. absurd (nowhere p.1)))
∈_foldl_∪ a b (y ∷ xs) =
    let ih = ∈_foldl_∪ a (b ∪ y) xs in (
      λ m. ⊎_elim (λ q. ⊎_elim inl (λ r. inr (y, here, r)) ((∈-∪ a b y).0 q)) (λ q. inr (q.0, later q.1, q.2)) (ih.0 m),
      ⊎_elim (λ m. ih.1 (inl ((∈-∪ a b y).1 (inl m))))
          (λ p. ⊎_elim (λ e. ih.1 (inl ((∈-∪ a b y).1 (inr (subst (λ z. a ∈ z) e p.2))))) (λ q. ih.1 (inr (p.0, q, p.2))) (first_or_later p.1)),
    )

pub ∈-⋂ : (a n : ℕ) (xs : List ℕ) → a ∈ ⋂ n xs ↔ ((a < n) × ((x : ℕ) → x among xs → a ∈ x))
∈-⋂ a n xs =
    (λ m. let (k, f) = (∈_foldl_∩ a (full n) xs).0 m in ((∈-full a n).0 k, f), λ p. (∈_foldl_∩ a (full n) xs).1 ((∈-full a n).1 p.0, p.1))

pub ∈-⋃ : (a : ℕ) (xs : List ℕ) → a ∈ ⋃ xs ↔ ((x : ℕ) × (x among xs) × (a ∈ x))
∈-⋃ a xs = (λ m. ⊎_elim (λ q. absurd (∈-∅ q)) (λ q. q) ((∈_foldl_∪ a ∅ xs).0 m), λ p. (∈_foldl_∪ a ∅ xs).1 (inr p))
