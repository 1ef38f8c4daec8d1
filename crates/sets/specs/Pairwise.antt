-- Relations between each member of a list and every later one: distinct members, sorted lists. Assumes nothing.
use Rattle.std.specs.Prelude.{ℕ, zero, suc, ◌<◌, ◌≡◌, refl, Bool, ◌&&◌, cond, ◌↔◌, length, get_or}
use Rattle.std.proofs.Common.{sym, ap, ap₂, ◌∙◌, subst, inl, inr, ⊎_elim, arith, le_of_suc-le-suc, not-suc-le-zero}
use Rattle.std.proofs.Math.Bool.{true, false}
use mathlib.Core.List.Memᴰ
use mathlib.Core.List.{List, [], ◌∷◌, ◌++◌, map}
use Rattle.sets.specs.Decides.{Decides, dec_true, dec_iff, dec_and}
use Rattle.sets.specs.Lists.{◌among◌, here, later, nowhere, first_or_later, all_cons, keep, flat, up_to, down_from, get_or-among, among-append, among-keep, among-map, among-flat, among-up_to, among-down_from}

-- R holds of each member and every later one
abbrev pub Pairwise : {A : Type 0} → (A → A → Type 0) → List A → Type 0
Pairwise R [] = Unit {0}
Pairwise R (x ∷ l) = ((y : _) → y among l → R x y) × Pairwise R l

-- no member stands twice
abbrev pub Distinct : {A : Type 0} → List A → Type 0
Distinct l = Pairwise (λ x y. x ≡ y → ⊥) l

-- the test r passes for each member and the next one
unfoldable pub neighbours : {A : Type 0} → (A → A → Bool) → List A → Bool
neighbours r [] = true
neighbours r (x ∷ []) = true
neighbours r (x ∷ y ∷ l) = r x y && neighbours r (y ∷ l)

-- ---- pairs of members
module _ {A : Type 0} where
  pub pairwise_map : {R S : A → A → Type 0} (l : List A) → ((x y : A) → x among l → y among l → R x y → S x y) → Pairwise R l → Pairwise S l
  pairwise_map [] f p = tt
  pairwise_map (x ∷ l) f p = (λ y m. f x y here (later m) (p.0 y m), pairwise_map l (λ y z m n. f y z (later m) (later n)) p.1)

  pub pairwise_append : (R : A → A → Type 0) (l m : List A) → Pairwise R l → Pairwise R m → ((x y : A) → x among l → y among m → R x y) → Pairwise R (l ++ m)
  pairwise_append R [] m p q h = q
  pairwise_append R (x ∷ l) m p q h =
      (λ y k. ⊎_elim (p.0 y) (h x y here) ((among-append l).0 k), pairwise_append R l m p.1 q (λ z y k. h z y (later k)))

  pub pairwise_snoc : (R : A → A → Type 0) (l : List A) (x : A) → Pairwise R l → ((y : A) → y among l → R y x) → Pairwise R (l ++ x ∷ [])
  pairwise_snoc R l x p h =
      pairwise_append R l (x ∷ []) p (λ y m. absurd (nowhere m), tt) (λ y z m n. subst (R y) (sym (Memᴰ.eq_of_singleton n)) (h y m))

  -- a member before the seam, and one after it
  pub pairwise_across : (R : A → A → Type 0) (l m : List A) → Pairwise R (l ++ m) → (x y : A) → x among l → y among m → R x y
  pairwise_across R [] m p x y a b = absurd (nowhere a)
  pairwise_across R (z ∷ l) m p x y a b =
      all_cons (λ w. R w y) (p.0 y ((among-append l).1 (inr b))) (λ w k. pairwise_across R l m p.1 w y k b) x a

  pub pairwise_prefix : (R : A → A → Type 0) (l m : List A) → Pairwise R (l ++ m) → Pairwise R l
  pairwise_prefix R [] m p = tt
  pairwise_prefix R (x ∷ l) m p = (λ y k. p.0 y ((among-append l).1 (inl k)), pairwise_prefix R l m p.1)

  pub pairwise_suffix : (R : A → A → Type 0) (l m : List A) → Pairwise R (l ++ m) → Pairwise R m
  pairwise_suffix R [] m p = p
  pairwise_suffix R (x ∷ l) m p = pairwise_suffix R l m p.1

  -- of two places the first is related to the second
  pub pairwise_places : (R : A → A → Type 0) (l : List A) (d : A) → Pairwise R l → (i j : ℕ) → i < j → j < length l → R (get_or l i d) (get_or l j d)
  pairwise_places R [] d p i j h k = absurd (not-suc-le-zero k)
  pairwise_places R (x ∷ l) d p i zero h k = absurd (not-suc-le-zero h)
  pairwise_places R (x ∷ l) d p zero (suc j) h k = p.0 (get_or l j d) (get_or-among l d j (le_of_suc-le-suc k))
  pairwise_places R (x ∷ l) d p (suc i) (suc j) h k = pairwise_places R l d p.1 i j (le_of_suc-le-suc h) (le_of_suc-le-suc k)

  -- no two places have the same member
  pub distinct_places : (l : List A) (d : A) → Distinct l → (i j : ℕ) → i < length l → j < length l → get_or l i d ≡ get_or l j d → i ≡ j
  distinct_places [] d p i j h k e = absurd (not-suc-le-zero h)
  distinct_places (x ∷ l) d p zero zero h k e = refl
  distinct_places (x ∷ l) d p zero (suc j) h k e = absurd (p.0 (get_or l j d) (get_or-among l d j (le_of_suc-le-suc k)) e)
  distinct_places (x ∷ l) d p (suc i) zero h k e = absurd (p.0 (get_or l i d) (get_or-among l d i (le_of_suc-le-suc h)) (sym e))
  distinct_places (x ∷ l) d p (suc i) (suc j) h k e = ap suc (distinct_places l d p.1 i j (le_of_suc-le-suc h) (le_of_suc-le-suc k) e)

  pub pairwise_mapped : {B : Type 0} (R : B → B → Type 0) (f : A → B) (l : List A) → Pairwise (λ x y. R (f x) (f y)) l → Pairwise R (map f l)
  pairwise_mapped R f [] p = tt
  pairwise_mapped R f (x ∷ l) p =
      (λ y m. let (z, n, e) = (among-map f l).0 m in subst (R (f x)) (sym e) (p.0 z n), pairwise_mapped R f l p.1)

  pub pairwise_keep : (R : A → A → Type 0) (f : A → Bool) (l : List A) → Pairwise R l → Pairwise R (keep f l)
  unfolding keep
  pairwise_keep R f [] p = tt
  pairwise_keep R f (x ∷ l) p = go (f x) (pairwise_keep R f l p.1)
    where
      go : (b : Bool) → Pairwise R (keep f l) → Pairwise R (cond b (x ∷ keep f l) (keep f l))
      go true q = (λ y m. p.0 y ((among-keep f l).0 m).0, q)
      go false q = q

-- ---- a transitive relation is tested on neighbours
module _ {A : Type 0} (R : A → A → Type 0) (trans : (x y z : A) → R x y → R y z → R x z) (r : A → A → Bool) where
  pub dec_neighbours : (l : List A) → ((x y : A) → x among l → y among l → Decides (R x y) (r x y)) → Decides (Pairwise R l) (neighbours r l)
  unfolding neighbours
  dec_neighbours [] d = dec_true tt
  dec_neighbours (x ∷ []) d = dec_true (λ y m. absurd (nowhere m), tt)
  dec_neighbours (x ∷ y ∷ l) d =
      dec_iff (
        λ p. (all_cons (R x) p.0 (λ z m. trans x y z p.0 (p.1.0 z m)), p.1),
        λ p. (p.0 y here, p.1),
      ) (dec_and (d x y here (later here)) (dec_neighbours (y ∷ l) (λ u v m n. d u v (later m) (later n))))

-- ---- two lists in one strict order, with the same members, are equal
module _ {A : Type 0} (R : A → A → Type 0) (strict : (x y : A) → R x y → R y x → ⊥) where
  pub sorted_same : (l m : List A) → Pairwise R l → Pairwise R m → ((x : A) → (x among l) ↔ (x among m)) → l ≡ m
  sorted_same [] [] p q f = refl
  sorted_same [] (y ∷ m) p q f = absurd (nowhere ((f y).1 here))
  sorted_same (x ∷ l) [] p q f = absurd (nowhere ((f x).0 here))
  sorted_same (x ∷ l) (y ∷ m) p q f = ap₂ ◌∷◌ heads (sorted_same l m p.1 q.1 tails)
    where
      heads : x ≡ y
      heads =
          ⊎_elim (λ e. e) (λ h. ⊎_elim sym (λ k. absurd (strict x y (p.0 y k) (q.0 x h))) (first_or_later ((f y).1 here)))
          (first_or_later ((f x).0 here))

      tails : (z : A) → (z among l) ↔ (z among m)
      tails z = (
        λ h. ⊎_elim (λ e. absurd (let r = p.0 z h in let r' : R x x = subst (R x) (e ∙ sym heads) r in strict x x r' r')) (λ k. k) (first_or_later ((f z).0 (later h))),
        λ h. ⊎_elim (λ e. absurd (let r = q.0 z h in let r' : R y y = subst (R y) (e ∙ heads) r in strict y y r' r')) (λ k. k) (first_or_later ((f z).1 (later h))),
      )

pub up_to_rising : (n : ℕ) → Pairwise ◌<◌ (up_to n)
unfolding up_to
up_to_rising zero = tt
up_to_rising (suc n) = pairwise_snoc ◌<◌ (up_to n) n (up_to_rising n) (λ x m. (among-up_to n).0 m)

pub up_to_distinct : (n : ℕ) → Distinct (up_to n)
up_to_distinct n = pairwise_map (up_to n) (λ x y _ _ l e. omega arith) (up_to_rising n)

pub down_from_falling : (n : ℕ) → Pairwise (λ i j. j < i) (down_from n)
unfolding down_from
down_from_falling zero = tt
down_from_falling (suc n) = (λ j m. (among-down_from n).0 m, down_from_falling n)

pub pairwise_flat : {A B : Type 0} (R : B → B → Type 0) (S : A → A → Type 0) (f : A → List B) (l : List A)
    → Pairwise S l → ((i : A) → Pairwise R (f i)) → ((i j : A) (x y : B) → S i j → x among f i → y among f j → R x y) → Pairwise R (flat f l)
unfolding flat
pairwise_flat R S f [] p q h = tt
pairwise_flat R S f (i ∷ l) p q h =
    pairwise_append R (f i) (flat f l) (q i) (pairwise_flat R S f l p.1 q h)
    (λ x y m n. let (j, k, o) = (among-flat f l).0 n in h i j x y (p.0 j k) m o)
