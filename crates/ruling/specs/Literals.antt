-- The lanes in which a rule is sure, and in which it is dead. `truths` has the rows of T: where a is true, where "K a" is (without), and where "M a" is
-- (with); `falsities` those of F: where a is false, where "M a" is (without), and where "K a" is (with). Assumes nothing.
use Rattle.std.specs.Prelude.{ℕ, ◌-◌, ◌*◌, ◌<◌, ◌≡◌, refl, List, ◌⊎◌, get_or}
use Rattle.std.proofs.Common.{sym, subst, inl, inr, ⊎_elim}
use Rattle.sets.specs.Decides.{decided, dec_eq}
use Rattle.sets.specs.Sets.{◌∈◌, ◌⊆◌, ◌∩◌, ◌∪◌, ∅, single}
use Rattle.sets.specs.Members.{∈-∅, ∈-∖, ∈-full, ∈-single, ⊆_refl, ∩_⊆_left, ⊆_trans}
use Rattle.sets.specs.Least.{First}
use Rattle.semantics.specs.Words.{mask_in}
use Rattle.ruling.specs.declared.literals.Rows.{Rows}
use Rattle.lanes.specs.Lanes.{Lanes, lanes_and, lanes_or, lanes_iff, lanes_none}

-- every lane
abbrev pub every_lane : ℕ
every_lane = 18446744073709551615

pub in_every : {b : ℕ} → b < 64 → b ∈ every_lane
in_every {b} l = (∈-full b 64).1 l

pub all_lanes : {P : ℕ → Type 0} → ((b : ℕ) → b < 64 → P b) → Lanes P every_lane
all_lanes f = record { lane = λ {b} l. (λ _. f b l, λ _. in_every l) }

-- ---- a set of atoms, atom by atom
-- the first is taken out, and the others are left
module _ {rest a : ℕ} (f : First rest a) where
  abbrev left : ℕ
  left = rest ∩ (rest - 1)

  pub first_out : a ∈ left → ⊥
  first_out m = ((∈-∖ a rest (single a)).0 (subst (λ z. a ∈ z) f.others m)).1 ((∈-single a a).1 refl)

  pub left_in : {c : ℕ} → c ∈ left → c ∈ rest
  left_in m = (∩_⊆_left rest (rest - 1)).into m

  pub others_left : {c : ℕ} → (c ≡ a → ⊥) → c ∈ rest → c ∈ left
  others_left {c} n m = subst (λ z. c ∈ z) (sym f.others) ((∈-∖ c rest (single a)).1 (m, λ y. n ((∈-single c a).0 y)))

-- Q a b: what is asked of atom a in lane b
module _ (Q : ℕ → ℕ → Type 0) (mask : ℕ) where
  -- of every atom, and of some atom of the set
  abbrev pub Every : ℕ → Type 0
  Every b = (a : ℕ) → a ∈ mask → Q a b

  abbrev pub Some : ℕ → Type 0
  Some b = (a : ℕ) × (a ∈ mask) × Q a b

  -- the same of those that are not among the rest
  pub record EveryBut (rest lanes : ℕ) : Type 0 where
    pub within : rest ⊆ mask
    pub are : Lanes (λ b. (a : ℕ) → a ∈ mask → (a ∈ rest → ⊥) → Q a b) lanes

  pub record SomeBut (rest lanes : ℕ) : Type 0 where
    pub within : rest ⊆ mask
    pub are : Lanes (λ b. (a : ℕ) × (a ∈ mask) × (a ∈ rest → ⊥) × Q a b) lanes

  pub every_starts : EveryBut mask every_lane
  every_starts = record { within = ⊆_refl; are = all_lanes (λ b l a m n. absurd (n m)) }

  pub some_starts : SomeBut mask ∅
  some_starts = record { within = ⊆_refl; are = lanes_none (λ b l p. p.2 p.1) }

  module _ {rest a lanes x : ℕ} (f : First rest a) (q : Lanes (Q a) x) where
    pub every_more : EveryBut rest lanes → EveryBut (rest ∩ (rest - 1)) (lanes ∩ x)
    every_more e = record {
      within = ⊆_trans (∩_⊆_left rest (rest - 1)) e.within;
      are = lanes_iff (λ b l. (
        λ p c m n. ⊎_elim (λ z. subst (λ y. Q y b) (sym z) p.1) (λ z. p.0 c m (λ k. n (others_left f z k))) (decided (dec_eq c a)),
        λ p. (λ c m n. p c m (λ k. n (left_in f k)), p a (e.within.into f.is_in) (first_out f)),
      )) (lanes_and e.are q);
    }

    pub some_more : SomeBut rest lanes → SomeBut (rest ∩ (rest - 1)) (lanes ∪ x)
    some_more e = record {
      within = ⊆_trans (∩_⊆_left rest (rest - 1)) e.within;
      are = lanes_iff (λ b l. (
        ⊎_elim (λ p. (p.0, p.1, (λ k. p.2 (left_in f k)), p.3)) (λ p. (a, e.within.into f.is_in, first_out f, p)),
        λ p. ⊎_elim (λ z. inr (subst (λ y. Q y b) z p.3)) (λ z. inl (p.0, p.1, (λ k. p.2 (others_left f z k)), p.3)) (decided (dec_eq p.0 a)),
      )) (lanes_or e.are q);
    }

  pub every_ends : {rest lanes : ℕ} → rest ≡ 0 → EveryBut rest lanes → Lanes Every lanes
  every_ends {rest} z e = lanes_iff (λ b l. (λ p a m. p a m (λ k. ∈-∅ (subst (λ y. a ∈ y) z k)), λ p a m _. p a m)) e.are

  pub some_ends : {rest lanes : ℕ} → rest ≡ 0 → SomeBut rest lanes → Lanes Some lanes
  some_ends {rest} z e = lanes_iff (λ b l. (λ p. (p.0, p.1, p.3), λ p. (p.0, p.1, (λ k. ∈-∅ (subst (λ y. p.0 ∈ y) z k)), p.2))) e.are

-- ---- the words of the atoms
abbrev pub AtAtom : (row : List ℕ) → ℕ → ℕ → Type 0
AtAtom row a b = b ∈ get_or row a 0

abbrev pub InAll : (mask : ℕ) (row : List ℕ) → ℕ → Type 0
InAll mask row = Every (AtAtom row) mask

abbrev pub InSome : (mask : ℕ) (row : List ℕ) → ℕ → Type 0
InSome mask row = Some (AtAtom row) mask

-- ---- rule j of eight masks
abbrev pub head_in : (words : List ℕ) (j : ℕ) → ℕ
head_in words j = get_or words (8 * j) 0

module _ (words : List ℕ) (j : ℕ) (truths falsities : Rows) where
  pub record SureIn (b : ℕ) : Type 0 where
    pub plain : InAll (mask_in words j 1) truths.whole b
    pub nots : InAll (mask_in words j 2) falsities.whole b
    pub not_nots : InAll (mask_in words j 3) truths.whole b
    pub is_k : InAll (mask_in words j 4) truths.without b
    pub is_not_k : InAll (mask_in words j 5) falsities.with b
    pub is_m : InAll (mask_in words j 6) truths.with b
    pub is_not_m : InAll (mask_in words j 7) falsities.without b

  pub data DeadIn (b : ℕ) : Type 0 where
    by_plain : InSome (mask_in words j 1) falsities.whole b → DeadIn b
    by_nots : InSome (mask_in words j 2) truths.whole b → DeadIn b
    by_not_nots : InSome (mask_in words j 3) falsities.whole b → DeadIn b
    by_k : InSome (mask_in words j 4) falsities.with b → DeadIn b
    by_not_k : InSome (mask_in words j 5) truths.without b → DeadIn b
    by_m : InSome (mask_in words j 6) falsities.without b → DeadIn b
    by_not_m : InSome (mask_in words j 7) truths.with b → DeadIn b

  pub sure_by : {u v w x y z q : ℕ} → Lanes (InAll (mask_in words j 1) truths.whole) u → Lanes (InAll (mask_in words j 2) falsities.whole) v
      → Lanes (InAll (mask_in words j 3) truths.whole) w → Lanes (InAll (mask_in words j 4) truths.without) x → Lanes (InAll (mask_in words j 5) falsities.with) y
      → Lanes (InAll (mask_in words j 6) truths.with) z → Lanes (InAll (mask_in words j 7) falsities.without) q
      → Lanes SureIn (((((u ∩ v) ∩ w) ∩ x) ∩ y) ∩ z ∩ q)
  sure_by a b c d e f g =
      lanes_iff (λ l k. (
        λ p. record {
          plain = p.0.0.0.0.0.0;
          nots = p.0.0.0.0.0.1;
          not_nots = p.0.0.0.0.1;
          is_k = p.0.0.0.1;
          is_not_k = p.0.0.1;
          is_m = p.0.1;
          is_not_m = p.1;
        },
        λ s. ((((((s.plain, s.nots), s.not_nots), s.is_k), s.is_not_k), s.is_m), s.is_not_m),
      )) (lanes_and (lanes_and (lanes_and (lanes_and (lanes_and (lanes_and a b) c) d) e) f) g)

  dead_of : {b : ℕ} → DeadIn b
      → ((((((InSome (mask_in words j 1) falsities.whole b ⊎ InSome (mask_in words j 2) truths.whole b) ⊎ InSome (mask_in words j 3) falsities.whole b)
      ⊎ InSome (mask_in words j 4) falsities.with b) ⊎ InSome (mask_in words j 5) truths.without b) ⊎ InSome (mask_in words j 6) falsities.without b) ⊎ InSome (mask_in words j 7) truths.with b)
  dead_of (by_plain p) = inl (inl (inl (inl (inl (inl p)))))
  dead_of (by_nots p) = inl (inl (inl (inl (inl (inr p)))))
  dead_of (by_not_nots p) = inl (inl (inl (inl (inr p))))
  dead_of (by_k p) = inl (inl (inl (inr p)))
  dead_of (by_not_k p) = inl (inl (inr p))
  dead_of (by_m p) = inl (inr p)
  dead_of (by_not_m p) = inr p

  pub dead_by : {u v w x y z q : ℕ} → Lanes (InSome (mask_in words j 1) falsities.whole) u → Lanes (InSome (mask_in words j 2) truths.whole) v
      → Lanes (InSome (mask_in words j 3) falsities.whole) w → Lanes (InSome (mask_in words j 4) falsities.with) x → Lanes (InSome (mask_in words j 5) truths.without) y
      → Lanes (InSome (mask_in words j 6) falsities.without) z → Lanes (InSome (mask_in words j 7) truths.with) q
      → Lanes DeadIn (((((u ∪ v) ∪ w) ∪ x) ∪ y) ∪ z ∪ q)
  dead_by a b c d e f g =
      lanes_iff (λ l k. (
        ⊎_elim (⊎_elim (⊎_elim (⊎_elim (⊎_elim (⊎_elim by_plain by_nots) by_not_nots) by_k) by_not_k) by_m) by_not_m,
        dead_of,
      )) (lanes_or (lanes_or (lanes_or (lanes_or (lanes_or (lanes_or a b) c) d) e) f) g)
