-- One lane is one guess: where the words say what it assumes and what its T and F are, a rule is sure, or dead, in the lane exactly when it is for the
-- guess. Assumes nothing.
use Prim.Native.Nat.{ℕ, ◌+◌, ◌*◌, ◌^◌, ◌≤◌, ◌<◌}
use mathlib.Core.Path.{◌≡◌, refl, sym, ap, subst, ◌∙◌}
use mathlib.Core.List.{List}
use mathlib.Core.Logic.{◌↔◌, ◌⊎◌, inl, inr, ⊎_elim}
use native.Mathlib.Omega.{arith}
use lib.ListN.{get_or}
use Rattle.sets.specs.Lists.{get_or-up_to}
use Rattle.sets.specs.Sets.{◌∈◌, Meets, ◌∪◌, ◌∖◌}
use Rattle.sets.specs.Members.{∈-∪, ∈-∖, ∈_below, get_or_below}
use Rattle.semantics.specs.Definitions.Rules.{EpistemicRule, Subjective, K, not_k, M, not_m}
use Rattle.semantics.specs.Definitions.Guesses.{not_known, may_be}
use Rattle.semantics.specs.Definitions.Sheet.{rule_of_masks}
use Rattle.semantics.specs.Definitions.Propagation.{Pair}
use Rattle.semantics.specs.Words.{mask_in, masks_in, among-rules}
use Rattle.semantics.specs.Theorems.On.{negation_of}
use Rattle.semantics.specs.Theorems.Literals.{Assumes, SureLiteral, DeadLiteral, SureRule, DeadRule}
use Rattle.guess.specs.declared.outline.Outline.{Outline}
use Rattle.guess.specs.Numbered.{rules_of}
use Rattle.guess.specs.Programs.{Outlines}
use Rattle.ruling.specs.Literals.{InAll, InSome, head_in, SureIn, DeadIn, by_plain, by_nots, by_not_nots, by_k, by_not_k, by_m, by_not_m}
use Rattle.ruling.specs.declared.literals.Rows.{Rows}
use Rattle.ruling.specs.Laid.{Laid}

-- ---- words of lanes
module _ {b w x y : ℕ} {P H : Type 0} where
  minus_side : w ≡ x ∖ y → b ∈ x ↔ P → b ∈ y ↔ H → b ∈ w ↔ ((H → ⊥) × P)
  minus_side e p h = (
    λ m. let (u, v) = (∈-∖ b x y).0 (subst (λ z. b ∈ z) e m) in ((λ k. v (h.1 k)), p.0 u),
    λ q. subst (λ z. b ∈ z) (sym e) ((∈-∖ b x y).1 (p.1 q.1, λ v. q.0 (h.0 v))),
  )

  plus_side : w ≡ x ∪ y → b ∈ x ↔ P → b ∈ y ↔ H → b ∈ w ↔ (H ⊎ P)
  plus_side e p h = (
    λ m. ⊎_elim (λ u. inr (p.0 u)) (λ v. inl (h.0 v)) ((∈-∪ b x y).0 (subst (λ z. b ∈ z) e m)),
    λ q. subst (λ z. b ∈ z) (sym e) ((∈-∪ b x y).1 (⊎_elim (λ k. inr (h.1 k)) (λ k. inl (p.1 k)) q)),
  )

-- ---- what the words say of lane b, for the guess g
module _ (x : Outline) (words : List ℕ) (g b : ℕ) where
  -- what it assumes
  pub record Assumed (u p : List ℕ) : Type 0 where
    pub unknown : {a : ℕ} → a < x.atoms → b ∈ get_or u a 0 ↔ Assumes x.atoms (rules_of x words) g (not_known a)
    pub maybe : {a : ℕ} → a < x.atoms → b ∈ get_or p a 0 ↔ Assumes x.atoms (rules_of x words) g (may_be a)

  -- T and F
  pub record At (y : Pair) (t f : List ℕ) : Type 0 where
    pub in_t : {a : ℕ} → a < 16 → b ∈ get_or t a 0 ↔ a ∈ y.T
    pub in_f : {a : ℕ} → a < 16 → b ∈ get_or f a 0 ↔ a ∈ y.F

  -- and the literals
  pub record Sides (y : Pair) (truths falsities : Rows) : Type 0 where
    pub in_t : {a : ℕ} → a < x.atoms → b ∈ get_or truths.whole a 0 ↔ a ∈ y.T
    pub in_f : {a : ℕ} → a < x.atoms → b ∈ get_or falsities.whole a 0 ↔ a ∈ y.F
    pub is_k : {a : ℕ} → a < x.atoms → b ∈ get_or truths.without a 0 ↔ SureLiteral (Assumes x.atoms (rules_of x words) g (not_known a)) K y a
    pub is_not_k : {a : ℕ} → a < x.atoms → b ∈ get_or falsities.with a 0 ↔ SureLiteral (Assumes x.atoms (rules_of x words) g (not_known a)) not_k y a
    pub is_m : {a : ℕ} → a < x.atoms → b ∈ get_or truths.with a 0 ↔ SureLiteral (Assumes x.atoms (rules_of x words) g (may_be a)) M y a
    pub is_not_m : {a : ℕ} → a < x.atoms → b ∈ get_or falsities.without a 0 ↔ SureLiteral (Assumes x.atoms (rules_of x words) g (may_be a)) not_m y a

  same_side : {v w : ℕ} {P : Type 0} → v ≡ w → b ∈ w ↔ P → b ∈ v ↔ P
  same_side e p = (λ m. p.0 (subst (λ z. b ∈ z) e m), λ q. subst (λ z. b ∈ z) (sym e) (p.1 q))

  pub sides : {y : Pair} {u p t f : List ℕ} {truths falsities : Rows} → x.atoms ≤ 15 → Assumed u p → At y t f → Laid t u p 16 truths → Laid f p u 16 falsities
      → Sides y truths falsities
  sides few h s v w = record {
    in_t = λ {a} l. same_side (v.whole (up l)) (s.in_t (up l));
    in_f = λ {a} l. same_side (w.whole (up l)) (s.in_f (up l));
    is_k = λ l. minus_side (v.without (up l)) (s.in_t (up l)) (h.unknown l);
    is_not_k = λ l. plus_side (w.with (up l)) (s.in_f (up l)) (h.unknown l);
    is_m = λ l. plus_side (v.with (up l)) (s.in_t (up l)) (h.maybe l);
    is_not_m = λ l. minus_side (w.without (up l)) (s.in_f (up l)) (h.maybe l);
  }
    where
      up : {a : ℕ} → a < x.atoms → a < 16
      up l = omega arith

-- ---- rule j
module _ {x : Outline} {words : List ℕ} (o : Outlines x words) {j : ℕ} (here : j < x.rules) where
  abbrev pub rule_at : EpistemicRule
  rule_at = rule_of_masks (masks_in words j)

  mask_is : (i : ℕ) → i < 8 → get_or (masks_in words j) i 0 ≡ mask_in words j i
  mask_is i h = get_or-up_to (mask_in words j) 0 8 i h

  pub head_is : rule_at.objective.head ≡ head_in words j
  head_is = let e : 8 * j + 0 ≡ 8 * j = omega arith in mask_is 0 (omega arith) ∙ ap (λ z. get_or words z 0) e

  pub mask_below : (i : ℕ) → get_or (masks_in words j) i 0 < 2 ^ x.atoms
  mask_below i = get_or_below x.atoms (masks_in words j) (o.below (masks_in words j) ((among-rules words x.rules).1 (j, here, refl))) i

  -- the atoms of mask i, as a row of words says them
  module _ (b i : ℕ) (h : i < 8) (row : List ℕ) (P : ℕ → Type 0) (f : (a : ℕ) → a < x.atoms → b ∈ get_or row a 0 ↔ P a) where
    all_side : InAll (mask_in words j i) row b ↔ ((a : ℕ) → a ∈ get_or (masks_in words j) i 0 → P a)
    all_side = (
      λ p a m. (f a (∈_below (mask_below i) m)).0 (p a (subst (λ z. a ∈ z) (mask_is i h) m)),
      λ p a m. let k = subst (λ z. a ∈ z) (sym (mask_is i h)) m in (f a (∈_below (mask_below i) k)).1 (p a k),
    )

    some_side : InSome (mask_in words j i) row b ↔ ((a : ℕ) × (a ∈ get_or (masks_in words j) i 0) × P a)
    some_side = (
      λ p. let k = subst (λ z. p.0 ∈ z) (sym (mask_is i h)) p.1 in (p.0, k, (f p.0 (∈_below (mask_below i) k)).0 p.2),
      λ p. (p.0, subst (λ z. p.0 ∈ z) (mask_is i h) p.1, (f p.0 (∈_below (mask_below i) p.1)).1 p.2),
    )

  module _ {g b : ℕ} {y : Pair} {truths falsities : Rows} (s : Sides x words g b y truths falsities) where
    abbrev A : (m : Subjective) → ℕ → Type 0
    A m a = Assumes x.atoms (rules_of x words) g (negation_of m a)

    plain_all : InAll (mask_in words j 1) truths.whole b ↔ ((a : ℕ) → a ∈ rule_at.objective.plain → a ∈ y.T)
    plain_all = all_side b 1 (omega arith) truths.whole (λ a. a ∈ y.T) (λ a l. s.in_t l)

    nots_all : InAll (mask_in words j 2) falsities.whole b ↔ ((a : ℕ) → a ∈ rule_at.objective.nots → a ∈ y.F)
    nots_all = all_side b 2 (omega arith) falsities.whole (λ a. a ∈ y.F) (λ a l. s.in_f l)

    not_nots_all : InAll (mask_in words j 3) truths.whole b ↔ ((a : ℕ) → a ∈ rule_at.objective.not_nots → a ∈ y.T)
    not_nots_all = all_side b 3 (omega arith) truths.whole (λ a. a ∈ y.T) (λ a l. s.in_t l)

    k_all : InAll (mask_in words j 4) truths.without b ↔ ((a : ℕ) → a ∈ rule_at.mask K → SureLiteral (A K a) K y a)
    k_all = all_side b 4 (omega arith) truths.without (λ a. SureLiteral (A K a) K y a) (λ a l. s.is_k l)

    not_k_all : InAll (mask_in words j 5) falsities.with b ↔ ((a : ℕ) → a ∈ rule_at.mask not_k → SureLiteral (A not_k a) not_k y a)
    not_k_all = all_side b 5 (omega arith) falsities.with (λ a. SureLiteral (A not_k a) not_k y a) (λ a l. s.is_not_k l)

    m_all : InAll (mask_in words j 6) truths.with b ↔ ((a : ℕ) → a ∈ rule_at.mask M → SureLiteral (A M a) M y a)
    m_all = all_side b 6 (omega arith) truths.with (λ a. SureLiteral (A M a) M y a) (λ a l. s.is_m l)

    not_m_all : InAll (mask_in words j 7) falsities.without b ↔ ((a : ℕ) → a ∈ rule_at.mask not_m → SureLiteral (A not_m a) not_m y a)
    not_m_all = all_side b 7 (omega arith) falsities.without (λ a. SureLiteral (A not_m a) not_m y a) (λ a l. s.is_not_m l)

    pub sure_side : SureIn words j truths falsities b ↔ SureRule x.atoms (rules_of x words) g y rule_at
    sure_side = (
      λ q. record {
        plain = record { into = λ {a} h. plain_all.0 q.plain a h };
        not_nots = record { into = λ {a} h. not_nots_all.0 q.not_nots a h };
        nots = record { into = λ {a} h. nots_all.0 q.nots a h };
        literal = literal q;
      },
      λ q. record {
        plain = plain_all.1 (λ a h. q.plain.into h);
        nots = nots_all.1 (λ a h. q.nots.into h);
        not_nots = not_nots_all.1 (λ a h. q.not_nots.into h);
        is_k = k_all.1 (q.literal K);
        is_not_k = not_k_all.1 (q.literal not_k);
        is_m = m_all.1 (q.literal M);
        is_not_m = not_m_all.1 (q.literal not_m);
      },
    )
      where
        literal : SureIn words j truths falsities b → (m : Subjective) (a : ℕ) → a ∈ rule_at.mask m → SureLiteral (A m a) m y a
        literal q K = k_all.0 q.is_k
        literal q not_k = not_k_all.0 q.is_not_k
        literal q M = m_all.0 q.is_m
        literal q not_m = not_m_all.0 q.is_not_m

    plain_some : InSome (mask_in words j 1) falsities.whole b ↔ ((a : ℕ) × (a ∈ rule_at.objective.plain) × (a ∈ y.F))
    plain_some = some_side b 1 (omega arith) falsities.whole (λ a. a ∈ y.F) (λ a l. s.in_f l)

    nots_some : InSome (mask_in words j 2) truths.whole b ↔ ((a : ℕ) × (a ∈ rule_at.objective.nots) × (a ∈ y.T))
    nots_some = some_side b 2 (omega arith) truths.whole (λ a. a ∈ y.T) (λ a l. s.in_t l)

    not_nots_some : InSome (mask_in words j 3) falsities.whole b ↔ ((a : ℕ) × (a ∈ rule_at.objective.not_nots) × (a ∈ y.F))
    not_nots_some = some_side b 3 (omega arith) falsities.whole (λ a. a ∈ y.F) (λ a l. s.in_f l)

    k-some : InSome (mask_in words j 4) falsities.with b ↔ ((a : ℕ) × (a ∈ rule_at.mask K) × DeadLiteral (A K a) K y a)
    k-some = some_side b 4 (omega arith) falsities.with (λ a. DeadLiteral (A K a) K y a) (λ a l. s.is_not_k l)

    not_k_some : InSome (mask_in words j 5) truths.without b ↔ ((a : ℕ) × (a ∈ rule_at.mask not_k) × DeadLiteral (A not_k a) not_k y a)
    not_k_some = some_side b 5 (omega arith) truths.without (λ a. DeadLiteral (A not_k a) not_k y a) (λ a l. s.is_k l)

    m-some : InSome (mask_in words j 6) falsities.without b ↔ ((a : ℕ) × (a ∈ rule_at.mask M) × DeadLiteral (A M a) M y a)
    m-some = some_side b 6 (omega arith) falsities.without (λ a. DeadLiteral (A M a) M y a) (λ a l. s.is_not_m l)

    not_m_some : InSome (mask_in words j 7) truths.with b ↔ ((a : ℕ) × (a ∈ rule_at.mask not_m) × DeadLiteral (A not_m a) not_m y a)
    not_m_some = some_side b 7 (omega arith) truths.with (λ a. DeadLiteral (A not_m a) not_m y a) (λ a l. s.is_m l)

    pub dead_side : DeadIn words j truths falsities b ↔ DeadRule x.atoms (rules_of x words) g y rule_at
    dead_side = (to, from)
      where
        meet : {v w : ℕ} → (a : ℕ) × (a ∈ v) × (a ∈ w) → Meets v w
        meet q = record { common = q.0; left = q.1; right = q.2 }

        to : DeadIn words j truths falsities b → DeadRule x.atoms (rules_of x words) g y rule_at
        to (by_plain q) = inl (inl (meet (plain_some.0 q)))
        to (by_not_nots q) = inl (inr (meet (not_nots_some.0 q)))
        to (by_nots q) = inr (inl (meet (nots_some.0 q)))
        to (by_k q) = let (a, h, d) = k-some.0 q in inr (inr (K, a, h, d))
        to (by_not_k q) = let (a, h, d) = not_k_some.0 q in inr (inr (not_k, a, h, d))
        to (by_m q) = let (a, h, d) = m-some.0 q in inr (inr (M, a, h, d))
        to (by_not_m q) = let (a, h, d) = not_m_some.0 q in inr (inr (not_m, a, h, d))

        literal : (m : Subjective) → (a : ℕ) × (a ∈ rule_at.mask m) × DeadLiteral (A m a) m y a → DeadIn words j truths falsities b
        literal K q = by_k (k-some.1 q)
        literal not_k q = by_not_k (not_k_some.1 q)
        literal M q = by_m (m-some.1 q)
        literal not_m q = by_not_m (not_m_some.1 q)

        from : DeadRule x.atoms (rules_of x words) g y rule_at → DeadIn words j truths falsities b
        from (inl (inl m)) = by_plain (plain_some.1 (m.common, m.left, m.right))
        from (inl (inr m)) = by_not_nots (not_nots_some.1 (m.common, m.left, m.right))
        from (inr (inl m)) = by_nots (nots_some.1 (m.common, m.left, m.right))
        from (inr (inr q)) = literal q.0 (q.1, q.2, q.3)
