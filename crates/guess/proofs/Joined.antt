-- What the masks of a rule bring to its four words in the reduct, one after the other. Assumes nothing.
use Prim.Native.Nat.{ℕ, zero, suc, ◌+◌, ◌≤◌, ◌<◌}
use mathlib.Core.Path.{◌≡◌, refl, sym, ap, ◌∙◌, subst}
use mathlib.Core.Bool.{Bool, true, false, cond, ◌||◌}
use mathlib.Core.List.{List, [], ◌∷◌}
use mathlib.Core.Logic.{◌⊎◌, inl, inr, ⊎_elim}
use native.Mathlib.Numerals.{add-one}
use native.Mathlib.Omega.{arith}
use lib.Dec.{leb, eqb}
use lib.ListN.{length, get_or, set}
use lib.Seq.{get_or-set_same, get_or-set_other}
use borrow.Author.Tests.{leb-true, leb-false}
use Rattle.sets.specs.Decides.{unequal, Decides, decided, dec_eq, is_true, is_false}
use Rattle.sets.specs.Sets.{◌meets?◌, ◌∪◌, ◌∖◌, ∅}
use Rattle.semantics.specs.Words.{rule_in}
use Rattle.std.specs.Prelude.{Option, Some, None}
use Rattle.guess.specs.Acted.{acted_on, deleted_by, reduced_by}

module _ (u p : ℕ) where
  -- ---- what an answer says
  -- what holds of each answer for a mask
  each-mask : (P : Option (ℕ × ℕ) → Type 0) (i mask : ℕ) → i < 8 → (i < 4 → P (Some (i, mask)))
      → (i ≡ 4 → (b : Bool) → (mask meets? u) ≡ b → P (cond b None (Some (1, mask))))
      → P (Some (2, mask ∖ u)) → P (Some (3, mask ∖ p))
      → (i ≡ 7 → (b : Bool) → (mask meets? p) ≡ b → P (cond b None (Some (2, mask)))) → P (acted_on u p i mask)
  unfolding acted_on
  each-mask P i mask h low K not_k M not_m =
      go (leb i 3) (eqb i 4) (eqb i 5) (eqb i 6) (leb-true i 3) (leb-false i 3) (dec_eq i 4) (dec_eq i 5) (dec_eq i 6)
    where
      last : 3 < i → (i ≡ 4 → ⊥) → (i ≡ 5 → ⊥) → (i ≡ 6 → ⊥) → i ≡ 7
      last l a b c = omega arith

      go : (few four five six : Bool) → (few ≡ true → i ≤ 3) → (few ≡ false → 3 < i) → Decides (i ≡ 4) four → Decides (i ≡ 5) five → Decides (i ≡ 6) six
          → P (cond few (Some (i, mask)) (cond four (cond (mask meets? u) None (Some (1, mask)))
          (cond five (Some (2, mask ∖ u)) (cond six (Some (3, mask ∖ p)) (cond (mask meets? p) None (Some (2, mask)))))))
      go true four five six l f d₄ d₅ d₆ = low (let e = l refl in omega arith)
      go false true five six l f d₄ d₅ d₆ = K (d₄.yes refl) (mask meets? u) refl
      go false false true six l f d₄ d₅ d₆ = not_k
      go false false false true l f d₄ d₅ d₆ = M
      go false false false false l f d₄ d₅ d₆ = not_m (last (f refl) (d₄.no refl) (d₅.no refl) (d₆.no refl)) (mask meets? p) refl

  abbrev join : (to mask : ℕ) → Option (ℕ × ℕ)
  join to mask = Some (to, mask)

  -- a literal that joins holds
  holds : (b : Bool) (a m : ℕ) {to w : ℕ} → cond b None (join a m) ≡ Some (to, w) → b ≡ false
  holds true a m z = unequal cc
  holds false a m z = refl

  fails : (b : Bool) (a m : ℕ) → cond b None (join a m) ≡ None → b ≡ true
  fails true a m z = refl
  fails false a m z = unequal cc

  stays : (a m : ℕ) → join a m ≡ None → ⊥
  stays a m z = unequal cc

  -- a rule is deleted at mask 4 or at mask 7
  deletes : (i mask : ℕ) → i < 8 → acted_on u p i mask ≡ None → ((i ≡ 4) × (mask meets? u) ≡ true) ⊎ ((i ≡ 7) × (mask meets? p) ≡ true)
  deletes i mask h =
      each-mask (λ x. x ≡ None → ((i ≡ 4) × (mask meets? u) ≡ true) ⊎ ((i ≡ 7) × (mask meets? p) ≡ true)) i mask h
      (λ _ z. absurd (stays i mask z))
      (λ e b q z. inl (e, q ∙ fails b 1 mask z))
      (λ z. absurd (stays 2 (mask ∖ u) z))
      (λ z. absurd (stays 3 (mask ∖ p) z))
      (λ e b q z. inr (e, q ∙ fails b 2 mask z))

  -- at those masks
  k-holds : (mask : ℕ) {to w : ℕ} → acted_on u p 4 mask ≡ Some (to, w) → (mask meets? u) ≡ false
  unfolding acted_on
  k-holds mask e = holds (mask meets? u) 1 mask e

  not_m_holds : (mask : ℕ) {to w : ℕ} → acted_on u p 7 mask ≡ Some (to, w) → (mask meets? p) ≡ false
  unfolding acted_on
  not_m_holds mask e = holds (mask meets? p) 2 mask e

  -- ---- the four words after i masks
  module _ (masks : List ℕ) where
    abbrev mask : ℕ → ℕ
    mask i = get_or masks i 0

    -- word t after one mask more
    abbrev brings : Option (ℕ × ℕ) → (t word : ℕ) → ℕ
    brings (Some (to, w)) t word = cond (eqb t to) (word ∪ w) word
    brings None t word = word

    brought : (t w word : ℕ) → brings (Some (t, w)) t word ≡ word ∪ w
    brought t w word = ap (λ b. cond b (word ∪ w) word) (is_true (dec_eq t t) refl)

    not_brought : (to t w word : ℕ) → (t ≡ to → ⊥) → brings (Some (to, w)) t word ≡ word
    not_brought to t w word f = ap (λ b. cond b (word ∪ w) word) (is_false (dec_eq t to) f)

    unfoldable pub joined : (i t : ℕ) → ℕ
    joined zero t = ∅
    joined (suc i) t = brings (acted_on u p i (mask i)) t (joined i t)

    joined-more : (i t : ℕ) {x : Option (ℕ × ℕ)} → acted_on u p i (mask i) ≡ x → joined (suc i) t ≡ brings x t (joined i t)
    unfolding joined
    joined-more i t e = ap (λ x. brings x t (joined i t)) e

    pub record Joined (rule : List ℕ) (i : ℕ) : Type 0 where
      pub few : i ≤ 8
      pub stands : (t : ℕ) → t < 4 → get_or rule t 0 ≡ joined i t
      pub all_k : 4 < i → (mask 4 meets? u) ≡ false
      pub all_not_m : 7 < i → (mask 7 meets? p) ≡ false

    pub none-joined : Joined (∅ ∷ ∅ ∷ ∅ ∷ ∅ ∷ []) 0
    unfolding joined
    none-joined = record { few = omega arith; stands = λ t _. empty t; all_k = λ h. absurd (omega arith); all_not_m = λ h. absurd (omega arith) }
      where
        empty : (t : ℕ) → get_or (∅ ∷ ∅ ∷ ∅ ∷ ∅ ∷ []) t 0 ≡ ∅
        empty zero = refl
        empty (suc zero) = refl
        empty (suc (suc zero)) = refl
        empty (suc (suc (suc zero))) = refl
        empty (suc (suc (suc (suc t)))) = refl

    pub one-joined : (rule : List ℕ) (i : ℕ) {to w : ℕ} → Joined rule i → i < 8 → length rule ≡ 4 → to < 4 → acted_on u p i (mask i) ≡ Some (to, w)
        → Joined (set rule to (get_or rule to 0 ∪ w)) (i + 1)
    one-joined rule i {to} {w} j h l below e =
        let there : to < length rule = omega arith in
        let new = get_or rule to 0 ∪ w in
        rw add-one (record {
          few = omega arith;
          stands = λ t k. ⊎_elim
              (λ q. subst (λ z. get_or (set rule to new) z 0 ≡ joined (suc i) z) (sym q)
              (get_or-set_same rule to new 0 there ∙ ap (λ x. x ∪ w) (j.stands to below) ∙ sym (joined-more i to e ∙ brought to w (joined i to))))
              (λ q. get_or-set_other rule to t new 0 q ∙ j.stands t k ∙ sym (joined-more i t e ∙ not_brought to t w (joined i t) q))
              (decided (dec_eq t to));
          all_k = λ k. ⊎_elim
              (λ q. k-holds (mask 4) (subst (λ z. acted_on u p z (mask z) ≡ Some (to, w)) q e)) (λ q. j.all_k (omega arith)) (decided (dec_eq i 4));
          all_not_m = λ k. ⊎_elim
              (λ q. not_m_holds (mask 7) (subst (λ z. acted_on u p z (mask z) ≡ Some (to, w)) q e)) (λ q. j.all_not_m (omega arith)) (decided (dec_eq i 7));
        })

    -- ---- all eight
    module _ (k : (mask 4 meets? u) ≡ false) (m : (mask 7 meets? p) ≡ false) where
      heads : joined 8 0 ≡ mask 0
      unfolding joined acted_on
      heads = rw (k, m)

      plains : joined 8 1 ≡ mask 1 ∪ mask 4
      unfolding joined acted_on
      plains = rw (k, m)

      nots : joined 8 2 ≡ mask 2 ∪ mask 5 ∖ u ∪ mask 7
      unfolding joined acted_on
      nots = rw (k, m)

      not_nots : joined 8 3 ≡ mask 3 ∪ mask 6 ∖ p
      unfolding joined acted_on
      not_nots = rw (k, m)

    pub all_joined : (rule : List ℕ) (i : ℕ) → Joined rule i → 8 ≤ i → (deleted_by u p masks ≡ false) × (rule_in rule 0 ≡ reduced_by u p masks)
    unfolding reduced_by
    all_joined rule i j h =
        let e : i ≡ 8 = omega (arith, j.few) in
        let k = j.all_k (omega arith) in
        let m = j.all_not_m (omega arith) in
        let at : (t : ℕ) → t < 4 → get_or rule t 0 ≡ joined 8 t = λ t l. j.stands t l ∙ ap (λ z. joined z t) e in
        (rw (k, m), cc (at 0 (omega arith) ∙ heads k m, at 1 (omega arith) ∙ plains k m, at 2 (omega arith) ∙ nots k m, at 3 (omega arith) ∙ not_nots k m))

    -- a mask at which the rule is deleted
    pub some_deletes : (i : ℕ) → i < 8 → acted_on u p i (mask i) ≡ None → deleted_by u p masks ≡ true
    some_deletes i h e =
        ⊎_elim (λ q. rw (subst (λ z. (mask z meets? u) ≡ true) q.0 q.1))
        (λ q. or_right (mask 4 meets? u) (subst (λ z. (mask z meets? p) ≡ true) q.0 q.1)) (deletes i (mask i) h e)
      where
        or_right : (a : Bool) {b : Bool} → b ≡ true → (a || b) ≡ true
        or_right true e = refl
        or_right false e = e
