-- Document 02, K6: what was grown in a set, and the smaller models. Assumes nothing.
use Rattle.std.specs.Prelude.{ℕ, ◌<◌, ◌≡◌, false, not, List, Option, Some, None, ◌↔◌, eqb, ltb}
use Rattle.std.proofs.Common.{sym, ap, subst, ◌∙◌, inl, inr, ⊎_elim, lt_of_not-le}
use Rattle.sets.specs.Decides.{decided, dec_one, dec_iff, dec_not, dec_eq, dec_le, dec_lt}
use Rattle.sets.specs.Lists.{◌among◌, dec_some}
use Rattle.sets.specs.Sets.{◌∈◌, ◌⊆◌, ◌⊂◌, Meets, ◌∩◌, ◌∪◌, ◌∖◌, single, size}
use Rattle.sets.specs.Members.{dec_∈, ∈_ext, ∈-∩, ∈-∪, ∈-∖, ∈-single, ∩-⊆, ∖-⊆, ∪-⊆, ⊆_trans, ⊆_antisym}
use Rattle.sets.specs.One.{only_one, another}
use Rattle.semantics.specs.Definitions.Rules.{Rule}
use Rattle.semantics.specs.Definitions.Stable.{smaller_model}
use Rattle.semantics.specs.Theorems.Stable.{Model}
use Rattle.semantics.proofs.Theorems.Stable.{dec_smaller}
use Rattle.semantics.specs.Theorems.SingleHeads.{Positive}
use Rattle.semantics.proofs.Theorems.SingleHeads.{negations_hold_lem}
use Rattle.stable.specs.Growth.{OneIn, TwoHeads, ClosedIn, Grown, Supported}

-- a smaller model, or none where there is none
abbrev pub SmallerIfAny : (p : List Rule) (i : ℕ) → Option ℕ → Type 0
SmallerIfAny p i (Some r) = (r ⊂ i) × Model p r
SmallerIfAny p i None = smaller_model p i ≡ false

-- i is closed
pub whole_closed : (p : List Rule) (i : ℕ) → ClosedIn p i i
whole_closed p i r k one b = ∩-⊆ r.head i

-- a set that contains l is l and what it has beyond
with_beyond : {l j : ℕ} → l ⊆ j → l ∪ (j ∖ l) ≡ j
with_beyond {l} {j} s = ∈_ext (l ∪ (j ∖ l)) j (λ a. (
  λ m. ⊎_elim s.into (λ q. ((∈-∖ a j l).0 q).0) ((∈-∪ a l (j ∖ l)).0 m),
  λ m. (∈-∪ a l (j ∖ l)).1 (⊎_elim inl (λ n. inr ((∈-∖ a j l).1 (m, n))) (decided (dec_∈ a l))),
))

module _ {p : List Rule} (plain_only : Positive p) where
  -- where the plain atoms of a rule are in a model, a head atom is
  pub satisfied : {j : ℕ} → Model p j → (r : Rule) → r among p → r.plain ⊆ j → Meets r.head j
  satisfied {j} m r k b = m r k (b, negations_hold_lem plain_only r k j)

  module _ {i : ℕ} where
    model_closed : {j : ℕ} → j ⊆ i → Model p j → ClosedIn p i j
    model_closed {j} s m r k one b =
        let h = satisfied m r k b in
        let a = (∈-∩ h.common r.head i).1 (h.left, s.into h.right) in
        record { into = λ {a = c} q. subst (λ z. z ∈ j) (only_one one a q) h.right }

    -- every model within the set contains what was grown
    pub models_contain : {j l : ℕ} → Grown p i l → j ⊆ i → Model p j → l ⊆ j
    models_contain g s m = g.least (model_closed s m)

    pub grown_within : {l : ℕ} → Grown p i l → l ⊆ i
    grown_within g = g.least (whole_closed p i)

    -- a set that is grown whole has no smaller model
    pub grown-whole : Grown p i i → (j : ℕ) → j ⊂ i → Model p j → ⊥
    grown-whole g j s m = s.differ (⊆_antisym s.within (models_contain g s.within m))

    -- what was grown in a model is a model, unless some rule has two head atoms there
    pub grown_model : {l : ℕ} → Grown p i l → Model p i → (TwoHeads p i → ⊥) → Model p l
    grown_model g m none r k b =
        let h = satisfied m r k (⊆_trans b.0 (grown_within g)) in
        let a = (∈-∩ h.common r.head i).1 (h.left, h.right) in
        let one : OneIn i r = ⊎_elim (λ l. l) (λ l. absurd (none (r, k, lt_of_not-le l))) (decided (dec_le (size (r.head ∩ i)) 1)) in
        record { common = h.common; left = h.left; right = (g.closed r k one b.0).into a }

    pub two_heads : {l : ℕ} → Grown p i l → Model p i → (Model p l → ⊥) → TwoHeads p i
    two_heads g m n =
        ⊎_elim (λ t. t) (λ none. absurd (n (grown_model g m none)))
        (decided (dec_some (λ r. ltb 1 (size (r.head ∩ i))) (λ r. 1 < size (r.head ∩ i)) p (λ r _. dec_lt 1 (size (r.head ∩ i)))))

    -- an atom that is the only head atom in i of no rule can be left out
    pub unsupported : Model p i → {a : ℕ} → (Supported p i a → ⊥) → Model p (i ∖ single a)
    unsupported m {a} f r k b = ⊎_elim one several (decided (dec_le (size (r.head ∩ i)) 1))
      where
        head_meets : (c : ℕ) → c ∈ r.head ∩ i → (c ≡ a → ⊥) → Meets r.head (i ∖ single a)
        head_meets c q n =
            let (h, s) = (∈-∩ c r.head i).0 q in
            record { common = c; left = h; right = (∈-∖ c i (single a)).1 (s, λ t. n ((∈-single c a).0 t)) }

        one : OneIn i r → Meets r.head (i ∖ single a)
        one o =
            let h = satisfied m r k (⊆_trans b.0 (∖-⊆ i (single a))) in
            let q = (∈-∩ h.common r.head i).1 (h.left, h.right) in
            head_meets h.common q (λ e. f (r, k, o, subst (λ z. z ∈ r.head ∩ i) e q))

        several : (OneIn i r → ⊥) → Meets r.head (i ∖ single a)
        several n = let (c, q, d) = another a (lt_of_not-le n) in head_meets c q d

    -- where no rule has two head atoms in the set: there is a smaller model exactly where i is not grown whole
    pub growth_decides : {l : ℕ} → Grown p i l → Model p i → (TwoHeads p i → ⊥) → smaller_model p i ≡ not (eqb l i)
    growth_decides {l} g m none =
        dec_one (dec_smaller p i)
        (dec_iff (
          λ n. (l, record { within = grown_within g; differ = n }, grown_model g m none),
          λ (j, s, k) e. grown-whole (subst (Grown p i) e g) j s k,
        ) (dec_not (dec_eq l i)))

    -- otherwise the smaller models are those that have what was grown, and a part of what i has beyond
    pub beyond_smaller : {l u : ℕ} → Grown p i l → u ⊂ i ∖ l → l ∪ u ⊂ i
    beyond_smaller {l} {u} g s = record {
      within = (∪-⊆ l u i).1 (grown_within g, ⊆_trans s.within (∖-⊆ i l));
      differ = λ e. s.differ (⊆_antisym s.within (record {
        into = λ {a} q.
            let (x, y) = (∈-∖ a i l).0 q in
            ⊎_elim (λ k. absurd (y k)) (λ k. k) ((∈-∪ a l u).0 (subst (λ z. a ∈ z) (sym e) x));
      }));
    }

    pub only_beyond : {l : ℕ} → Grown p i l → ((j : ℕ) × (j ⊂ i) × Model p j) ↔ ((u : ℕ) × (u ⊂ i ∖ l) × Model p (l ∪ u))
    only_beyond {l} g = (
      λ (j, s, k).
          let c = models_contain g s.within k in (
            j ∖ l,
            record {
              within = record { into = λ {a} q. let (x, y) = (∈-∖ a j l).0 q in (∈-∖ a i l).1 (s.within.into x, y) };
              differ = λ d. s.differ (sym (with_beyond c) ∙ ap (λ u. l ∪ u) d ∙ with_beyond (grown_within g));
            },
            subst (Model p) (sym (with_beyond c)) k,
          ),
      λ (u, s, k). (l ∪ u, beyond_smaller g s, k),
    )
