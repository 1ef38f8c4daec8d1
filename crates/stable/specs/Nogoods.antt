-- Nogoods: each excludes many sets at once. Assumes nothing.
use Rattle.std.specs.Prelude.{ℕ, ◌≡◌, refl, true, false, ◌&&◌, List, ◌⊎◌}
use Rattle.std.proofs.Common.{sym, ap, subst, ◌∙◌, inl, inr, ⊎_elim}
use Rattle.std.proofs.Math.Bool.{and-false}
use Rattle.sets.specs.Decides.{is_false, decided}
use Rattle.sets.specs.Lists.{◌among◌}
use Rattle.sets.specs.Sets.{◌∈◌, ◌⊆◌, ◌⊂◌, Meets, ◌∪◌, ◌∩◌, ◌∖◌, ∅, single}
use Rattle.sets.specs.Members.{∈-∩, ∈-∪, ∈-∖, ∈-single, ∖-⊆, ∪-⊆, ⊆_trans, dec_∈}
use Rattle.sets.specs.One.{OneOf}
use Rattle.semantics.specs.Definitions.Rules.{Rule}
use Rattle.semantics.specs.Definitions.Stable.{stable}
use Rattle.semantics.specs.Definitions.Day.{allowed, stable_under}
use Rattle.semantics.specs.Theorems.Stable.{NegationsHold, Stable}
use Rattle.semantics.proofs.Theorems.Stable.{dec_stable, reduced_model}
use Rattle.semantics.specs.Theorems.Day.{Allowed}
use Rattle.semantics.proofs.Theorems.Day.{dec_allowed}
use Rattle.stable.specs.Search.{Applies, reduct_model}

-- no set that has every atom of x and none of y is a stable set that the masks allow
abbrev pub Excludes : (ins outs : ℕ) → List Rule → (x y : ℕ) → Type 0
Excludes ins outs p x y = (i : ℕ) → allowed x y i ≡ true → stable_under ins outs p i ≡ false

-- ---- a set of atoms u is unfounded in every set that has x and lacks y where each rule is blocked: with a head atom in u and no plain atom
-- there it asks for an atom of y, forbids one of x, or has a head atom of x outside u
abbrev pub Blocked : (x y u : ℕ) → Rule → Type 0
Blocked x y u r = Meets r.head u → (Meets r.plain u → ⊥) → (Meets (r.plain ∪ r.not_nots) y ⊎ Meets r.nots x) ⊎ Meets (r.head ∖ u) x

-- more atoms in x and y, which block the rule
pub record Blocks (r : Rule) (u x y x' y' : ℕ) : Type 0 where
  pub more-has : x ⊆ x'
  pub more_lacks : y ⊆ y'
  pub blocked : Blocked x' y' u r

-- where the rule's body holds in i, s satisfies it
abbrev pub SatisfiedIn : (i s : ℕ) → Rule → Type 0
SatisfiedIn i s r = Applies i r → r.plain ⊆ s → Meets r.head s

module _ (ins outs : ℕ) (p : List Rule) where
  exclude : {i : ℕ} → (Stable p i → ⊥) → stable_under ins outs p i ≡ false
  exclude {i} n = ap (λ b. allowed ins outs i && b) (is_false (dec_stable p i) n) ∙ and-false (allowed ins outs i)

  -- without an unfounded set of atoms, what is left is a smaller model
  pub unfounded_excludes : {x y u a : ℕ} → a ∈ u → u ⊆ x → ((r : Rule) → r among p → Blocked x y u r) → Excludes ins outs p x y
  unfounded_excludes {x} {y} {u} {a} m s blocked i h = exclude (λ st. st.minimal (i ∖ u) smaller ((reduced_model p i (i ∖ u)).1 (left st)))
    where
      has : x ⊆ i
      has = ((dec_allowed x y i).yes h).0

      lacks : Meets y i → ⊥
      lacks = ((dec_allowed x y i).yes h).1

      less : i ∖ u ⊆ i
      less = ∖-⊆ i u

      smaller : i ∖ u ⊂ i
      smaller = record { within = less; differ = λ e. ((∈-∖ a i u).0 (subst (λ z. a ∈ z) (sym e) (has.into (s.into m)))).1 m }

      outside : (r : Rule) {b : ℕ} → b ∈ r.head → b ∈ i → (b ∈ u → ⊥) → Meets r.head (i ∖ u)
      outside r {b} k l n = record { common = b; left = k; right = (∈-∖ b i u).1 (l, n) }

      left : Stable p i → (r : Rule) → r among p → NegationsHold i r → r.plain ⊆ i ∖ u → Meets r.head (i ∖ u)
      left st r k n b =
          let h = (reduct_model p i).0 st.model r k (⊆_trans b less, n) in
          ⊎_elim
          (λ inside.
          ⊎_elim
          (⊎_elim
          (λ q. absurd (lacks (record {
            common = q.common;
            left = q.right;
            right = ⊎_elim (λ t. less.into (b.into t)) (λ t. n.1.into t) ((∈-∪ q.common r.plain r.not_nots).0 q.left);
          })))
          (λ q. absurd (n.0 (record { common = q.common; left = q.left; right = has.into q.right }))))
          (λ q. let (t, o) = (∈-∖ q.common r.head u).0 q.left in outside r t (has.into q.right) o)
          (blocked r k (record { common = h.common; left = h.left; right = inside }) (λ q. ((∈-∖ q.common i u).0 (b.into q.left)).1 q.right)))
          (λ n. outside r h.left h.right n)
          (decided (dec_∈ h.common u))

  -- a rule fails in every set that has its plain and "not not" atoms, and no "not" or head atom of it
  pub rule_excludes : (r : Rule) → r among p → Excludes ins outs p (r.plain ∪ r.not_nots) (r.nots ∪ r.head)
  rule_excludes r k i h = exclude (λ st.
      let (has, lacks) = (dec_allowed (r.plain ∪ r.not_nots) (r.nots ∪ r.head) i).yes h in
      let (plain, not_nots) = (∪-⊆ r.plain r.not_nots i).0 has in
      let nots : Meets r.nots i → ⊥ = λ q. lacks (record { common = q.common; left = (∈-∪ q.common r.nots r.head).1 (inl q.left); right = q.right }) in
      let q = (reduct_model p i).0 st.model r k (plain, (nots, not_nots)) in
      lacks (record { common = q.common; left = (∈-∪ q.common r.nots r.head).1 (inr q.left); right = q.right }))

  forbidden : {i : ℕ} → (Allowed ins outs i → ⊥) → stable_under ins outs p i ≡ false
  forbidden {i} n = ap (λ b. b && stable p i) (is_false (dec_allowed ins outs i) n)

  -- an in-atom excludes every set that lacks it, an out-atom every set that has it
  pub in_excludes : (i : ℕ) {r : ℕ} → OneOf (ins ∖ i) r → Excludes ins outs p ∅ r
  in_excludes i {r} (a, m, e) j h = forbidden (λ f. ((dec_allowed ∅ r j).yes h).1 (record {
    common = a;
    left = subst (λ z. a ∈ z) (sym e) ((∈-single a a).1 refl);
    right = f.0.into ((∈-∖ a ins i).0 m).0;
  }))

  pub out_excludes : (i : ℕ) {r : ℕ} → OneOf (outs ∩ i) r → Excludes ins outs p r ∅
  out_excludes i {r} (a, m, e) j h = forbidden (λ f. f.1 (record {
    common = a;
    left = ((∈-∩ a outs i).0 m).0;
    right = ((dec_allowed r ∅ j).yes h).0.into (subst (λ z. a ∈ z) (sym e) ((∈-single a a).1 refl));
  }))

  -- no set has an atom and lacks it
  pub none_excluded : Excludes ins outs p (single 0) (single 0)
  none_excluded i h =
      let (has, lacks) = (dec_allowed (single 0) (single 0) i).yes h in
      let zero = (∈-single 0 0).1 refl in
      absurd (lacks (record { common = 0; left = zero; right = has.into zero }))
