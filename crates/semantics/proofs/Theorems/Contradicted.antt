-- Every stable set contains T and meets no atom of F; so a contradicted guess is not reduct-verifiable. Assumes nothing.
use Rattle.std.specs.Prelude.{ℕ, ◌^◌, ◌<◌, ◌≡◌, refl, not, ◌&&◌, List, ◌↔◌, eqb}
use Rattle.std.proofs.Common.{sym, inl, inr}
use Rattle.std.proofs.Math.Path.{subst}
use Rattle.std.proofs.Math.Logic.{⊎_elim}
use Rattle.sets.specs.Decides.{Decides, decided, dec_iff, dec_not, dec_and, dec_or, dec_if, dec_eq}
use Rattle.sets.specs.Lists.{◌among◌, dec_some, dec_any}
use Rattle.sets.specs.Sets.{◌∈◌, ◌⊆◌, ◌⊂◌, ◌∈?◌, ∅, set_of}
use Rattle.sets.specs.Members.{dec_∈, ∈_below, ∈-∅, ⊆_trans, dec_meets, ∈_set_of_dec}
use Rattle.semantics.specs.Definitions.Rules.{Rule}
use Rattle.semantics.specs.Definitions.Guesses.{Negation, not_known, may_be}
use Rattle.semantics.specs.Definitions.Setting.{Setting, k, negation}
use Rattle.semantics.specs.Definitions.Verdict.{belief_sets}
use Rattle.semantics.specs.Definitions.Propagation.{Pair, propagated, clashes, contradicted}
use Rattle.semantics.specs.Theorems.Stable.{NegationsHold, ReducedModel, Stable}
use Rattle.semantics.proofs.Theorems.Stable.{reduced_model, among_belief_sets}
use Rattle.semantics.specs.Theorems.Verdict.{Satisfied, Verifiable}
use Rattle.semantics.specs.Theorems.Closure.{Sure, Dead, Closed}
use Rattle.semantics.proofs.Theorems.Closure.{dec_sure, sure-more, propagated-least, propagated_is, least-only}
use Rattle.semantics.specs.Theorems.Contradicted.{ClashIf, Clash, EmptyHead}
use Rattle.semantics.specs.Theorems.Contradicted as defined

-- ---- a stable set, and what is outside it, are a closed pair
module _ (n : ℕ) (p : List Rule) (i : ℕ) (l : i < 2 ^ n) (st : Stable p i) where
  outside : ℕ
  outside = set_of (λ a. not (a ∈? i)) n

  ∈-outside : {a : ℕ} → a ∈ outside ↔ ((a < n) × (a ∈ i → ⊥))
  unfolding outside
  ∈-outside = ∈_set_of_dec (λ a. a ∈ i → ⊥) _ (λ a. dec_not (dec_∈ a i)) n

  -- i without a
  less : ℕ → ℕ
  less a = set_of (λ b. b ∈? i && not (eqb b a)) n

  ∈_less : (a : ℕ) {b : ℕ} → b ∈ less a ↔ ((b ∈ i) × (b ≡ a → ⊥))
  unfolding less
  ∈_less a =
      let m = ∈_set_of_dec (λ b. (b ∈ i) × (b ≡ a → ⊥)) _ (λ b. dec_and (dec_∈ b i) (dec_not (dec_eq b a))) n in
      (λ q. (m.0 q).1, λ q. m.1 (∈_below l q.0, q))

  less_⊂ : (a : ℕ) → a ∈ i → less a ⊂ i
  less_⊂ a m = record {
    within = record { into = λ q. ((∈_less a).0 q).0 };
    differ = λ e. ((∈_less a).0 (subst (λ z. a ∈ z) (sym e) m)).1 refl;
  }

  parted : Pair
  parted = record { T = i; F = outside }

  model : ReducedModel p i i
  model = (reduced_model p i i).0 st.model

  sure-holds : (r : Rule) → Sure parted r → NegationsHold i r × (r.plain ⊆ i)
  unfolding parted
  sure-holds r s = (((λ m. (∈-outside.0 (s.2.into m.left)).1 m.right), s.1), s.0)

  dead_fails : (r : Rule) → Dead parted r → NegationsHold i r → r.plain ⊆ i → ⊥
  unfolding parted
  dead_fails r (inl (inl m)) h b = (∈-outside.0 m.right).1 (b.into m.left)
  dead_fails r (inl (inr m)) h b = (∈-outside.0 m.right).1 (h.1.into m.left)
  dead_fails r (inr m) h b = h.0 m

  parted_closed : Closed n p parted
  unfolding parted
  parted_closed = record {
    has_t = λ {a} h e.
        let (r, m, _, s, others) = e in
        let (holds, body) = sure-holds r s in
        let x = model r m holds body in
        ⊎_elim (λ z. subst (λ b. b ∈ i) z x.right) (λ z. absurd ((∈-outside.0 (others x.common x.left z)).1 x.right)) (decided (dec_eq x.common a));
    has_f = λ {a} h f. ∈-outside.1 (
      h,
      λ u.
          st.minimal (less a) (less_⊂ a u) ((reduced_model p i (less a)).1 (λ r m holds body.
          let whole = ⊆_trans body (less_⊂ a u).within in
          let x = model r m holds whole in
          ⊎_elim (λ z. absurd (dead_fails r (f r m (subst (λ b. b ∈ r.head) z x.left)) holds whole))
          (λ z. record { common = x.common; left = x.left; right = (∈_less a).1 (x.right, z) }) (decided (dec_eq x.common a)))),
    );
  }

  pub stable_t : (propagated n p).T ⊆ i
  unfolding parted
  stable_t = (propagated-least n p parted_closed).in_t

  -- a sure rule's body holds in i
  pub stable-sure : (r : Rule) → Sure (propagated n p) r → NegationsHold i r × (r.plain ⊆ i)
  stable-sure r s = sure-holds r (sure-more (propagated-least n p parted_closed) r s)

  pub stable_f : {a : ℕ} → a ∈ (propagated n p).F → a ∈ i → ⊥
  unfolding parted
  stable_f {a} m = (∈-outside.0 ((propagated-least n p parted_closed).in_f.into m)).1

-- ---- contradicted guesses
pub clash_if : (j g : ℕ) (e : Negation) (x : Pair) → Clash j g e x ↔ ClashIf (j ∈ g) e x
clash_if j g (not_known a) x = (λ c. c, λ c. c)
clash_if j g (may_be a) x = (λ c. c, λ c. c)

pub dec_clash : (j g : ℕ) (e : Negation) (x : Pair) → Decides (Clash j g e x) (clashes (j ∈? g) e x)
dec_clash j g (not_known a) x = dec_if (dec_∈ j g) (dec_∈ a x.T) (dec_∈ a x.F)
dec_clash j g (may_be a) x = dec_if (dec_∈ j g) (dec_∈ a x.F) (dec_∈ a x.T)

module _ (s : Setting) (g : ℕ) where
  -- T and F of its reduct
  abbrev pair_of : Pair
  pair_of = defined.pair_of s g

  -- "A guess is contradicted when" so, of T and F
  abbrev ContradictedBy : Pair → Type 0
  ContradictedBy = defined.ContradictedBy s g

  abbrev Contradicted : Type 0
  Contradicted = defined.Contradicted s g

  pub dec_contradicted_by : Decides (ContradictedBy pair_of) (contradicted s g)
  unfolding contradicted
  dec_contradicted_by =
      dec_or (dec_or (dec_meets pair_of.T pair_of.F) (dec_some _ _ (s.program g) (λ r _. dec_and (dec_sure pair_of r) (dec_eq r.head ∅))))
      (dec_any _ _ (k s) (λ j _. dec_clash j g (negation s j) pair_of))

  by_pair : Contradicted → ContradictedBy pair_of
  by_pair c = subst ContradictedBy (least-only s.atoms (s.program g) c.1) c.2

  pub dec_contradicted : Decides Contradicted (contradicted s g)
  dec_contradicted = dec_iff (λ c. (pair_of, propagated_is s.atoms (s.program g), c), by_pair) dec_contradicted_by

  -- a belief set contains T and no atom of F
  pub believed_t : {i : ℕ} → i among belief_sets s g → pair_of.T ⊆ i
  believed_t {i} m = let (l, st) = (among_belief_sets s g).0 m in stable_t s.atoms (s.program g) i l st

  pub believed_f : {i a : ℕ} → i among belief_sets s g → a ∈ pair_of.F → a ∈ i → ⊥
  believed_f {i} m = let (l, st) = (among_belief_sets s g).0 m in stable_f s.atoms (s.program g) i l st

  no_empty_head : {i : ℕ} → i among belief_sets s g → EmptyHead (s.program g) pair_of → ⊥
  no_empty_head {i} m (r, n, (sr, e)) =
      let (l, st) = (among_belief_sets s g).0 m in
      let (holds, body) = stable-sure s.atoms (s.program g) i l st r sr in
      let x = (reduced_model (s.program g) i i).0 st.model r n holds body in
      ∈-∅ (subst (λ z. x.common ∈ z) e x.left)

  no_clash : (j : ℕ) (e : Negation) → (i : ℕ) × (i among belief_sets s g) → (j ∈ g) ↔ Satisfied (belief_sets s g) e → Clash j g e pair_of → ⊥
  no_clash j (not_known a) first w (inl q) = let (i, m, n) = w.0 q.0 in n ((believed_t m).into q.1)
  no_clash j (not_known a) first w (inr q) = q.0 (w.1 (first.0, first.1, believed_f first.1 q.1))
  no_clash j (may_be a) first w (inl q) = let (i, m, h) = w.0 q.0 in believed_f m q.1 h
  no_clash j (may_be a) first w (inr q) = q.0 (w.1 (first.0, first.1, (believed_t first.1).into q.1))

  pub contradicted_unverifiable : Contradicted → Verifiable s g → ⊥
  contradicted_unverifiable c v = go (by_pair c)
    where
      go : ContradictedBy pair_of → ⊥
      go (inl (inl m)) = let (i, b) = v.non_empty in believed_f b m.right ((believed_t b).into m.left)
      go (inl (inr q)) = no_empty_head v.non_empty.1 q
      go (inr (j, l, clash)) = no_clash j (negation s j) v.non_empty (v.exact j l) clash
