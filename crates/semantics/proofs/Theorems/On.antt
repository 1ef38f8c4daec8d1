-- The rules that a guess switches on at a set of atoms, and stability by these alone. Assumes nothing.
use Rattle.std.specs.Prelude.{ℕ, ◌^◌, ◌<◌, ◌≡◌, refl, Bool, true, false, List, [], ◌∷◌, ◌↔◌, ◌⊎◌}
use Rattle.std.proofs.Common.{sym, ◌∙◌, subst, inl, inr, ⊎_elim}
use mathlib.Core.List.Memᴰ
use Rattle.sets.specs.Decides.{Decides, decided, dec_iff}
use Rattle.sets.specs.Lists.{◌among◌, here, among_place}
use Rattle.sets.specs.Pairwise.{distinct_places}
use Rattle.sets.specs.Sets.{◌∈◌, ◌⊆◌, ◌⊂◌, Meets}
use Rattle.sets.specs.Members.{dec_∈, ∈_below, ∈_ext, ∈-∪, ∈_set_of_dec, ⊆_refl, ⊆_trans}
use Rattle.semantics.specs.Definitions.Rules.{Rule, EpistemicRule, Subjective, K, not_k, M, not_m}
use Rattle.semantics.specs.Definitions.Guesses.{Negation, not_known, may_be, negations_of, assumed}
use Rattle.semantics.specs.Definitions.Reduct.{Action, becomes_a, becomes_not_a, becomes_not_not_a, removed, rule-deleted, table, holds_by, reduct_rule}
use Rattle.semantics.specs.Definitions.Setting.{Setting, setting_of, k, negation}
use Rattle.semantics.specs.AtSet.{need, bars, asks, barred, asked, plain_on}
use Rattle.semantics.proofs.Theorems.Negations.{definition_3, negations_distinct, dec_assumed}
use Rattle.semantics.specs.Theorems.Reduct.{Deleted, rule_reduces, among-reduct, Left, Throughout, kept_throughout}
use Rattle.semantics.specs.Theorems.Stable.{NegationsHold, Stable, ReducedModel}
use Rattle.semantics.proofs.Theorems.Stable.{reduced_model}
use Rattle.semantics.specs.Theorems.Verdict.{Satisfied}
use Rattle.semantics.proofs.Theorems.Verdict.{found_exact}
use Rattle.semantics.specs.Theorems.On.{Needs, Bars, Asks, negation_of, holds_if, Body, On, OnModel, Applies}

-- ---- the reduct, for any literals that hold
-- what the table does to a literal of a leaves something that holds in i
abbrev Leaves : (i a : ℕ) → Action → Type 0
Leaves i a becomes_a = a ∈ i
Leaves i a becomes_not_a = a ∈ i → ⊥
Leaves i a becomes_not_not_a = a ∈ i
Leaves i a removed = Unit {0}
Leaves i a rule-deleted = ⊥

leaves_left : (i a : ℕ) (x : Action) → Leaves i a x ↔ Left (λ b. b ∈ i) (λ b. b ∈ i → ⊥) a x
leaves_left i a becomes_a = (λ h. h, λ h. h)
leaves_left i a becomes_not_a = (λ h. h, λ h. h)
leaves_left i a becomes_not_not_a = (λ h. h, λ h. h)
leaves_left i a removed = (λ h. h, λ h. h)
leaves_left i a rule-deleted = (λ h. h, λ h. h)

-- each literal with K or M leaves something that holds in i
abbrev Literals : (Subjective → ℕ → Bool) → EpistemicRule → ℕ → Type 0
Literals holds r i = (m : Subjective) (a : ℕ) → a ∈ r.mask m → Leaves i a (table m (holds m a))

-- a body holds where every literal of it does
body_throughout : (i : ℕ) (q : Rule) → Body i q ↔ Throughout (λ a. a ∈ i) (λ a. a ∈ i → ⊥) q
body_throughout i q = (
  λ b. (λ a h. b.0.into h, λ a h t. b.1.0 (record { common = a; left = h; right = t }), λ a h. b.1.1.into h),
  λ f. (record { into = λ {a} h. f.0 a h }, ((λ t. f.1 t.common t.left t.right), record { into = λ {a} h. f.2 a h })),
)

module _ (n : ℕ) (holds : Subjective → ℕ → Bool) (r : EpistemicRule) (below : (m : Subjective) → r.mask m < 2 ^ n) where
  -- a rule applies where its body holds literal by literal
  applies_literals : (i : ℕ) → Applies n holds r i ↔ (Body i r.objective × Literals holds r i)
  applies_literals i =
      let w = kept_throughout (λ a. a ∈ i) (λ a. a ∈ i → ⊥) n holds r below in (
        λ p. let (b, f) = w.0 (p.0, (body_throughout i (reduct_rule n holds r)).0 p.1) in ((body_throughout i r.objective).1 b, λ m a h. (leaves_left i a (table m (holds m a))).1 (f m a h)),
        λ p. let (d, b) = w.1 ((body_throughout i r.objective).0 p.0, λ m a h. (leaves_left i a (table m (holds m a))).0 (p.1 m a h)) in (d, (body_throughout i (reduct_rule n holds r)).1 b),
      )

  -- the plain atoms of what a rule that is not deleted becomes
  pub plain_on_lem : (Deleted n holds r → ⊥) → (reduct_rule n holds r).plain ≡ plain_on r
  plain_on_lem d = ∈_ext _ _ (λ a. (
    λ t. (∈-∪ a r.objective.plain (r.mask K)).1 (⊎_elim inl (λ w. inr (only-k a w.1.0 (holds w.1.0 a) w.1.1 w.1.2)) (((rule_reduces n holds r).plain a).0 t)),
    λ t. ((rule_reduces n holds r).plain a).1 (⊎_elim inl (λ h. inr (∈_below (below K) h, (K, h, kept a h (holds K a) refl))) ((∈-∪ a r.objective.plain (r.mask K)).0 t)),
  ))
    where
      -- nothing but K a becomes a
      From : (a : ℕ) → Action → Type 0
      From a becomes_a = a ∈ r.mask K
      From a becomes_not_a = Unit {0}
      From a becomes_not_not_a = Unit {0}
      From a removed = Unit {0}
      From a rule-deleted = Unit {0}

      from : (a : ℕ) (m : Subjective) (b : Bool) → a ∈ r.mask m → From a (table m b)
      from a K true h = h
      from a K false h = tt
      from a not_k true h = tt
      from a not_k false h = tt
      from a M true h = tt
      from a M false h = tt
      from a not_m true h = tt
      from a not_m false h = tt

      only-k : (a : ℕ) (m : Subjective) (b : Bool) → a ∈ r.mask m → table m b ≡ becomes_a → a ∈ r.mask K
      only-k a m b h e = subst (From a) e (from a m b h)

      kept : (a : ℕ) → a ∈ r.mask K → (b : Bool) → holds K a ≡ b → table K (holds K a) ≡ becomes_a
      kept a h true e = rw e refl
      kept a h false e = absurd (d (a, ∈_below (below K) h, (K, h, rw e refl)))

-- ---- the negations that a set needs, and those of a rule
module _ (s : Setting) where
  needs_alone : (i : ℕ) (e : Negation) → Satisfied (i ∷ []) e ↔ Needs i e
  needs_alone i (not_known a) = (λ w h. w.2 (subst (λ x. a ∈ x) (sym (Memᴰ.eq_of_singleton w.1)) h), λ h. (i, here, h))
  needs_alone i (may_be a) = (λ w. subst (λ x. a ∈ x) (Memᴰ.eq_of_singleton w.1) w.2, λ h. (i, here, h))

  pub ∈-need : (i : ℕ) → i < 2 ^ s.atoms → (j : ℕ) → j < k s → j ∈ need s i ↔ Needs i (negation s j)
  ∈-need i l j h =
      let x = found_exact s (i ∷ []) (λ y m. subst (λ z. z < 2 ^ s.atoms) (sym (Memᴰ.eq_of_singleton m)) l) (i, here) j h in
      let y = needs_alone i (negation s j) in
      (λ m. y.0 (x.0 m), λ m. x.1 (y.1 m))

  dec_bars : (r : EpistemicRule) (e : Negation) → Decides (Bars r e) (bars r e)
  dec_bars r (not_known a) = dec_∈ a (r.mask K)
  dec_bars r (may_be a) = dec_∈ a (r.mask not_m)

  dec_asks : (r : EpistemicRule) (e : Negation) → Decides (Asks r e) (asks r e)
  dec_asks r (not_known a) = dec_∈ a (r.mask not_k)
  dec_asks r (may_be a) = dec_∈ a (r.mask M)

  pub ∈-barred : (r : EpistemicRule) {j : ℕ} → j ∈ barred s r ↔ ((j < k s) × Bars r (negation s j))
  ∈-barred r = ∈_set_of_dec (λ j. Bars r (negation s j)) (λ j. bars r (negation s j)) (λ j. dec_bars r (negation s j)) (k s)

  pub ∈-asked : (r : EpistemicRule) {j : ℕ} → j ∈ asked s r ↔ ((j < k s) × Asks r (negation s j))
  ∈-asked r = ∈_set_of_dec (λ j. Asks r (negation s j)) (λ j. asks r (negation s j)) (λ j. dec_asks r (negation s j)) (k s)

-- ---- the rules of a sheet
module _ (n : ℕ) (rs : List EpistemicRule) where
  abbrev s : Setting
  s = setting_of n rs

  -- negation j is assumed where j is in the guess
  pub dec_guessed : (g j : ℕ) (e : Negation) → j < k s → negation s j ≡ e → Decides (j ∈ g) (assumed (negations_of n rs) g e)
  dec_guessed g j e h z =
      dec_iff (
        λ w. subst (λ x. x ∈ g) (distinct_places (negations_of n rs) (not_known 0) (negations_distinct rs n) w.0 j w.1 h (w.2.1 ∙ sym z)) w.2.0,
        λ m. (j, h, (m, z)),
      ) (dec_assumed (negations_of n rs) g e)

  -- ---- a literal leaves something that holds where it holds by the guess with what the set needs
  -- where P says that its negation is had: "not K a" and M a want that, K a and not M a want that it is not
  abbrev Wanted : Subjective → Type 0 → Type 0
  Wanted K P = P → ⊥
  Wanted not_k P = P
  Wanted M P = P
  Wanted not_m P = P → ⊥

  -- b decides whether the guess has the negation, N says that the set needs it
  one : (i a : ℕ) (m : Subjective) (b : Bool) {P N : Type 0} → Decides P b → N ↔ Needs i (negation_of m a) → Leaves i a (table m (holds_if m b)) ↔ Wanted m (P ⊎ N)
  one i a K true d w = ((λ h. absurd h), λ f. f (inl (d.yes refl)))
  one i a K false d w = (λ h. ⊎_elim (d.no refl) (λ y. w.0 y h), λ f. ⊎_elim (λ h. h) (λ y. absurd (f (inr (w.1 y)))) (decided (dec_∈ a i)))
  one i a not_k true d w = (λ _. inl (d.yes refl), λ _. tt)
  one i a not_k false d w = (λ h. inr (w.1 h), ⊎_elim (λ p. absurd (d.no refl p)) w.0)
  one i a M true d w = (λ _. inl (d.yes refl), λ _. tt)
  one i a M false d w = (λ h. inr (w.1 h), ⊎_elim (λ p. absurd (d.no refl p)) w.0)
  one i a not_m true d w = ((λ h. absurd h), λ f. f (inl (d.yes refl)))
  one i a not_m false d w = (λ h. ⊎_elim (d.no refl) (λ y. h (w.0 y)), λ f y. f (inr (w.1 y)))

  -- a literal holds by the guess where it gets what it wants
  pub holds_if_lem : (g : ℕ) (m : Subjective) (a : ℕ) → holds_by (negations_of n rs) g m a ≡ holds_if m (assumed (negations_of n rs) g (negation_of m a))
  holds_if_lem g K a = refl
  holds_if_lem g not_k a = refl
  holds_if_lem g M a = refl
  holds_if_lem g not_m a = refl

  -- of a literal whose negation has the number j
  literal : (g i : ℕ) → i < 2 ^ n → (m : Subjective) (a j : ℕ) → j < k s → negation s j ≡ negation_of m a
      → Leaves i a (table m (holds_by (negations_of n rs) g m a)) ↔ Wanted m ((j ∈ g) ⊎ (j ∈ need s i))
  literal g i l m a j h z =
      rw (holds_if_lem g m a)
      (one i a m (assumed (negations_of n rs) g (negation_of m a)) (dec_guessed g j (negation_of m a) h z)
      (subst (λ e. j ∈ need s i ↔ Needs i e) z (∈-need s i l j h)))

  module _ (r : EpistemicRule) (here_in : r among rs) (below : (m : Subjective) → r.mask m < 2 ^ n) (g i : ℕ) (fits : i < 2 ^ n) where
    abbrev holds : Subjective → ℕ → Bool
    holds = holds_by (negations_of n rs) g

    -- a literal's negation has a number
    number : (m : Subjective) (a : ℕ) → a ∈ r.mask m → (j : ℕ) × (j < k s) × (negation s j ≡ negation_of m a)
    number m a h = among_place (negations_of n rs) (not_known 0) (appears m h)
      where
        appears : (m : Subjective) → a ∈ r.mask m → negation_of m a among negations_of n rs
        appears K h = (definition_3 rs n).1 (∈_below (below K) h, (r, here_in, inl h))
        appears not_k h = (definition_3 rs n).1 (∈_below (below not_k) h, (r, here_in, inr h))
        appears M h = (definition_3 rs n).1 (∈_below (below M) h, (r, here_in, inl h))
        appears not_m h = (definition_3 rs n).1 (∈_below (below not_m) h, (r, here_in, inr h))

    from_on : On s r g i → Literals holds r i
    from_on o m a h =
        let (j, l, z) = number m a h in
        (literal g i fits m a j l z).1 (wanted m j l z h)
      where
        wanted : (m : Subjective) (j : ℕ) → j < k s → negation s j ≡ negation_of m a → a ∈ r.mask m → Wanted m ((j ∈ g) ⊎ (j ∈ need s i))
        wanted K j l z h = λ p. o.apart (record { common = j; left = (∈-barred s r).1 (l, subst (Bars r) (sym z) h); right = (∈-∪ j g (need s i)).1 p })
        wanted not_k j l z h = (∈-∪ j g (need s i)).0 (o.inside.into ((∈-asked s r).1 (l, subst (Asks r) (sym z) h)))
        wanted M j l z h = (∈-∪ j g (need s i)).0 (o.inside.into ((∈-asked s r).1 (l, subst (Asks r) (sym z) h)))
        wanted not_m j l z h = λ p. o.apart (record { common = j; left = (∈-barred s r).1 (l, subst (Bars r) (sym z) h); right = (∈-∪ j g (need s i)).1 p })

    to_on : Body i r.objective → Literals holds r i → On s r g i
    to_on b f = record {
      body = b;
      apart = λ w. let j = w.common in let (l, h) = (∈-barred s r).0 w.left in kept_out j l (negation s j) refl h ((∈-∪ j g (need s i)).0 w.right);
      inside = record { into = λ {a = j} m. let (l, h) = (∈-asked s r).0 m in (∈-∪ j g (need s i)).1 (let_in j l (negation s j) refl h) };
    }
      where
        kept_out : (j : ℕ) → j < k s → (e : Negation) → negation s j ≡ e → Bars r e → (j ∈ g) ⊎ (j ∈ need s i) → ⊥
        kept_out j l (not_known a) z h = (literal g i fits K a j l z).0 (f K a h)
        kept_out j l (may_be a) z h = (literal g i fits not_m a j l z).0 (f not_m a h)

        let_in : (j : ℕ) → j < k s → (e : Negation) → negation s j ≡ e → Asks r e → (j ∈ g) ⊎ (j ∈ need s i)
        let_in j l (not_known a) z h = (literal g i fits not_k a j l z).0 (f not_k a h)
        let_in j l (may_be a) z h = (literal g i fits M a j l z).0 (f M a h)

    -- a rule on is one that is not deleted, and the body of what it becomes holds in i
    pub on_iff : Applies n holds r i ↔ On s r g i
    on_iff =
        let x = applies_literals n holds r below i in
        (λ p. let (b, f) = x.0 p in to_on b f, λ o. x.1 (o.body, from_on o))

    -- it becomes one with these plain atoms, which are in i
    pub on_plain : On s r g i → ((reduct_rule n holds r).plain ≡ plain_on r) × (plain_on r ⊆ i)
    on_plain o =
        let (d, b) = on_iff.1 o in
        let e = plain_on_lem n holds r below d in
        (e, subst (λ x. x ⊆ i) e b.0)

  -- ---- stability by the rules on
  module _ (below : (r : EpistemicRule) → r among rs → (m : Subjective) → r.mask m < 2 ^ n) (g i : ℕ) (fits : i < 2 ^ n) where
    on_model : {j : ℕ} → j ⊆ i → ReducedModel (s.program g) i j ↔ OnModel s rs g i j
    on_model {j} within =
        let u = holds_by (negations_of n rs) g in (
          λ f r m o x. let (d, b) = (on_iff r m (below r m) g i fits).1 o in
              let e = (on_plain r m (below r m) g i fits o).0 in
              subst (λ h. Meets h j) (rule_reduces n u r).head
              (f (reduct_rule n u r) ((among-reduct n u rs).1 (r, m, d, refl)) b.1 (subst (λ y. y ⊆ j) (sym e) x)),
          λ f q t. let (r, m, d, z) = (among-reduct n u rs).0 t in
              subst (λ q. NegationsHold i q → q.plain ⊆ j → Meets q.head j) (sym z)
              (λ h x. subst (λ y. Meets y j) (sym (rule_reduces n u r).head)
              (f r m ((on_iff r m (below r m) g i fits).0 (d, (⊆_trans x within, h))) (subst (λ y. y ⊆ j) (plain_on_lem n u r (below r m) d) x))),
        )

    -- i is stable for g where every rule on has a head atom in i, and no proper subset is a model of the rules on
    pub stable-on : Stable (s.program g) i ↔ (((r : EpistemicRule) → r among rs → On s r g i → Meets r.objective.head i) × ((j : ℕ) → j ⊂ i → OnModel s rs g i j → ⊥))
    stable-on =
        let p = s.program g in (
          λ t. (
            λ r m o. (on_model ⊆_refl).0 ((reduced_model p i i).0 t.model) r m o (on_plain r m (below r m) g i fits o).1,
            λ j l f. t.minimal j l ((reduced_model p i j).1 ((on_model l.within).1 f)),
          ),
          λ t. record {
            model = (reduced_model p i i).1 ((on_model ⊆_refl).1 (λ r m o _. t.0 r m o));
            minimal = λ j l f. t.1 j l ((on_model l.within).0 ((reduced_model p i j).0 f));
          },
        )
