-- 000, Definitions 1, 2 and 4: a world view as a set W that is the stable sets of its own modal reduct. It is the same as Definition 6.
-- Assumes nothing.
use Rattle.std.specs.Prelude.{ℕ, zero, suc, ◌^◌, ◌<◌, ◌≡◌, refl, Bool, true, false, ◌&&◌, List, [], ◌∷◌, ◌↔◌, length}
use Rattle.std.proofs.Common.{zero-le, suc-le-suc, ◌∙◌, subst, inl, inr, ⊎_elim}
use Rattle.std.proofs.Math.Path.{sym, ap}
use Rattle.std.proofs.Math.Bool.{not}
use Rattle.sets.specs.Decides.{Decides, decided, does, dec_one, dec_iff, dec_not}
use Rattle.sets.specs.Lists.{◌among◌, nowhere, first_or_later, up_to, among-up_to, dec_every, dec_some, some_same, map_keep_same}
use Rattle.sets.specs.Sets.{◌∈◌, ◌⊂◌, ◌∈?◌, ◌∪◌}
use Rattle.sets.specs.Members.{dec_∈, set_of-same}
use Rattle.semantics.specs.Definitions.Rules.{EpistemicRule, Subjective, K, not_k, M, not_m}
use Rattle.semantics.specs.Definitions.Guesses.{Negation, not_known, may_be, negations_of, numbered, assumed}
use Rattle.semantics.specs.Definitions.Reduct.{Action, becomes_a, becomes_not_a, becomes_not_not_a, rule-deleted, same_action, table, holds_by, acted, reduct_rule, reduct}
use Rattle.semantics.specs.Definitions.Setting.{Setting, setting_of, k, negation}
use Rattle.semantics.specs.Definitions.Stable.{stable_sets}
use Rattle.semantics.specs.Definitions.Verdict.{belief_sets, guess_found}
use Rattle.semantics.proofs.Theorems.Negations.{definition_3, dec_assumed}
use Rattle.semantics.proofs.Theorems.Stable.{among_stable_sets}
use Rattle.semantics.specs.Theorems.Verdict.{Satisfied, Verifiable}
use Rattle.semantics.proofs.Theorems.Verdict.{found_exact, found_below, verifiable_found}
use Rattle.semantics.specs.Theorems.WorldView.{WorldView}
use Rattle.semantics.specs.Theorems.ModalReduct.{satisfied_by, modal_reduct}
use Rattle.semantics.specs.Theorems.ModalReduct as defined

-- ---- a reduct depends only on which of the literals that appear hold
module _ (n : ℕ) (u v : Subjective → ℕ → Bool) where
  abbrev Agree : EpistemicRule → Type 0
  Agree r = (m : Subjective) (a : ℕ) → a < n → a ∈ r.mask m → u m a ≡ v m a

  acted-same : (r : EpistemicRule) → Agree r → (x : Action) (a : ℕ) → a < n → acted u r x a ≡ acted v r x a
  acted-same r f x a l = some_same _ _ (K ∷ not_k ∷ M ∷ not_m ∷ []) (λ m _. go m (a ∈? r.mask m) refl)
    where
      go : (m : Subjective) (b : Bool) → (a ∈? r.mask m) ≡ b → b && does (same_action (table m (u m a)) x) ≡ b && does (same_action (table m (v m a)) x)
      go m true e = ap (λ c. does (same_action (table m c) x)) (f m a l ((dec_∈ a (r.mask m)).yes e))
      go m false e = refl

  rule-same : (r : EpistemicRule) → Agree r → reduct_rule n u r ≡ reduct_rule n v r
  unfolding reduct_rule
  rule-same r f i = record {
    head = r.objective.head;
    plain = r.objective.plain ∪ set_of-same _ _ n (acted-same r f becomes_a) i;
    nots = r.objective.nots ∪ set_of-same _ _ n (acted-same r f becomes_not_a) i;
    not_nots = r.objective.not_nots ∪ set_of-same _ _ n (acted-same r f becomes_not_not_a) i;
  }

  reduct-same : (rs : List EpistemicRule) → ((r : EpistemicRule) → r among rs → Agree r) → reduct n u rs ≡ reduct n v rs
  unfolding reduct
  reduct-same rs f =
      map_keep_same _ _ (reduct_rule n u) (reduct_rule n v) rs
      (λ r m. (ap not (some_same _ _ (up_to n) (λ a k. acted-same r (f r m) rule-deleted a ((among-up_to n).0 k))), rule-same r (f r m)))

-- ---- a guess with exactly the negations that W satisfies: its reduct is the modal reduct with respect to W
index : {e : Negation} (es : List Negation) → e among es → (j : ℕ) × (j < length es) × (numbered es j ≡ e)
index [] m = absurd (nowhere m)
index (d ∷ es) m =
    ⊎_elim (λ z. (zero, suc-le-suc zero-le, sym z)) (λ n. let (j, l, z) = index es n in (suc j, suc-le-suc l, z)) (first_or_later m)

module _ (n : ℕ) (rs : List EpistemicRule) (g : ℕ) (w : List ℕ) (exact : (j : ℕ) → j < k (setting_of n rs) → (j ∈ g) ↔ Satisfied w (negation (setting_of n rs) j)) where
  dec_in : (e : Negation) → e among negations_of n rs → Decides (Satisfied w e) (assumed (negations_of n rs) g e)
  dec_in e m =
      dec_iff (
        λ q. let (j, l, (h, z)) = q in subst (Satisfied w) z ((exact j l).0 h),
        λ q. let (j, l, z) = index (negations_of n rs) m in (j, l, ((exact j l).1 (subst (Satisfied w) (sym z) q), z)),
      ) (dec_assumed (negations_of n rs) g e)

  agrees : (r : EpistemicRule) → r among rs → Agree n (holds_by (negations_of n rs) g) (satisfied_by w) r
  agrees r m K a l h =
      dec_one
      (dec_iff (λ f i q. ⊎_elim (λ y. y) (λ y. absurd (f (i, q, y))) (decided (dec_∈ a i)), λ f q. q.2 (f q.0 q.1))
      (dec_not (dec_in (not_known a) ((definition_3 rs n).1 (l, (r, m, inl h))))))
      (dec_every _ (λ i. a ∈ i) w (λ i _. dec_∈ a i))
  agrees r m not_k a l h =
      dec_one (dec_in (not_known a) ((definition_3 rs n).1 (l, (r, m, inr h)))) (dec_some _ (λ i. a ∈ i → ⊥) w (λ i _. dec_not (dec_∈ a i)))
  agrees r m M a l h = dec_one (dec_in (may_be a) ((definition_3 rs n).1 (l, (r, m, inl h)))) (dec_some _ (λ i. a ∈ i) w (λ i _. dec_∈ a i))
  agrees r m not_m a l h =
      dec_one
      (dec_iff (λ f i q y. f (i, q, y), λ f q. f q.0 q.1 q.2) (dec_not (dec_in (may_be a) ((definition_3 rs n).1 (l, (r, m, inr h))))))
      (dec_every _ (λ i. a ∈ i → ⊥) w (λ i _. dec_not (dec_∈ a i)))

  reducts-same : reduct n (holds_by (negations_of n rs) g) rs ≡ modal_reduct n rs w
  reducts-same = reduct-same n (holds_by (negations_of n rs) g) (satisfied_by w) rs agrees

-- ---- Definition 4
module _ (n : ℕ) (rs : List EpistemicRule) where
  abbrev s : Setting
  s = defined.s n rs

  -- W is not empty, and is the stable sets of its modal reduct
  abbrev FixedPoint : (w : List ℕ) → Type 0
  FixedPoint = defined.FixedPoint n rs

  -- and no other such W satisfies all its negations and more
  abbrev WorldViewSet : (w : List ℕ) → Type 0
  WorldViewSet = defined.WorldViewSet n rs

  -- a fixed point is the belief sets of the guess that it satisfies, which is reduct-verifiable
  fixed_exact : (w : List ℕ) → FixedPoint w → (j : ℕ) → j < k s → (j ∈ guess_found s w) ↔ Satisfied w (negation s j)
  fixed_exact w f =
      found_exact s w (λ i m. ((among_stable_sets n (modal_reduct n rs w)).0 (subst (λ z. i among z) f.same m)).0) f.non_empty

  fixed_sets : (w : List ℕ) → FixedPoint w → belief_sets s (guess_found s w) ≡ w
  unfolding belief_sets
  fixed_sets w f = ap (stable_sets n) (reducts-same n rs (guess_found s w) w (fixed_exact w f)) ∙ sym f.same

  fixed_verifiable : (w : List ℕ) → FixedPoint w → Verifiable s (guess_found s w)
  fixed_verifiable w f =
      let z = sym (fixed_sets w f) in
      record {
        non_empty = (f.non_empty.0, subst (λ y. f.non_empty.0 among y) z f.non_empty.1);
        exact = λ j l. subst (λ y. (j ∈ guess_found s w) ↔ Satisfied y (negation s j)) z (fixed_exact w f j l);
      }

  verifiable_fixed : (g : ℕ) → Verifiable s g → FixedPoint (belief_sets s g)
  unfolding belief_sets
  verifiable_fixed g v = record {
    non_empty = v.non_empty;
    same = ap (stable_sets n) (reducts-same n rs g (belief_sets s g) v.exact);
  }

  pub definition_4 : (w : List ℕ) → WorldViewSet w ↔ ((g : ℕ) × (g < 2 ^ k s) × WorldView s g × (belief_sets s g ≡ w))
  definition_4 w = (
    λ d. (
      guess_found s w,
      found_below s w,
      record {
        verifiable = fixed_verifiable w d.fixed;
        maximal = λ h l p v. d.maximal (belief_sets s h) (verifiable_fixed h v) (subst (λ y. guess_found s w ⊂ y) (sym (verifiable_found s h l v)) p);
      },
      fixed_sets w d.fixed,
    ),
    λ q. let (g, l, x, z) = q in
        subst WorldViewSet z (record {
          fixed = verifiable_fixed g x.verifiable;
          maximal = λ v f p. x.maximal (guess_found s v) (found_below s v) (subst (λ y. y ⊂ guess_found s v) (verifiable_found s g l x.verifiable) p) (fixed_verifiable v f);
        }),
  )
