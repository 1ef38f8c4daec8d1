-- 002: the test `stable` decides whether a set is a model of the reduced program of which no proper subset is a model. Assumes nothing.
use Rattle.std.specs.Prelude.{ℕ, ◌^◌, ◌≤◌, ◌<◌, ◌≡◌, refl, Bool, List, map, ◌↔◌, length}
use Rattle.std.proofs.Common.{sym, subst, arith}
use Rattle.sets.specs.Decides.{Decides, is_true, dec_iff, dec_not, dec_and, dec_imp}
use Rattle.sets.specs.Lists.{◌among◌, keep, among-keep, among-kept, among-map, up_to, among-up_to, length-up_to, dec_every, dec_any}
use Rattle.sets.specs.Pairwise.{Pairwise, pairwise_map, pairwise_keep, up_to_rising}
use Rattle.sets.specs.Counting.{no_longer}
use Rattle.sets.specs.Sets.{◌⊆◌, ◌⊂◌, Meets}
use Rattle.sets.specs.Members.{∈-∅, ∅-⊆, dec_⊆, dec_⊂, dec_meets, ⊂_less}
use Rattle.semantics.specs.Definitions.Rules.{Rule}
use Rattle.semantics.specs.Definitions.Setting.{Setting}
use Rattle.semantics.specs.Definitions.Stable.{negations_hold, satisfies, is_model, positive, reduct_at, smaller_model, stable, stable_sets}
use Rattle.semantics.specs.Definitions.Verdict.{belief_sets}
use Rattle.semantics.specs.Theorems.Stable.{NegationsHold, Satisfies, Model, Stable, ReducedModel}

pub dec_negations : (i : ℕ) (r : Rule) → Decides (NegationsHold i r) (negations_hold i r)
dec_negations i r = dec_and (dec_not (dec_meets r.nots i)) (dec_⊆ r.not_nots i)

pub dec_model : (p : List Rule) (i : ℕ) → Decides (Model p i) (is_model p i)
dec_model p i =
    dec_every (satisfies i) (Satisfies i) p
    (λ r _. dec_imp (dec_and (dec_⊆ r.plain i) (dec_negations i r)) (dec_meets r.head i))

pub dec_smaller : (p : List Rule) (i : ℕ) → Decides ((j : ℕ) × (j ⊂ i) × Model p j) (smaller_model p i)
unfolding smaller_model
dec_smaller p i =
    dec_iff (λ h. (h.0, h.2.0, h.2.1), λ h. (h.0, ⊂_less h.1, (h.1, h.2)))
    (dec_any _ _ i (λ j _. dec_and (dec_⊂ j i) (dec_model p j)))

pub dec_stable : (p : List Rule) (i : ℕ) → Decides (Stable p i) (stable p i)
unfolding stable
dec_stable p i =
    let q = reduct_at i p in
    dec_iff (
      λ h. record { model = h.0; minimal = λ j s m. h.1 (j, s, m) },
      λ st. (st.model, λ h. st.minimal h.0 h.1 h.2),
    ) (dec_and (dec_model q i) (dec_not (dec_smaller q i)))

pub among_stable_sets : (n : ℕ) (p : List Rule) {i : ℕ} → i among stable_sets n p ↔ ((i < 2 ^ n) × Stable p i)
unfolding stable_sets
among_stable_sets n p = among-kept (Stable p) (stable p) (dec_stable p) (2 ^ n)

-- W is the stable sets of the reduct, each once, rising
pub among_belief_sets : (s : Setting) (g : ℕ) {i : ℕ} → i among belief_sets s g ↔ ((i < 2 ^ s.atoms) × Stable (s.program g) i)
unfolding belief_sets
among_belief_sets s g = among_stable_sets s.atoms (s.program g)

pub belief_sets_rising : (s : Setting) (g : ℕ) → Pairwise ◌<◌ (belief_sets s g)
unfolding belief_sets stable_sets
belief_sets_rising s g = pairwise_keep _ _ (up_to (2 ^ s.atoms)) (up_to_rising (2 ^ s.atoms))

-- no more than there are sets of atoms
pub belief_sets_few : (s : Setting) (g : ℕ) → length (belief_sets s g) ≤ 2 ^ s.atoms
belief_sets_few s g =
    let n = 2 ^ s.atoms in
    subst (λ m. length (belief_sets s g) ≤ m) (length-up_to n)
    (no_longer (belief_sets s g) (up_to n) (pairwise_map (belief_sets s g) (λ i j _ _ l e. omega arith) (belief_sets_rising s g))
    (λ i m. (among-up_to n).1 ((among_belief_sets s g).0 m).0))

-- ---- the reduced program's models, by the rules of the program itself
-- the rules of which P holds, without their "not" and "not not" literals
module _ (P : Rule → Type 0) (f : Rule → Bool) (d : (r : Rule) → Decides (P r) (f r)) (p : List Rule) where
  pub among-positive : {q : Rule} → q among map positive (keep f p) ↔ ((r : Rule) × (r among p) × P r × (q ≡ positive r))
  among-positive = (
    λ m.
        let (r, k, e) = (among-map positive (keep f p)).0 m in
        let (l, t) = (among-keep f p).0 k in
        (r, l, (d r).yes t, e),
    λ (r, l, h, e). (among-map positive (keep f p)).1 (r, (among-keep f p).1 (l, is_true (d r) h), e),
  )

  pub positive_model : (j : ℕ) → Model (map positive (keep f p)) j ↔ ((r : Rule) → r among p → P r → r.plain ⊆ j → Meets r.head j)
  positive_model j = (
    λ m r k q b. m (positive r) (among-positive.1 (r, k, q, refl)) (b, ((λ x. ∈-∅ x.left), ∅-⊆)),
    λ m q k. let (r, l, h, e) = among-positive.0 k in subst (Satisfies j) (sym e) (λ b. m r l h b.0),
  )

pub reduced_model : (p : List Rule) (i j : ℕ) → Model (reduct_at i p) j ↔ ReducedModel p i j
unfolding reduct_at
reduced_model p i j = positive_model (NegationsHold i) (negations_hold i) (dec_negations i) p j
