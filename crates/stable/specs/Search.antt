-- A set is stable where it is a model of the program and the search finds no smaller model. Assumes nothing.
use Rattle.std.specs.Prelude.{ℕ, ◌≡◌, not, ◌&&◌, ◌||◌, List, ◌↔◌}
use Rattle.sets.specs.Decides.{Decides, dec_one, dec_iff, dec_not, dec_and, dec_imp}
use Rattle.sets.specs.Lists.{◌among◌}
use Rattle.sets.specs.Sets.{◌⊆◌, Meets, ◌⊆?◌, ◌meets?◌, ◌∪◌, ∅}
use Rattle.sets.specs.Members.{∈-∅, ∅-⊆, ⊆_trans, dec_⊆, dec_meets, ∪-⊆}
use Rattle.semantics.specs.Definitions.Rules.{Rule}
use Rattle.semantics.specs.Definitions.Stable.{satisfies, is_model, reduct_at, smaller_model, stable}
use Rattle.semantics.specs.Theorems.Stable.{NegationsHold, Model, ReducedModel}
use Rattle.semantics.proofs.Theorems.Stable.{dec_negations, dec_model, dec_smaller, dec_stable, positive_model, reduced_model}
use Rattle.stable.specs.Applied.{applies, applied}

-- all body literals of the rule hold in i
abbrev pub Applies : ℕ → Rule → Type 0
Applies i r = (r.plain ⊆ i) × NegationsHold i r

pub dec_applies : (i : ℕ) (r : Rule) → Decides (Applies i r) (applies i r)
dec_applies i r = dec_and (dec_⊆ r.plain i) (dec_negations i r)

-- they do where i has every plain and "not not" atom, and no "not" atom
pub applies_by : (i : ℕ) (r : Rule) → (r.plain ∪ r.not_nots) ⊆? i && not (r.nots meets? i) ≡ applies i r
applies_by i r =
    let u = ∪-⊆ r.plain r.not_nots i in
    dec_one (dec_and (dec_⊆ (r.plain ∪ r.not_nots) i) (dec_not (dec_meets r.nots i)))
    (dec_iff (λ h. (u.1 (h.0, h.1.1), h.1.0), λ h. ((u.0 h.0).0, (h.1, (u.0 h.0).1))) (dec_applies i r))

-- a rule of a head and plain atoms is satisfied where the head meets the set or the plain atoms are not within it
pub positive-satisfies : (i head plain : ℕ)
    → satisfies i (record { head = head; plain = plain; nots = ∅; not_nots = ∅ }) ≡ not (plain ⊆? i) || head meets? i
positive-satisfies i head plain =
    dec_one (dec_imp (dec_applies i (record { head = head; plain = plain; nots = ∅; not_nots = ∅ })) (dec_meets head i))
    (dec_iff (λ f b. f b.0, λ f b. f (b, ((λ x. ∈-∅ x.left), ∅-⊆))) (dec_imp (dec_⊆ plain i) (dec_meets head i)))

pub applied_model : (p : List Rule) (i j : ℕ) → Model (applied i p) j ↔ ((r : Rule) → r among p → Applies i r → r.plain ⊆ j → Meets r.head j)
unfolding applied
applied_model p i j = positive_model (Applies i) (applies i) (dec_applies i) p j

-- within i, a rule whose plain atoms are not all in i asks nothing
applied_reduced : (p : List Rule) {i j : ℕ} → j ⊆ i → Model (applied i p) j ↔ ReducedModel p i j
applied_reduced p {i} {j} s =
    let a = applied_model p i j in
    (λ m r k n b. a.0 m r k (⊆_trans b s, n) b, λ m. a.1 (λ r k n. m r k n.1))

-- i is a model of the program where it is one of the reduced program
pub reduct_model : (p : List Rule) (i : ℕ) → Model (reduct_at i p) i ↔ Model p i
reduct_model p i = (λ m r k b. (reduced_model p i i).0 m r k b.1 b.0, λ m. (reduced_model p i i).1 (λ r k n b. m r k (b, n)))

pub stable_by_search : (p : List Rule) (i : ℕ) → stable p i ≡ is_model p i && not (smaller_model (applied i p) i)
stable_by_search p i =
    dec_one (dec_stable p i)
    (dec_iff (
      λ h. record {
        model = (reduct_model p i).1 h.0;
        minimal = λ j s m. h.1 (j, s, (applied_reduced p s.within).1 ((reduced_model p i j).0 m));
      },
      λ st. (
        (reduct_model p i).0 st.model,
        λ h. st.minimal h.0 h.1 ((reduced_model p i h.0).1 ((applied_reduced p h.1.within).0 h.2)),
      ),
    ) (dec_and (dec_model p i) (dec_not (dec_smaller (applied i p) i))))
