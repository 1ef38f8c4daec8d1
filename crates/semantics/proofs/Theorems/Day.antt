-- Document 02, K3: the masks are the constraints. Assumes nothing.
use Rattle.std.specs.Prelude.{ℕ, ◌≡◌, refl, ◌&&◌, ◌||◌, List, [], ◌++◌, map, ◌↔◌, ◌⊎◌}
use Rattle.std.proofs.Common.{sym, subst, ◌∙◌}
use Rattle.std.proofs.Math.Path.{ap}
use Rattle.std.proofs.Math.Logic.{inl, inr, ⊎_elim}
use Rattle.sets.specs.Decides.{Decides, is_true, decided, dec_one, dec_iff, dec_and, dec_not, dec_or}
use Rattle.sets.specs.Lists.{◌among◌, keep, up_to, among-append, among-map, among-keep, dec_some}
use Rattle.sets.specs.Sets.{◌∈◌, ◌⊆◌, Meets, ◌meets?◌, ∅, single, members_of}
use Rattle.sets.specs.Members.{∈-∅, ∅-⊆, ∈-single, dec_∈, dec_⊆, dec_meets}
use Rattle.sets.specs.Size.{among-members_of}
use Rattle.semantics.specs.Definitions.Rules.{Rule}
use Rattle.semantics.specs.Definitions.Setting.{Setting}
use Rattle.semantics.specs.Definitions.Stable.{is_model, stable}
use Rattle.semantics.specs.Definitions.Verdict.{belief_sets, guess_found, verdict_by, verdict}
use Rattle.semantics.specs.Definitions.Propagation.{Pair, contradicted}
use Rattle.semantics.specs.Definitions.Day.{must_have, must_lack, day_constraints, under, allowed, stable_under}
use Rattle.semantics.specs.Theorems.Stable.{Model, Stable}
use Rattle.semantics.proofs.Theorems.Stable.{dec_model}
use Rattle.semantics.specs.Theorems.Closure.{Sure}
use Rattle.semantics.proofs.Theorems.Closure.{dec_sure}
use Rattle.semantics.specs.Theorems.Contradicted.{pair_of}
use Rattle.semantics.specs.Theorems.Constraints.{Constraints, SureConstraint}
use Rattle.semantics.proofs.Theorems.Constraints.{add_none, stable-added, stable-add, belief_add, contradicted-add}
use Rattle.semantics.specs.Theorems.Day as defined

-- "with both masks zero they give today's answers": nothing is added
pub no_constraints : day_constraints ∅ ∅ ≡ []
unfolding day_constraints members_of up_to keep
no_constraints = refl

pub under_nothing : (s : Setting) → under ∅ ∅ s ≡ s
under_nothing s = rw no_constraints (add_none s)

module _ (ins outs : ℕ) where
  abbrev constraints : List Rule
  constraints = day_constraints ins outs

  -- one constraint for each in-atom and for each out-atom, and no other
  pub among_day : {r : Rule} → r among constraints ↔ (((a : ℕ) × (a ∈ ins) × (r ≡ must_have a)) ⊎ ((a : ℕ) × (a ∈ outs) × (r ≡ must_lack a)))
  unfolding day_constraints
  among_day {r} = (
    λ m. ⊎_elim (λ k. let (a, l, e) = (among-map must_have (members_of ins)).0 k in inl (a, (among-members_of ins).0 l, e))
        (λ k. let (a, l, e) = (among-map must_lack (members_of outs)).0 k in inr (a, (among-members_of outs).0 l, e)) ((among-append (map must_have (members_of ins))).0 m),
    λ q. (among-append (map must_have (members_of ins))).1 (⊎_elim
        (λ (a, l, e). inl ((among-map must_have (members_of ins)).1 (a, (among-members_of ins).1 l, e)))
        (λ (a, l, e). inr ((among-map must_lack (members_of outs)).1 (a, (among-members_of outs).1 l, e))) q),
  )

  pub day_empty : Constraints constraints
  day_empty r m = ⊎_elim (λ q. ap (λ z. z.head) q.2) (λ q. ap (λ z. z.head) q.2) (among_day.0 m)

  -- what holds of each constraint
  each : {P : Rule → Type 0} → ((r : Rule) → r among constraints → P r) ↔ (((a : ℕ) → a ∈ ins → P (must_have a)) × ((a : ℕ) → a ∈ outs → P (must_lack a)))
  each {P} = (
    λ f. (λ a l. f (must_have a) (among_day.1 (inl (a, l, refl))), λ a l. f (must_lack a) (among_day.1 (inr (a, l, refl)))),
    λ q r m. ⊎_elim (λ (a, l, e). subst P (sym e) (q.0 a l)) (λ (a, l, e). subst P (sym e) (q.1 a l)) (among_day.0 m),
  )

  -- ---- a set: it has every in-atom and no out-atom
  abbrev Allowed : ℕ → Type 0
  Allowed = defined.Allowed ins outs

  pub dec_allowed : (i : ℕ) → Decides (Allowed i) (allowed ins outs i)
  dec_allowed i = dec_and (dec_⊆ ins i) (dec_not (dec_meets outs i))

  single_in : {a i : ℕ} → single a ⊆ i → a ∈ i
  single_in {a} s = s.into ((∈-single a a).1 refl)

  in_single : {a i : ℕ} → a ∈ i → single a ⊆ i
  in_single {a} {i} m = record { into = λ {a = b} q. subst (λ z. z ∈ i) (sym ((∈-single b a).0 q)) m }

  pub day_model : (i : ℕ) → Model constraints i ↔ Allowed i
  day_model i = (
    λ m. let (f, h) = each.0 m in (
      record { into = λ {a} l. ⊎_elim (λ k. k) (λ n. absurd (∈-∅ (f a l (∅-⊆, ((λ q. n (subst (λ z. z ∈ i) ((∈-single q.common a).0 q.left) q.right)), ∅-⊆))).left)) (decided (dec_∈ a i)) },
      λ q. ∈-∅ (h q.common q.left (in_single q.right, ((λ z. ∈-∅ z.left), ∅-⊆))).left,
    ),
    λ q. each.1 (
      λ a l b. absurd (b.1.0 (record { common = a; left = (∈-single a a).1 refl; right = q.0.into l })),
      λ a l b. absurd (q.1 (record { common = a; left = l; right = single_in b.0 })),
    ),
  )

  day_allowed : (i : ℕ) → is_model constraints i ≡ allowed ins outs i
  day_allowed i = dec_one (dec_model constraints i) (dec_iff ((day_model i).1, (day_model i).0) (dec_allowed i))

  -- "a set passes only if it has every "in" atom, no "out" atom, and is stable as before"
  pub stable-under : (p : List Rule) (i : ℕ) → stable (p ++ constraints) i ≡ stable_under ins outs p i
  stable-under p i = stable-add constraints day_empty p i ∙ ap (λ b. b && stable p i) (day_allowed i)

  pub stable_exactly : (p : List Rule) (i : ℕ) → Stable (p ++ constraints) i ↔ (Stable p i × Allowed i)
  stable_exactly p i = (
    λ st. let (s, m) = (stable-added constraints day_empty p i).0 st in (s, (day_model i).0 m),
    λ q. (stable-added constraints day_empty p i).1 (q.0, (day_model i).1 q.1),
  )

  -- ---- ruling out: "← not a" is sure when a is in F, "← a" when a is in T
  pub day_sure : (x : Pair) → SureConstraint constraints x ↔ (Meets ins x.F ⊎ Meets outs x.T)
  day_sure x = (
    λ (r, m, h). ⊎_elim
        (λ (a, l, e). inl (record { common = a; left = l; right = single_in (subst (Sure x) e h).2 }))
        (λ (a, l, e). inr (record { common = a; left = l; right = single_in (subst (Sure x) e h).0 })) (among_day.0 m),
    ⊎_elim
        (λ q. (must_have q.common, among_day.1 (inl (q.common, q.left, refl)), (∅-⊆, ∅-⊆, in_single q.right)))
        (λ q. (must_lack q.common, among_day.1 (inr (q.common, q.left, refl)), (in_single q.right, ∅-⊆, ∅-⊆))),
  )

  pub dec_day_sure : (x : Pair) → Decides (SureConstraint constraints x) (ins meets? x.F || outs meets? x.T)
  dec_day_sure x = dec_iff ((day_sure x).1, (day_sure x).0) (dec_or (dec_meets ins x.F) (dec_meets outs x.T))

  module _ (s : Setting) (g : ℕ) where
    -- so a guess is contradicted where it was, or an in-atom is in F, or an out-atom in T
    pub contradicted-under : contradicted (under ins outs s) g ≡ contradicted s g || (ins meets? (pair_of s g).F || outs meets? (pair_of s g).T)
    contradicted-under =
        contradicted-add constraints day_empty s g
        ∙ ap (λ b. contradicted s g || b) (dec_one (dec_some _ _ constraints (λ r _. dec_sure (pair_of s g) r)) (dec_day_sure (pair_of s g)))

    -- ---- belief sets and verdict
    -- those of the belief sets that have every in-atom and no out-atom
    abbrev sets_under : List ℕ
    sets_under = defined.sets_under ins outs s g

    pub belief_under : belief_sets (under ins outs s) g ≡ sets_under
    belief_under = belief_add constraints day_empty s g ∙ λ j. keep (λ i. day_allowed i j) (belief_sets s g)

    pub among-under : {i : ℕ} → i among belief_sets (under ins outs s) g ↔ ((i among belief_sets s g) × Allowed i)
    among-under {i} = rw belief_under (
      λ m. let (k, t) = (among-keep (allowed ins outs) (belief_sets s g)).0 m in (k, (dec_allowed i).yes t),
      λ q. (among-keep (allowed ins outs) (belief_sets s g)).1 (q.0, is_true (dec_allowed i) q.1),
    )

    -- the verdict is by these
    pub verdict-under : verdict (under ins outs s) g ≡ verdict_by s sets_under g
    unfolding verdict guess_found
    verdict-under = ap (λ w. verdict_by s w g) belief_under
