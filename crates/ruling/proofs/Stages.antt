-- T and F of one lane, pass after pass, are the stages of its guess. Assumes nothing.
use Prim.Native.Nat.{ℕ, suc, ◌^◌, ◌<◌}
use mathlib.Core.Path.{◌≡◌, refl, sym, subst, ◌∙◌}
use mathlib.Core.List.{List}
use mathlib.Core.Logic.{◌↔◌, inl, inr, ⊎_elim}
use native.Mathlib.Omega.{arith}
use lib.ListN.{get_or}
use Rattle.sets.specs.Lists.{◌among◌}
use Rattle.sets.specs.Sets.{◌∈◌, single}
use Rattle.sets.specs.Members.{∈-∅, ∈_below, ∈_ext, ∈-single}
use Rattle.semantics.specs.Definitions.Rules.{Rule, EpistemicRule}
use Rattle.semantics.specs.Definitions.Propagation.{Pair, steps, propagated}
use Rattle.semantics.specs.Definitions.Sheet.{rule_of_masks}
use Rattle.semantics.specs.Words.{masks_in}
use Rattle.semantics.proofs.Theorems.Closure.{stage_below, stage_fixed}
use Rattle.semantics.specs.Theorems.Literals.{SureRule, DeadRule, AllDead}
use Rattle.semantics.proofs.Theorems.Literals.{next_t, next_f}
use Rattle.guess.specs.declared.outline.Outline.{Outline}
use Rattle.guess.specs.Programs.{unmasked_in, Outlines}
use Rattle.guess.specs.Numbered.{rules_of, rule_there, rule_number, masks_below}
use Rattle.ruling.specs.Literals.{head_in, SureIn}
use Rattle.ruling.specs.declared.literals.Rows.{Rows}
use Rattle.ruling.specs.Pass.{FalseBy}
use Rattle.ruling.specs.Reached.{Advanced, Reached, start, more, Settled, all, early}
use Rattle.ruling.proofs.Sides.{Assumed, At, Sides, sides, head_is, mask_below, sure_side, dead_side}

module _ {x : Outline} {words : List ℕ} (o : Outlines x words) (g b : ℕ) where
  abbrev program : List Rule
  program = (unmasked_in x words).program g

  abbrev stage : ℕ → Pair
  stage i = steps x.atoms program i

  -- the rules that are sure, by their heads
  module _ {y : Pair} {truths falsities : Rows} (s : Sides x words g b y truths falsities) where
    pub sure-rules : (head : ℕ) → ((j : ℕ) × (j < x.rules) × (head_in words j ≡ head) × SureIn words j truths falsities b)
        ↔ ((r : EpistemicRule) × (r among rules_of x words) × (r.objective.head ≡ head) × SureRule x.atoms (rules_of x words) g y r)
    sure-rules head = (
      λ p. (rule_of_masks (masks_in words p.0), rule_there x words p.1, head_is o p.1 ∙ p.2, (sure_side o p.1 s).0 p.3),
      λ p. let (j, h, e) = rule_number x words p.1 in
          (j, h, sym (head_is o h) ∙ subst (λ r. r.objective.head ≡ head) e p.2, (sure_side o h s).1 (subst (SureRule x.atoms (rules_of x words) g y) e p.3)),
    )

    -- and those that are dead
    dead-rules : (a : ℕ) → FalseBy words truths falsities x.rules a b ↔ AllDead x.atoms (rules_of x words) g y a
    dead-rules a = (
      λ p r m h. let (j, l, e) = rule_number x words m in
          subst (DeadRule x.atoms (rules_of x words) g y) (sym e) ((dead_side o l s).0 (p j l (subst (λ z. a ∈ z) (head_is o l) (subst (λ z. a ∈ z.objective.head) e h)))),
      λ p j l h. (dead_side o l s).1 (p (rule_of_masks (masks_in words j)) (rule_there x words l) (subst (λ z. a ∈ z) (sym (head_is o l)) h)),
    )

  -- a head atom is an atom of the sheet
  single_below : {a j : ℕ} → j < x.rules → head_in words j ≡ single a → a < x.atoms
  single_below {a} {j} l e = ∈_below (mask_below o l 0) (subst (λ z. a ∈ z) (sym (head_is o l ∙ e)) ((∈-single a a).1 refl))

  module _ {u p : List ℕ} (h : Assumed x words g b u p) where
    -- one pass is one step
    one-step : (i : ℕ) {t f t' f' : List ℕ} → b < 64 → At x words g b (stage i) t f → Advanced words x.rules x.atoms u p t f t' f' → At x words g b (stage (suc i)) t' f'
    one-step i k s v = record {
      in_t = λ {a} l.
          let w = (v.next.trues l).lane k in
          let n = next_t x.atoms (rules_of x words) (masks_below o) g i {a = a} in (
            λ m. n.1 (⊎_elim (λ q. let z = (s.in_t l).0 q in (∈_below (stage_below x.atoms program i).0 z, inl z))
                (λ q. (single_below q.1 q.2, inr ((sure-rules d (single a)).0 q))) (w.0 m)),
            λ m. w.1 (⊎_elim (λ q. inl ((s.in_t l).1 q)) (λ q. inr ((sure-rules d (single a)).1 q)) (n.0 m).1),
          );
      in_f = λ {a} l.
          let w = (v.next.falses l).lane k in
          let n = next_f x.atoms (rules_of x words) (masks_below o) g i {a = a} in (
            λ m. n.1 (⊎_elim (λ q. let z = (s.in_f l).0 q in (∈_below (stage_below x.atoms program i).1 z, inl z))
                (λ q. (q.0, inr ((dead-rules d a).0 q.1))) (w.0 m)),
            λ m. let (below, c) = n.0 m in w.1 (⊎_elim (λ q. inl ((s.in_f l).1 q)) (λ q. inr (below, (dead-rules d a).1 q)) c),
          );
    }
      where
        d : Sides x words g b (stage i) v.truths v.falsities
        d = sides x words g b o.few_atoms h s v.laid_t v.laid_f

    pub at_stage : {i : ℕ} {t f : List ℕ} → b < 64 → Reached words x.rules x.atoms u p i t f → At x words g b (stage i) t f
    unfolding steps
    at_stage k (start v w) = record {
      in_t = λ {a} l. (λ m. absurd (∈-∅ (subst (λ z. b ∈ z) (v.word l) m)), λ m. absurd (∈-∅ m));
      in_f = λ {a} l. (λ m. absurd (∈-∅ (subst (λ z. b ∈ z) (w.word l) m)), λ m. absurd (∈-∅ m));
    }
    at_stage k (more {i} r v) = one-step i k (at_stage k r) v

    -- where a pass adds nothing, a step does not either
    at_same : {y z : Pair} {t f : List ℕ} → y.T < 2 ^ x.atoms → y.F < 2 ^ x.atoms → z.T < 2 ^ x.atoms → z.F < 2 ^ x.atoms
        → At x words g b y t f → At x words g b z t f → (z.T ≡ y.T) × (z.F ≡ y.F)
    at_same {y} {z} c d e k v w = (
      ∈_ext z.T y.T (λ a. (
        λ m. let l = up (∈_below e m) in (v.in_t l).0 ((w.in_t l).1 m),
        λ m. let l = up (∈_below c m) in (w.in_t l).0 ((v.in_t l).1 m),
      )),
      ∈_ext z.F y.F (λ a. (
        λ m. let l = up (∈_below k m) in (v.in_f l).0 ((w.in_f l).1 m),
        λ m. let l = up (∈_below d m) in (w.in_f l).0 ((v.in_f l).1 m),
      )),
    )
      where
        up : {a : ℕ} → a < x.atoms → a < 16
        up l = omega (arith, o.few_atoms)

    pub at_last : {t f : List ℕ} → b < 64 → Settled words x.rules x.atoms u p t f → At x words g b (propagated x.atoms program) t f
    at_last k (all r) = at_stage k r
    at_last {t} {f} k (early {i} r r') =
        let (c, d) = stage_below x.atoms program i in
        let (e, j) = stage_below x.atoms program (suc i) in
        let v = at_stage k r in
        let w = at_stage k r' in
        let (m, l) = at_same c d e j v w in
        let n : stage i ≡ propagated x.atoms program = stage_fixed x.atoms program i m l in
        subst (λ z. At x words g b z t f) n (record {
          in_t = λ {a} y. subst (λ z. b ∈ get_or t a 0 ↔ a ∈ z) m (w.in_t y);
          in_f = λ {a} y. subst (λ z. b ∈ get_or f a 0 ↔ a ∈ z) l (w.in_f y);
        })
