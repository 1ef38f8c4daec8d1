-- T and F of a guess's reduct, and whether the guess is contradicted, by the rules of the sheet: which of them are sure and which are deleted
-- or dead, literal by literal. Assumes nothing.
use Rattle.std.specs.Prelude.{ℕ, suc, ◌^◌, ◌<◌, ◌≡◌, refl, Bool, true, false, List, ◌↔◌, ◌⊎◌}
use Rattle.std.proofs.Common.{sym, ◌∙◌, subst}
use Rattle.std.proofs.Math.Logic.{inl, inr, ⊎_elim}
use Rattle.sets.specs.Decides.{Decides, is_true, decided, dec_self, dec_eq, dec_iff, dec_or}
use Rattle.sets.specs.Lists.{◌among◌, get_or-among, among_place}
use Rattle.sets.specs.Sets.{◌∈◌, Meets, ∅, single}
use Rattle.sets.specs.Members.{∈_ext, ∈-single, dec_meets}
use Rattle.semantics.specs.Definitions.Rules.{Rule, EpistemicRule, Subjective, K, not_k, M, not_m}
use Rattle.semantics.specs.Definitions.Guesses.{Negation, not_known, may_be, negations_of, assumed}
use Rattle.semantics.specs.Definitions.Reduct.{table, holds_by, reduct_rule}
use Rattle.semantics.specs.Definitions.Setting.{Setting, setting_of, k, negation}
use Rattle.semantics.specs.Definitions.Propagation.{Pair, steps, contradicted}
use Rattle.semantics.specs.Definitions.Day.{under}
use Rattle.semantics.specs.Theorems.Negations.{Appears, atom_of}
use Rattle.semantics.proofs.Theorems.Negations.{definition_3}
use Rattle.semantics.specs.Theorems.Reduct.{Deleted, rule_reduces, among-reduct, dec_deleted, Left, Throughout, kept_throughout, Broken, Somewhere, deleted_or_somewhere}
use Rattle.semantics.specs.Theorems.Closure.{Sure, Dead, EntersT, EntersF}
use Rattle.semantics.proofs.Theorems.Closure.{step_t, step_f}
use Rattle.semantics.proofs.Theorems.Apart.{sure_head, never_meet}
use Rattle.semantics.specs.Theorems.Contradicted.{ClashIf, Clash, EmptyHead, pair_of, ContradictedBy}
use Rattle.semantics.proofs.Theorems.Contradicted.{clash_if, dec_contradicted_by}
use Rattle.semantics.proofs.Theorems.Day.{contradicted-under}
use Rattle.semantics.specs.Theorems.On.{negation_of, holds_if}
use Rattle.semantics.proofs.Theorems.On.{holds_if_lem, dec_guessed}
use Rattle.semantics.specs.Theorems.Literals.{SureLiteral, DeadLiteral}
use Rattle.semantics.specs.Theorems.Literals as defined

-- ---- one literal with K or M, where H says that the guess assumes its negation
module _ (x : Pair) where
  sure-left : {H : Type 0} (m : Subjective) (b : Bool) → Decides H b → (a : ℕ) → Left (λ a. a ∈ x.T) (λ a. a ∈ x.F) a (table m (holds_if m b)) ↔ SureLiteral H m x a
  sure-left K true d a = ((λ h. absurd h), λ h. h.0 (d.yes refl))
  sure-left K false d a = (λ h. (d.no refl, h), λ h. h.1)
  sure-left not_k true d a = (λ _. inl (d.yes refl), λ _. tt)
  sure-left not_k false d a = (inr, ⊎_elim (λ h. absurd (d.no refl h)) (λ h. h))
  sure-left M true d a = (λ _. inl (d.yes refl), λ _. tt)
  sure-left M false d a = (inr, ⊎_elim (λ h. absurd (d.no refl h)) (λ h. h))
  sure-left not_m true d a = ((λ h. absurd h), λ h. h.0 (d.yes refl))
  sure-left not_m false d a = (λ h. (d.no refl, h), λ h. h.1)

  dead-left : {H : Type 0} (m : Subjective) (b : Bool) → Decides H b → (a : ℕ) → Broken (λ a. a ∈ x.F) (λ a. a ∈ x.T) a (table m (holds_if m b)) ↔ DeadLiteral H m x a
  dead-left K true d a = (λ _. inl (d.yes refl), λ _. tt)
  dead-left K false d a = (inr, ⊎_elim (λ h. absurd (d.no refl h)) (λ h. h))
  dead-left not_k true d a = ((λ h. absurd h), λ h. h.0 (d.yes refl))
  dead-left not_k false d a = (λ h. (d.no refl, h), λ h. h.1)
  dead-left M true d a = ((λ h. absurd h), λ h. h.0 (d.yes refl))
  dead-left M false d a = (λ h. (d.no refl, h), λ h. h.1)
  dead-left not_m true d a = (λ _. inl (d.yes refl), λ _. tt)
  dead-left not_m false d a = (inr, ⊎_elim (λ h. absurd (d.no refl h)) (λ h. h))

  -- ---- rules without K and M
  sure_throughout : (q : Rule) → Sure x q ↔ Throughout (λ a. a ∈ x.T) (λ a. a ∈ x.F) q
  sure_throughout q = (
    λ s. (λ a h. s.0.into h, λ a h. s.2.into h, λ a h. s.1.into h),
    λ f. (record { into = λ {a} h. f.0 a h }, record { into = λ {a} h. f.2 a h }, record { into = λ {a} h. f.1 a h }),
  )

  dead_somewhere : (q : Rule) → Dead x q ↔ Somewhere (λ a. a ∈ x.F) (λ a. a ∈ x.T) q
  dead_somewhere q = (
    ⊎_elim (⊎_elim (λ m. inl (m.common, m.left, m.right)) (λ m. inr (inr (m.common, m.left, m.right)))) (λ m. inr (inl (m.common, m.left, m.right))),
    ⊎_elim (λ w. inl (inl (meet w))) (⊎_elim (λ w. inr (meet w)) (λ w. inl (inr (meet w)))),
  )
    where
      meet : {y z : ℕ} → (a : ℕ) × (a ∈ y) × (a ∈ z) → Meets y z
      meet w = record { common = w.0; left = w.1; right = w.2 }

module _ (n : ℕ) (rs : List EpistemicRule) where
  abbrev s : Setting
  s = setting_of n rs

  -- the negation is in the guess
  abbrev Assumes : (g : ℕ) → Negation → Type 0
  Assumes = defined.Assumes n rs

  -- the guess keeps the rule, and its reduct is sure: masks 1 to 3 and every literal with K or M are
  abbrev SureRule : (g : ℕ) (x : Pair) (r : EpistemicRule) → Type 0
  SureRule = defined.SureRule n rs

  -- the guess deletes the rule, or its reduct is dead: some literal is
  abbrev DeadRule : (g : ℕ) → Pair → EpistemicRule → Type 0
  DeadRule = defined.DeadRule n rs

  -- ---- what is said of T and F by them
  -- a rule with head {a} is sure
  abbrev SureAlone : (g : ℕ) → Pair → (a : ℕ) → Type 0
  SureAlone = defined.SureAlone n rs

  -- every rule with a in its head is deleted or dead
  abbrev AllDead : (g : ℕ) → Pair → (a : ℕ) → Type 0
  AllDead = defined.AllDead n rs

  -- a sure rule has an empty head
  abbrev SureEmpty : (g : ℕ) → Pair → Type 0
  SureEmpty = defined.SureEmpty n rs

  -- an atom clashes under K or "not K", or under M or "not M"
  abbrev ClashingAtom : (g : ℕ) → Pair → Type 0
  ClashingAtom = defined.ClashingAtom n rs

  -- the guess is contradicted under the day's masks
  abbrev RuledOut : (ins outs g : ℕ) → Pair → Type 0
  RuledOut = defined.RuledOut n rs

  -- ---- a rule and its reduct
  -- the literals that hold by the guess
  abbrev holds : (g : ℕ) → Subjective → ℕ → Bool
  holds g = holds_by (negations_of n rs) g

  module _ (g : ℕ) (x : Pair) where
    sure_literal : (m : Subjective) (a : ℕ) → Left (λ a. a ∈ x.T) (λ a. a ∈ x.F) a (table m (holds g m a)) ↔ SureLiteral (Assumes g (negation_of m a)) m x a
    sure_literal m a = rw (holds_if_lem n rs g m a) (sure-left x m (assumed (negations_of n rs) g (negation_of m a)) (dec_self _) a)

    dead_literal : (m : Subjective) (a : ℕ) → Broken (λ a. a ∈ x.F) (λ a. a ∈ x.T) a (table m (holds g m a)) ↔ DeadLiteral (Assumes g (negation_of m a)) m x a
    dead_literal m a = rw (holds_if_lem n rs g m a) (dead-left x m (assumed (negations_of n rs) g (negation_of m a)) (dec_self _) a)

    module _ (r : EpistemicRule) (below : (m : Subjective) → r.mask m < 2 ^ n) where
      abbrev q : Rule
      q = reduct_rule n (holds g) r

      pub sure-rule : ((Deleted n (holds g) r → ⊥) × Sure x q) ↔ SureRule g x r
      sure-rule =
          let w = kept_throughout (λ a. a ∈ x.T) (λ a. a ∈ x.F) n (holds g) r below in (
            λ p.
                let (t, f) = w.0 (p.0, (sure_throughout x q).0 p.1) in
                let o = (sure_throughout x r.objective).1 t in
                record { plain = o.0; not_nots = o.1; nots = o.2; literal = λ m a h. (sure_literal m a).0 (f m a h) },
            λ p.
                let (d, t) = w.1 ((sure_throughout x r.objective).0 (p.plain, p.not_nots, p.nots), λ m a h. (sure_literal m a).1 (p.literal m a h)) in
                (d, (sure_throughout x q).1 t),
          )

      pub dead-rule : (Deleted n (holds g) r ⊎ Dead x q) ↔ DeadRule g x r
      dead-rule =
          let w = deleted_or_somewhere (λ a. a ∈ x.F) (λ a. a ∈ x.T) n (holds g) r below in
          let u = dead_somewhere x q in
          let o = dead_somewhere x r.objective in (
            λ p.
                ⊎_elim (λ t. ⊎_elim inl (λ h. inr (inl h)) (o.1 t)) (λ l. inr (inr (l.0, l.1, l.2, (dead_literal l.0 l.1).0 l.3)))
                (w.0 (⊎_elim inl (λ d. inr (u.0 d)) p)),
            λ p.
                ⊎_elim inl (λ t. inr (u.1 t))
                (w.1 (⊎_elim (λ h. inl (o.0 (inl h))) (⊎_elim (λ h. inl (o.0 (inr h))) (λ l. inr (l.0, l.1, l.2, (dead_literal l.0 l.1).1 l.3))) p)),
          )

  -- ---- clashes
  -- negation j is assumed where j is in the guess
  pub assumes_number : (g j : ℕ) (e : Negation) → j < k s → negation s j ≡ e → (j ∈ g) ↔ Assumes g e
  assumes_number g j e l z = let d = dec_guessed n rs g j e l z in (is_true d, d.yes)

  clash_same : {G H : Type 0} → G ↔ H → (e : Negation) (x : Pair) → ClashIf G e x → ClashIf H e x
  clash_same w (not_known a) x c = ⊎_elim (λ p. inl (w.0 p.0, p.1)) (λ p. inr ((λ h. p.0 (w.1 h)), p.1)) c
  clash_same w (may_be a) x c = ⊎_elim (λ p. inl (w.0 p.0, p.1)) (λ p. inr ((λ h. p.0 (w.1 h)), p.1)) c

  module _ (g : ℕ) (x : Pair) where
    abbrev ClashingNumber : Type 0
    ClashingNumber = (j : ℕ) × (j < k s) × Clash j g (negation s j) x

    pub clashing_atom : ClashingNumber ↔ ClashingAtom g x
    clashing_atom = (
      λ p. let (j, l, c) = p in
          let (b, m) = (definition_3 rs n).0 (get_or-among s.negations (not_known 0) j l) in
          by_atom (negation s j) b m (clash_same (assumes_number g j (negation s j) l refl) (negation s j) x ((clash_if j g (negation s j) x).0 c)),
      λ p. let (a, b, q) = p in ⊎_elim (λ w. by_number (not_known a) b w.0 w.1) (λ w. by_number (may_be a) b w.0 w.1) q,
    )
      where
        by_atom : (e : Negation) → atom_of e < n → Appears rs e → ClashIf (Assumes g e) e x → ClashingAtom g x
        by_atom (not_known a) b m c = (a, b, inl (m, c))
        by_atom (may_be a) b m c = (a, b, inr (m, c))

        by_number : (e : Negation) → atom_of e < n → Appears rs e → ClashIf (Assumes g e) e x → ClashingNumber
        by_number e b m c =
            let (j, l, z) = among_place s.negations (not_known 0) ((definition_3 rs n).1 (b, m)) in
            let w = assumes_number g j e l z in
            (j, l, subst (λ d. Clash j g d x) (sym z) ((clash_if j g e x).1 (clash_same (w.1, w.0) e x c)))

  module _ (below : (r : EpistemicRule) → r among rs → (m : Subjective) → r.mask m < 2 ^ n) (g : ℕ) where
    -- a sure rule of the reduct, and its head
    sure_of : (x : Pair) (head : ℕ)
        → ((q : Rule) × (q among s.program g) × (q.head ≡ head) × Sure x q) ↔ ((r : EpistemicRule) × (r among rs) × (r.objective.head ≡ head) × SureRule g x r)
    sure_of x head = (
      λ e.
          let (q, t, h, u) = e in
          let (r, m, d, z) = (among-reduct n (holds g) rs).0 t in
          (r, m, sym (rule_reduces n (holds g) r).head ∙ subst (λ y. y.head ≡ head) z h, (sure-rule g x r (below r m)).0 (d, subst (Sure x) z u)),
      λ e.
          let (r, m, h, u) = e in
          let (d, t) = (sure-rule g x r (below r m)).1 u in
          (reduct_rule n (holds g) r, (among-reduct n (holds g) rs).1 (r, m, d, refl), (rule_reduces n (holds g) r).head ∙ h, t),
    )

    -- ---- what a step brings into T and F
    -- a sure rule with another head atom would have it in F, and no rule is both sure and dead
    enters_t_lem : (i a : ℕ) → EntersT (s.program g) (steps n (s.program g) i) a ↔ SureAlone g (steps n (s.program g) i) a
    enters_t_lem i a = (
      λ e.
          let (q, t, h, u, out) = e in
          (sure_of x (single a)).0 (
            q,
            t,
            ∈_ext q.head (single a) (λ b. (
              λ y. (∈-single b a).1 (⊎_elim (λ w. w) (λ w. absurd (sure_head n (s.program g) i q t u y (out b y w))) (decided (dec_eq b a))),
              λ y. subst (λ c. c ∈ q.head) (sym ((∈-single b a).0 y)) h,
            )),
            u,
          ),
      λ e.
          let (q, t, h, u) = (sure_of x (single a)).1 e in
          (q, t, subst (λ y. a ∈ y) (sym h) ((∈-single a a).1 refl), u, λ b y w. absurd (w ((∈-single b a).0 (subst (λ c. b ∈ c) h y)))),
    )
      where
        x : Pair
        x = steps n (s.program g) i

    enters_f_lem : (x : Pair) (a : ℕ) → EntersF (s.program g) x a ↔ AllDead g x a
    enters_f_lem x a = (
      λ f r m h.
          (dead-rule g x r (below r m)).0 (⊎_elim inl
          (λ d. inr (f (reduct_rule n (holds g) r) ((among-reduct n (holds g) rs).1 (r, m, d, refl)) (subst (λ y. a ∈ y) (sym (rule_reduces n (holds g) r).head) h)))
          (decided (dec_deleted n (holds g) r))),
      λ f q t h.
          let (r, m, d, z) = (among-reduct n (holds g) rs).0 t in
          let k : a ∈ r.objective.head = subst (λ y. a ∈ y) (rule_reduces n (holds g) r).head (subst (λ y. a ∈ y.head) z h) in
          subst (Dead x) (sym z) (⊎_elim (λ w. absurd (d w)) (λ w. w) ((dead-rule g x r (below r m)).1 (f r m k))),
    )

    pub next_t : (i : ℕ) {a : ℕ} → a ∈ (steps n (s.program g) (suc i)).T ↔ ((a < n) × ((a ∈ (steps n (s.program g) i).T) ⊎ SureAlone g (steps n (s.program g) i) a))
    unfolding steps
    next_t i {a} =
        let w = step_t n (s.program g) (steps n (s.program g) i) in
        let e = enters_t_lem i a in
        (λ h. let (l, p) = w.0 h in (l, ⊎_elim inl (λ q. inr (e.0 q)) p), λ h. w.1 (h.0, ⊎_elim inl (λ q. inr (e.1 q)) h.1))

    pub next_f : (i : ℕ) {a : ℕ} → a ∈ (steps n (s.program g) (suc i)).F ↔ ((a < n) × ((a ∈ (steps n (s.program g) i).F) ⊎ AllDead g (steps n (s.program g) i) a))
    unfolding steps
    next_f i {a} =
        let w = step_f n (s.program g) (steps n (s.program g) i) in
        let e = enters_f_lem (steps n (s.program g) i) a in
        (λ h. let (l, p) = w.0 h in (l, ⊎_elim inl (λ q. inr (e.0 q)) p), λ h. w.1 (h.0, ⊎_elim inl (λ q. inr (e.1 q)) h.1))

    -- ---- contradicted guesses
    pub empty_head_by : (x : Pair) → EmptyHead (s.program g) x ↔ SureEmpty g x
    empty_head_by x =
        let w = sure_of x ∅ in
        (λ e. w.0 (e.0, e.1, e.2.1, e.2.0), λ e. let (q, t, h, u) = w.1 e in (q, t, (u, h)))

    module _ (ins outs : ℕ) where
      pub dec_ruled_out : Decides (RuledOut ins outs g (pair_of s g)) (contradicted (under ins outs s) g)
      dec_ruled_out =
          subst (Decides (RuledOut ins outs g x)) (sym (contradicted-under ins outs s g))
          (dec_iff (to, from) (dec_or (dec_contradicted_by s g) (dec_or (dec_meets ins x.F) (dec_meets outs x.T))))
        where
          x : Pair
          x = pair_of s g

          to : ContradictedBy s g x ⊎ Meets ins x.F ⊎ Meets outs x.T → RuledOut ins outs g x
          to (inl (inl (inl m))) = absurd (never_meet n (s.program g) m)
          to (inl (inl (inr e))) = inl ((empty_head_by x).0 e)
          to (inl (inr c)) = inr (inr (inr ((clashing_atom g x).0 c)))
          to (inr (inl m)) = inr (inl m)
          to (inr (inr m)) = inr (inr (inl m))

          from : RuledOut ins outs g x → ContradictedBy s g x ⊎ Meets ins x.F ⊎ Meets outs x.T
          from (inl e) = inl (inl (inr ((empty_head_by x).1 e)))
          from (inr (inl m)) = inr (inl m)
          from (inr (inr (inl m))) = inr (inr m)
          from (inr (inr (inr c))) = inl (inr ((clashing_atom g x).1 c))
