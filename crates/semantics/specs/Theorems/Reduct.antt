-- 000, Definitions 2 and 5: the reduct, literal by literal. Assumes nothing.
use Rattle.std.specs.Prelude.{ℕ, ◌^◌, ◌<◌, ◌≡◌, refl, List, [], ◌∷◌, ◌↔◌, ◌⊎◌}
use Rattle.std.proofs.Common.{sym, subst, inl, inr, ⊎_elim}
use Rattle.std.proofs.Math.Bool.{Bool, not}
use Rattle.sets.specs.Decides.{Decides, is_true, dec_iff, dec_not, dec_and, dec_does}
use Rattle.sets.specs.Lists.{◌among◌, here, later, keep, among-keep, among-map, dec_some, dec_any}
use Rattle.sets.specs.Sets.{◌∈◌, ◌∪◌, set_of}
use Rattle.sets.specs.Members.{dec_∈, ∈_below, ∈-∪, ∈_set_of_dec}
use Rattle.semantics.specs.Definitions.Rules.{Rule, EpistemicRule, Subjective, K, not_k, M, not_m}
use Rattle.semantics.specs.Definitions.Reduct.{Action, becomes_a, becomes_not_a, becomes_not_not_a, removed, rule-deleted, same_action, table, acted, deleted, reduct_rule, reduct}

every_kind : (m : Subjective) → m among (K ∷ not_k ∷ M ∷ not_m ∷ [])
every_kind K = here
every_kind not_k = later here
every_kind M = later (later here)
every_kind not_m = later (later (later here))

-- the rule has a literal of a to which the table does x
abbrev pub Acted : (holds : Subjective → ℕ → Bool) → EpistemicRule → Action → ℕ → Type 0
Acted holds r x a = (m : Subjective) × (a ∈ r.mask m) × (table m (holds m a) ≡ x)

module _ (n : ℕ) (holds : Subjective → ℕ → Bool) where
  dec_acted : (r : EpistemicRule) (x : Action) (a : ℕ) → Decides (Acted holds r x a) (acted holds r x a)
  dec_acted r x a =
      dec_iff (λ q. (q.0, q.2.0, q.2.1), λ q. (q.0, every_kind q.0, (q.1, q.2)))
      (dec_some _ _ (K ∷ not_k ∷ M ∷ not_m ∷ []) (λ m _. dec_and (dec_∈ a (r.mask m)) (dec_does (same_action (table m (holds m a)) x))))

  abbrev pub Deleted : EpistemicRule → Type 0
  Deleted r = (a : ℕ) × (a < n) × Acted holds r rule-deleted a

  pub dec_deleted : (r : EpistemicRule) → Decides (Deleted r) (deleted n holds r)
  dec_deleted r = dec_any _ _ n (λ a _. dec_acted r rule-deleted a)

  -- what an objective mask has in the reduct: its own atoms, and those that the table brings there
  abbrev pub Brought : EpistemicRule → Action → (own a : ℕ) → Type 0
  Brought r x own a = (a ∈ own) ⊎ ((a < n) × Acted holds r x a)

  brought : (r : EpistemicRule) (x : Action) (own a : ℕ) → a ∈ own ∪ set_of (acted holds r x) n ↔ Brought r x own a
  brought r x own a =
      let t = ∈_set_of_dec (Acted holds r x) (acted holds r x) (dec_acted r x) n in
      (λ m. ⊎_elim inl (λ q. inr (t.0 q)) ((∈-∪ a own _).0 m), λ p. (∈-∪ a own _).1 (⊎_elim inl (λ q. inr (t.1 q)) p))

  -- q is what the table makes of the rule r
  pub record Reduces (r : EpistemicRule) (q : Rule) : Type 0 where
    pub head : q.head ≡ r.objective.head
    pub plain : (a : ℕ) → a ∈ q.plain ↔ Brought r becomes_a r.objective.plain a
    pub nots : (a : ℕ) → a ∈ q.nots ↔ Brought r becomes_not_a r.objective.nots a
    pub not_nots : (a : ℕ) → a ∈ q.not_nots ↔ Brought r becomes_not_not_a r.objective.not_nots a

  pub rule_reduces : (r : EpistemicRule) → Reduces r (reduct_rule n holds r)
  unfolding reduct_rule
  rule_reduces r = record {
    head = refl;
    plain = brought r becomes_a r.objective.plain;
    nots = brought r becomes_not_a r.objective.nots;
    not_nots = brought r becomes_not_not_a r.objective.not_nots;
  }

  -- the rules that are not deleted, each as that
  pub among-reduct : (rs : List EpistemicRule) {q : Rule} → q among reduct n holds rs ↔ ((r : EpistemicRule) × (r among rs) × (Deleted r → ⊥) × (q ≡ reduct_rule n holds r))
  unfolding reduct
  among-reduct rs =
      let kept : EpistemicRule → Bool = λ r. not (deleted n holds r) in (
        λ m. let (r, x, e) = (among-map (reduct_rule n holds) (keep kept rs)).0 m in
            let (h, d) = (among-keep kept rs).0 x in (r, h, (dec_not (dec_deleted r)).yes d, e),
        λ p. let (r, h, d, e) = p in
            (among-map (reduct_rule n holds) (keep kept rs)).1 (r, (among-keep kept rs).1 (h, is_true (dec_not (dec_deleted r)) d), e),
      )

-- ---- literal by literal: what has P where it stands plain or under "not not", and N where it stands under "not"
module _ (P N : ℕ → Type 0) where
  -- the rule is not deleted, and what the table leaves of a literal of a has that
  abbrev pub Left : (a : ℕ) → Action → Type 0
  Left a becomes_a = P a
  Left a becomes_not_a = N a
  Left a becomes_not_not_a = P a
  Left a removed = Unit {0}
  Left a rule-deleted = ⊥

  -- every literal of a rule without K and M has it
  abbrev pub Throughout : Rule → Type 0
  Throughout q = ((a : ℕ) → a ∈ q.plain → P a) × ((a : ℕ) → a ∈ q.nots → N a) × ((a : ℕ) → a ∈ q.not_nots → P a)

  module _ (n : ℕ) (holds : Subjective → ℕ → Bool) (r : EpistemicRule) (below : (m : Subjective) → r.mask m < 2 ^ n) where
    pub kept_throughout : ((Deleted n holds r → ⊥) × Throughout (reduct_rule n holds r))
        ↔ (Throughout r.objective × ((m : Subjective) (a : ℕ) → a ∈ r.mask m → Left a (table m (holds m a))))
    kept_throughout = (
      λ p. let (d, (x, y, z)) = p in (
        (λ a h. x a ((q.plain a).1 (inl h)), λ a h. y a ((q.nots a).1 (inl h)), λ a h. z a ((q.not_nots a).1 (inl h))),
        λ m a h. left d x y z m a h (table m (holds m a)) refl,
      ),
      λ p. let ((x, y, z), f) = p in (
        (λ d. let (a, _, (m, h, e)) = d in subst (Left a) e (f m a h)),
        (
          λ a t. ⊎_elim (x a) (λ w. subst (Left a) w.1.2 (f w.1.0 a w.1.1)) ((q.plain a).0 t),
          λ a t. ⊎_elim (y a) (λ w. subst (Left a) w.1.2 (f w.1.0 a w.1.1)) ((q.nots a).0 t),
          λ a t. ⊎_elim (z a) (λ w. subst (Left a) w.1.2 (f w.1.0 a w.1.1)) ((q.not_nots a).0 t),
        ),
      ),
    )
      where
        q : Reduces n holds r (reduct_rule n holds r)
        q = rule_reduces n holds r

        left : (Deleted n holds r → ⊥) → ((a : ℕ) → a ∈ (reduct_rule n holds r).plain → P a) → ((a : ℕ) → a ∈ (reduct_rule n holds r).nots → N a)
            → ((a : ℕ) → a ∈ (reduct_rule n holds r).not_nots → P a) → (m : Subjective) (a : ℕ) → a ∈ r.mask m → (x : Action) → table m (holds m a) ≡ x → Left a x
        left d x y z m a h becomes_a e = x a ((q.plain a).1 (inr (∈_below (below m) h, (m, h, e))))
        left d x y z m a h becomes_not_a e = y a ((q.nots a).1 (inr (∈_below (below m) h, (m, h, e))))
        left d x y z m a h becomes_not_not_a e = z a ((q.not_nots a).1 (inr (∈_below (below m) h, (m, h, e))))
        left d x y z m a h removed e = tt
        left d x y z m a h rule-deleted e = absurd (d (a, ∈_below (below m) h, (m, h, e)))

  -- the rule is deleted, or what the table leaves of a literal of a has it
  abbrev pub Broken : (a : ℕ) → Action → Type 0
  Broken a becomes_a = P a
  Broken a becomes_not_a = N a
  Broken a becomes_not_not_a = P a
  Broken a removed = ⊥
  Broken a rule-deleted = Unit {0}

  -- some literal of a rule without K and M has it
  abbrev pub Somewhere : Rule → Type 0
  Somewhere q = ((a : ℕ) × (a ∈ q.plain) × P a) ⊎ ((a : ℕ) × (a ∈ q.nots) × N a) ⊎ ((a : ℕ) × (a ∈ q.not_nots) × P a)

  module _ (n : ℕ) (holds : Subjective → ℕ → Bool) (r : EpistemicRule) (below : (m : Subjective) → r.mask m < 2 ^ n) where
    pub deleted_or_somewhere : (Deleted n holds r ⊎ Somewhere (reduct_rule n holds r))
        ↔ (Somewhere r.objective ⊎ ((m : Subjective) × (a : ℕ) × (a ∈ r.mask m) × Broken a (table m (holds m a))))
    deleted_or_somewhere = (from, to)
      where
        q : Reduces n holds r (reduct_rule n holds r)
        q = rule_reduces n holds r

        Literal : Type 0
        Literal = (m : Subjective) × (a : ℕ) × (a ∈ r.mask m) × Broken a (table m (holds m a))

        back : (a : ℕ) (x : Action) → Broken a x → Acted holds r x a → Literal
        back a x b w = (w.0, a, w.1, subst (Broken a) (sym w.2) b)

        from : Deleted n holds r ⊎ Somewhere (reduct_rule n holds r) → Somewhere r.objective ⊎ Literal
        from (inl (a, _, w)) = inr (back a rule-deleted tt w)
        from (inr (inl (a, t, p))) = ⊎_elim (λ h. inl (inl (a, h, p))) (λ w. inr (back a becomes_a p w.1)) ((q.plain a).0 t)
        from (inr (inr (inl (a, t, p)))) = ⊎_elim (λ h. inl (inr (inl (a, h, p)))) (λ w. inr (back a becomes_not_a p w.1)) ((q.nots a).0 t)
        from (inr (inr (inr (a, t, p)))) = ⊎_elim (λ h. inl (inr (inr (a, h, p)))) (λ w. inr (back a becomes_not_not_a p w.1)) ((q.not_nots a).0 t)

        one : (m : Subjective) (a : ℕ) → a ∈ r.mask m → (x : Action) → table m (holds m a) ≡ x → Broken a x → Deleted n holds r ⊎ Somewhere (reduct_rule n holds r)
        one m a h becomes_a e p = inr (inl (a, (q.plain a).1 (inr (∈_below (below m) h, (m, h, e))), p))
        one m a h becomes_not_a e p = inr (inr (inl (a, (q.nots a).1 (inr (∈_below (below m) h, (m, h, e))), p)))
        one m a h becomes_not_not_a e p = inr (inr (inr (a, (q.not_nots a).1 (inr (∈_below (below m) h, (m, h, e))), p)))
        one m a h removed e p = absurd p
        one m a h rule-deleted e p = inl (a, ∈_below (below m) h, (m, h, e))

        to : Somewhere r.objective ⊎ Literal → Deleted n holds r ⊎ Somewhere (reduct_rule n holds r)
        to (inl (inl (a, h, p))) = inr (inl (a, (q.plain a).1 (inl h), p))
        to (inl (inr (inl (a, h, p)))) = inr (inr (inl (a, (q.nots a).1 (inl h), p)))
        to (inl (inr (inr (a, h, p)))) = inr (inr (inr (a, (q.not_nots a).1 (inl h), p)))
        to (inr (m, a, h, p)) = one m a h (table m (holds m a)) refl p
