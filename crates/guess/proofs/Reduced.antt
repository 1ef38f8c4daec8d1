-- The reduct of a guess is what document 01's table makes of the rules, said by sets of atoms. Assumes nothing.
use Prim.Native.Nat.{ℕ, ◌<◌}
use mathlib.Core.Path.{◌≡◌, refl, sym, ap, ap₂, ◌∙◌}
use mathlib.Core.Bool.{Bool, true, false, not, true≢false}
use mathlib.Core.List.{List, map}
use mathlib.Core.Logic.{◌↔◌, ◌⊎◌, inl, inr, ⊎_elim}
use lib.ListN.{get_or}
use borrow.Author.Tests.{not-true, not-false}
use Rattle.sets.specs.Decides.{is_false, dec_self, dec_iff, dec_or, dec_one, dec_does, does}
use Rattle.sets.specs.Lists.{keep, map_keep_map}
use Rattle.sets.specs.Sets.{◌∈◌, Meets, Below, AllBelow, ◌∪◌, ◌∖◌, set_of}
use Rattle.sets.specs.Members.{∈_below, ∈_ext, ∈-∪, ∈-∖, ∈-set_of, dec_meets, get_or_below}
use Rattle.semantics.specs.Definitions.Rules.{Rule, EpistemicRule, Subjective, K, not_k, M, not_m}
use Rattle.semantics.specs.Definitions.Guesses.{Negation, not_known, may_be, assumed}
use Rattle.semantics.specs.Definitions.Reduct.{Action, becomes_a, becomes_not_a, becomes_not_not_a, rule-deleted, same_action, table, holds_by, deleted, reduct_rule, reduct}
use Rattle.semantics.specs.Definitions.Sheet.{rule_of_masks}
use Rattle.semantics.specs.Theorems.Reduct.{Acted, Deleted, dec_deleted, Brought, rule_reduces}
use Rattle.guess.specs.Acted.{deleted_by, reduced_by}

-- ---- the table: whether a literal holds to which it does x, if the other answer brings something else
told : (m : Subjective) (x : Action) (v b : Bool) → does (same_action (table m (not v)) x) ≡ false → table m b ≡ x → b ≡ v
told m x true true e t = refl
told m x true false e t = absurd ((dec_does (same_action (table m false) x)).no e t)
told m x false true e t = absurd ((dec_does (same_action (table m true) x)).no e t)
told m x false false e t = refl

-- what it does to no literal of a kind
never : (m : Subjective) (x : Action) (b : Bool) → does (same_action (table m false) x) ≡ false → does (same_action (table m true) x) ≡ false
    → table m b ≡ x → ⊥
never m x b e f t = true≢false (sym (told m x true b e t) ∙ told m x false b f t)

same-rule : (q : Rule) {a b c d : ℕ} → q.head ≡ a → q.plain ≡ b → q.nots ≡ c → q.not_nots ≡ d
    → q ≡ record { head = a; plain = b; nots = c; not_nots = d }
same-rule q {a} {b} e f g h =
    ap₂ (λ x y. record { head = x; plain = y; nots = q.nots; not_nots = q.not_nots }) e f
    ∙ ap₂ (λ x y. record { head = a; plain = b; nots = x; not_nots = y }) g h

-- ---- one rule, of eight masks with atoms below n only
module _ (n : ℕ) (es : List Negation) (g : ℕ) (masks : List ℕ) (below : Below n masks) where
  abbrev unknown : ℕ → Bool
  unknown a = assumed es g (not_known a)

  abbrev possible : ℕ → Bool
  possible a = assumed es g (may_be a)

  abbrev u : ℕ
  u = set_of unknown n

  abbrev p : ℕ
  p = set_of possible n

  abbrev mask : ℕ → ℕ
  mask i = get_or masks i 0

  abbrev r : EpistemicRule
  r = rule_of_masks masks

  abbrev holds : Subjective → ℕ → Bool
  holds = holds_by es g

  atom : (i a : ℕ) → a ∈ mask i → a < n
  atom i a m = ∈_below (get_or_below n masks below i) m

  rule_deletes : Deleted n holds r ↔ (Meets (mask 4) u ⊎ Meets (mask 7) p)
  rule_deletes = (
    from,
    ⊎_elim
        (λ m. let (l, e) = (∈-set_of unknown m.common n).0 m.right in (m.common, l, (K, m.left, ap (λ b. table K (not b)) e)))
        (λ m. let (l, e) = (∈-set_of possible m.common n).0 m.right in (m.common, l, (not_m, m.left, ap (λ b. table not_m (not b)) e))),
  )
    where
      from : Deleted n holds r → Meets (mask 4) u ⊎ Meets (mask 7) p
      from (a, l, (K, m, t)) =
          let e = not-false (unknown a) (told K rule-deleted false (holds K a) refl t) in
          inl (record { common = a; left = m; right = (∈-set_of unknown a n).1 (l, e) })
      from (a, l, (not_k, m, t)) = absurd (never not_k rule-deleted (holds not_k a) refl refl t)
      from (a, l, (M, m, t)) = absurd (never M rule-deleted (holds M a) refl refl t)
      from (a, l, (not_m, m, t)) =
          let e = not-false (possible a) (told not_m rule-deleted false (holds not_m a) refl t) in
          inr (record { common = a; left = m; right = (∈-set_of possible a n).1 (l, e) })

  pub deleted_by_lem : deleted n holds r ≡ deleted_by u p masks
  deleted_by_lem = dec_one (dec_iff rule_deletes (dec_deleted n holds r)) (dec_or (dec_meets (mask 4) u) (dec_meets (mask 7) p))

  -- where the rule is not deleted, each literal of K and of "not M" holds
  module _ (stays : deleted_by u p masks ≡ false) where
    apart : Meets (mask 4) u ⊎ Meets (mask 7) p → ⊥
    apart = (dec_or (dec_meets (mask 4) u) (dec_meets (mask 7) p)).no stays

    known : (a : ℕ) → a ∈ mask 4 → unknown a ≡ false
    known a m =
        is_false (dec_self (unknown a)) (λ e. apart (inl (record { common = a; left = m; right = (∈-set_of unknown a n).1 (atom 4 a m, e) })))

    impossible : (a : ℕ) → a ∈ mask 7 → possible a ≡ false
    impossible a m =
        is_false (dec_self (possible a)) (λ e. apart (inr (record { common = a; left = m; right = (∈-set_of possible a n).1 (atom 7 a m, e) })))

    plain : (reduct_rule n holds r).plain ≡ mask 1 ∪ mask 4
    plain = ∈_ext _ _ (λ a. (
      λ m. (∈-∪ a (mask 1) (mask 4)).1 (from a (((rule_reduces n holds r).plain a).0 m)),
      λ m. ((rule_reduces n holds r).plain a).1
          (⊎_elim inl (λ k. inr (atom 4 a k, (K, k, ap (λ b. table K (not b)) (known a k)))) ((∈-∪ a (mask 1) (mask 4)).0 m)),
    ))
      where
        from : (a : ℕ) → Brought n holds r becomes_a (mask 1) a → (a ∈ mask 1) ⊎ (a ∈ mask 4)
        from a (inl m) = inl m
        from a (inr (l, (K, m, t))) = inr m
        from a (inr (l, (not_k, m, t))) = absurd (never not_k becomes_a (holds not_k a) refl refl t)
        from a (inr (l, (M, m, t))) = absurd (never M becomes_a (holds M a) refl refl t)
        from a (inr (l, (not_m, m, t))) = absurd (never not_m becomes_a (holds not_m a) refl refl t)

    nots : (reduct_rule n holds r).nots ≡ mask 2 ∪ mask 5 ∖ u ∪ mask 7
    nots = ∈_ext _ _ (λ a. (
      λ m. (∈-∪ a (mask 2 ∪ mask 5 ∖ u) (mask 7)).1 (from a (((rule_reduces n holds r).nots a).0 m)),
      λ m. ((rule_reduces n holds r).nots a).1 (⊎_elim
          (λ k. ⊎_elim inl (λ q. inr (into a ((∈-∖ a (mask 5) u).0 q))) ((∈-∪ a (mask 2) (mask 5 ∖ u)).0 k))
          (λ k. inr (atom 7 a k, (not_m, k, ap (λ b. table not_m (not b)) (impossible a k))))
          ((∈-∪ a (mask 2 ∪ mask 5 ∖ u) (mask 7)).0 m)),
    ))
      where
        into : (a : ℕ) → (a ∈ mask 5) × (a ∈ u → ⊥) → (a < n) × Acted holds r becomes_not_a a
        into a (m, f) =
            let l = atom 5 a m in
            (l, (not_k, m, ap (table not_k) (is_false (dec_self (unknown a)) (λ e. f ((∈-set_of unknown a n).1 (l, e))))))

        from : (a : ℕ) → Brought n holds r becomes_not_a (mask 2) a → (a ∈ mask 2 ∪ mask 5 ∖ u) ⊎ (a ∈ mask 7)
        from a (inl m) = inl ((∈-∪ a (mask 2) (mask 5 ∖ u)).1 (inl m))
        from a (inr (l, (K, m, t))) = absurd (never K becomes_not_a (holds K a) refl refl t)
        from a (inr (l, (not_k, m, t))) =
            let e = told not_k becomes_not_a false (unknown a) refl t in
            inl ((∈-∪ a (mask 2) (mask 5 ∖ u)).1 (inr ((∈-∖ a (mask 5) u).1 (m, λ q. true≢false (sym ((∈-set_of unknown a n).0 q).1 ∙ e)))))
        from a (inr (l, (M, m, t))) = absurd (never M becomes_not_a (holds M a) refl refl t)
        from a (inr (l, (not_m, m, t))) = inr m

    not_nots : (reduct_rule n holds r).not_nots ≡ mask 3 ∪ mask 6 ∖ p
    not_nots = ∈_ext _ _ (λ a. (
      λ m. (∈-∪ a (mask 3) (mask 6 ∖ p)).1 (from a (((rule_reduces n holds r).not_nots a).0 m)),
      λ m. ((rule_reduces n holds r).not_nots a).1 (⊎_elim inl (λ k. inr (into a ((∈-∖ a (mask 6) p).0 k))) ((∈-∪ a (mask 3) (mask 6 ∖ p)).0 m)),
    ))
      where
        into : (a : ℕ) → (a ∈ mask 6) × (a ∈ p → ⊥) → (a < n) × Acted holds r becomes_not_not_a a
        into a (m, f) =
            let l = atom 6 a m in
            (l, (M, m, ap (table M) (is_false (dec_self (possible a)) (λ e. f ((∈-set_of possible a n).1 (l, e))))))

        from : (a : ℕ) → Brought n holds r becomes_not_not_a (mask 3) a → (a ∈ mask 3) ⊎ (a ∈ mask 6 ∖ p)
        from a (inl m) = inl m
        from a (inr (l, (K, m, t))) = absurd (never K becomes_not_not_a (holds K a) refl refl t)
        from a (inr (l, (not_k, m, t))) = absurd (never not_k becomes_not_not_a (holds not_k a) refl refl t)
        from a (inr (l, (M, m, t))) =
            let e = told M becomes_not_not_a false (possible a) refl t in
            inr ((∈-∖ a (mask 6) p).1 (m, λ q. true≢false (sym ((∈-set_of possible a n).0 q).1 ∙ e)))
        from a (inr (l, (not_m, m, t))) = absurd (never not_m becomes_not_not_a (holds not_m a) refl refl t)

    pub reduced_by_lem : reduct_rule n holds r ≡ reduced_by u p masks
    unfolding reduced_by
    reduced_by_lem = same-rule (reduct_rule n holds r) (rule_reduces n holds r).head plain nots not_nots

-- ---- all rules
pub reduct_by : (n : ℕ) (es : List Negation) (g : ℕ) (rules : List (List ℕ)) → AllBelow n rules →
    let u = set_of (λ a. assumed es g (not_known a)) n in
    let p = set_of (λ a. assumed es g (may_be a)) n in
    reduct n (holds_by es g) (map rule_of_masks rules) ≡ map (reduced_by u p) (keep (λ m. not (deleted_by u p m)) rules)
unfolding reduct
reduct_by n es g rules below =
    map_keep_map _ _ (reduct_rule n (holds_by es g)) (reduced_by _ _) rule_of_masks rules
    (λ m k. (ap not (deleted_by_lem n es g m (below m k)), λ e. reduced_by_lem n es g m (below m k) (not-true _ e)))
