-- The rules at a set, rule by rule. Assumes nothing.
use Prim.Native.Nat.{ℕ, ◌+◌, ◌≤◌, ◌<◌}
use mathlib.Core.Path.{◌≡◌, refl, sym, ap, ap₂, ◌∙◌, subst}
use mathlib.Core.Bool.{Bool, true, false, not, ◌&&◌}
use mathlib.Core.List.{List, [], ◌∷◌, ◌++◌, map, map-append, append-nil}
use mathlib.Core.Logic.{inl, inr, ⊎_elim}
use native.Mathlib.Omega.{arith}
use native.Mathlib.Numerals.{add-one}
use lib.ListN.{length, set}
use lib.Seq.{get_or-set_same, get_or-set_other}
use Rattle.sets.specs.Decides.{decided, dec_eq}
use Rattle.sets.specs.Lists.{◌among◌, nowhere, all_snoc, only, up_to, among-map, map_up_to_suc, map_up_to_same}
use Rattle.sets.specs.Sets.{◌∈◌, ◌⊆◌, ◌∩◌, ◌∪◌, ◌∖◌, ◌⊆?◌, ◌meets?◌}
use Rattle.sets.specs.Members.{some-member, dec_∈, dec_⊆, ∈-∪, ∈-∖, ∈-∅, ∪-∅}
use Rattle.semantics.specs.Definitions.Rules.{EpistemicRule}
use Rattle.semantics.specs.Definitions.Sheet.{rule_of_masks}
use Rattle.semantics.specs.Definitions.Setting.{Setting}
use Rattle.semantics.specs.Words.{masks_in, rules_in, rules-none, rules-more, among-rules}
use Rattle.semantics.specs.AtSet.{need, GatheredRule, gathers, gather_rule, gathered_rules, StableBy}
use Rattle.semantics.specs.Theorems.AtSet.{Supports}
use Rattle.semantics.proofs.Theorems.AtSet.{dec_gathers, among-gathered, gathered_head, gathered_none, gathered-more, struck, unsupported}
use Rattle.guess.specs.declared.outline.Outline.{Outline}
use Rattle.guess.specs.Programs.{unmasked_in}
use Rattle.lanes.specs.declared.rule.Rule.{Rule}
use Rattle.gather.specs.declared.digest.Digest.{Digest}
use Rattle.gather.specs.Digests.{digest_in, Digested}
use Rattle.gather.specs.Gathers.{rule_from, rule_at, rules_at, at_set}

-- ---- the room
at_none : (room : List Rule) → rules_at room 0 ≡ []
unfolding rules_at up_to
at_none room = refl

at_more : (room : List Rule) (n : ℕ) → rules_at room (n + 1) ≡ rules_at room n ++ rule_at room n ∷ []
unfolding rules_at
at_more room n = ap (rules_at room) (add-one n) ∙ map_up_to_suc (rule_at room) n

at_stays : (room : List Rule) (n : ℕ) (e : Rule) → rules_at (set room n e) n ≡ rules_at room n
unfolding rules_at
at_stays room n e = map_up_to_same (rule_at (set room n e)) (rule_at room) n (λ j h. ap rule_from (get_or-set_other room n j e _ (λ q. omega arith)))

-- ---- of the rules in the words
module _ (x : Outline) (words : List ℕ) (i : ℕ) where
  abbrev s : Setting
  s = unmasked_in x words

  abbrev rule_of : ℕ → EpistemicRule
  rule_of j = rule_of_masks (masks_in words j)

  abbrev first : ℕ → List EpistemicRule
  first j = map rule_of_masks (rules_in words j)

  -- of the first j those that are gathered stand in the room
  pub record Stand (room : List Rule) (n j : ℕ) : Type 0 where
    pub few : n ≤ j
    pub rules : rules_at room n ≡ gathered_rules s (first j) i

  pub none_stand : (room : List Rule) → Stand room 0 0
  none_stand room = record { few = omega arith; rules = at_none room ∙ sym (ap (λ rs. gathered_rules s (map rule_of_masks rs) i) (rules-none words) ∙ gathered_none s i) }

  more : (j : ℕ) → gathered_rules s (first (j + 1)) i ≡ gathered_rules s (first j) i ++ only (gathers s i (rule_of j)) (gather_rule s i (rule_of j))
  more j =
      ap (λ rs. gathered_rules s rs i) (ap (map rule_of_masks) (rules-more words j) ∙ map-append rule_of_masks (rules_in words j) (masks_in words j ∷ []))
      ∙ gathered-more s i (first j) (rule_of j)

  -- ---- one rule, by its digest
  module _ {digests : List Digest} (d : Digested x words digests) {needed j : ℕ} (is : needed ≡ need s i) (h : j < x.rules) where
    abbrev r : Digest
    r = digest_in digests j

    pub gathers_is : {b : Bool} → b ≡ (r.body ⊆? i) && not (r.nots meets? i) && not (r.barred meets? needed) → b ≡ gathers s i (rule_of j)
    gathers_is f = f ∙ ap₂ asks (d.rule h) is
      where
        asks : Digest → ℕ → Bool
        asks z q = (z.body ⊆? i) && not (z.nots meets? i) && not (z.barred meets? q)

    pub rule_is : {e : Rule} → e ≡ record { head = r.head ∩ i; plain = r.plain; misses = r.barred; holds = r.asked ∖ needed }
        → rule_from e ≡ gather_rule s i (rule_of j)
    rule_is e = ap rule_from e ∙ ap₂ rule_by (d.rule h) is
      where
        rule_by : Digest → ℕ → GatheredRule
        rule_by z q = record { head = z.head ∩ i; plain = z.plain; misses = z.barred; holds = z.asked ∖ q }

    -- it is among the rules gathered
    there : gathers s i (rule_of j) ≡ true → gather_rule s i (rule_of j) among at_set x words i
    there g =
        (among-gathered s i (first x.rules)).1 (
          rule_of j,
          (among-map rule_of_masks (rules_in words x.rules)).1 (masks_in words j, (among-rules words x.rules).1 (j, h, refl), refl),
          (dec_gathers s i (rule_of j)).yes g,
          refl,
        )

    -- every guess switches it on, and it has no head atom in the set
    pub fails : {e : Rule} → gathers s i (rule_of j) ≡ true → rule_from e ≡ gather_rule s i (rule_of j) → e.head ∪ e.misses ∪ e.holds ≡ 0
        → (g : ℕ) → StableBy (at_set x words i) i g → ⊥
    fails {e} g f empty =
        let (both, holds) = ∪-∅ (e.head ∪ e.misses) e.holds empty in
        let (head, misses) = ∪-∅ e.head e.misses both in
        struck (at_set x words i) (rule_from e) (subst (λ z. z among at_set x words i) (sym f) (there g)) head misses holds i

  -- ---- one rule more
  module _ {room : List Rule} {n j : ℕ} (w : Stand room n j) where
    pub written : {e : Rule} {b : Bool} → n < length room → b ≡ gathers s i (rule_of j) → b ≡ true → rule_from e ≡ gather_rule s i (rule_of j)
        → Stand (set room n e) (n + 1) (j + 1)
    written {e} h answer told is =
        let at : rule_at (set room n e) n ≡ rule_from e = ap rule_from (get_or-set_same room n e _ h) in record {
          few = omega (arith, w.few);
          rules = at_more (set room n e) n ∙ rw (at_stays room n e ∙ w.rules, at ∙ is) (sym (more j ∙ rw (sym answer ∙ told) refl));
        }

    pub left_out : {b : Bool} → b ≡ gathers s i (rule_of j) → b ≡ false → Stand room n (j + 1)
    left_out answer told = record {
      few = omega (arith, w.few);
      rules = w.rules ∙ sym (more j ∙ rw (sym answer ∙ told) (append-nil _));
    }

  -- ---- the atoms that they support
  pub record Held (atoms j : ℕ) : Type 0 where
    pub held : (e : GatheredRule) → e among gathered_rules s (first j) i → (a : ℕ) → Supports e a → a ∈ atoms

  pub none_held : Held 0 0
  none_held = record {
    held = λ e m. absurd (nowhere (subst (λ z. e among z) (ap (λ rs. gathered_rules s (map rule_of_masks rs) i) (rules-none words) ∙ gathered_none s i) m));
  }

  module _ {atoms j : ℕ} (h : Held atoms j) {b : Bool} (answer : b ≡ gathers s i (rule_of j)) where
    pub held_more : {e : Rule} {r : ℕ} → b ≡ true → rule_from e ≡ gather_rule s i (rule_of j) → ((a : ℕ) → Supports (rule_from e) a → a ∈ r) → Held (atoms ∪ r) (j + 1)
    held_more {r = r} told is f = record {
      held = λ z m a q. all_snoc (λ y. (a : ℕ) → Supports y a → a ∈ atoms ∪ r) (gathered_rules s (first j) i) (gather_rule s i (rule_of j))
          (λ y k a q. (∈-∪ a atoms r).1 (inl (h.held y k a q))) (λ a q. (∈-∪ a atoms r).1 (inr (f a (subst (λ y. Supports y a) (sym is) q))))
          z (subst (λ l. z among l) (more j ∙ rw (sym answer ∙ told) refl) m) a q;
    }

    pub held_same : b ≡ false → Held atoms (j + 1)
    held_same told = record { held = λ z m. h.held z (subst (λ l. z among l) (more j ∙ rw (sym answer ∙ told) (append-nil _)) m) }

  -- an atom of the set that none of them supports
  pub some_unsupported : {atoms j : ℕ} → j ≡ x.rules → Held atoms j → (i ⊆? atoms) ≡ false → (g : ℕ) → StableBy (at_set x words i) i g → ⊥
  some_unsupported {atoms} e h f =
      let (a, m) = some-member (i ∖ atoms) (⊎_elim (λ z. absurd ((dec_⊆ i atoms).no f (all_in z))) (λ z. omega arith) (decided (dec_eq (i ∖ atoms) 0))) in
      let (here, out) = (∈-∖ a i atoms).0 m in
      unsupported (at_set x words i) i a (gathered_head s i (first x.rules)) here (λ z k q. out (h.held z (subst (λ j. z among gathered_rules s (first j) i) (sym e) k) a q))
    where
      all_in : i ∖ atoms ≡ 0 → i ⊆ atoms
      all_in z = record { into = λ {a} m. ⊎_elim (λ k. k) (λ k. absurd (∈-∅ (subst (λ y. a ∈ y) z ((∈-∖ a i atoms).1 (m, k))))) (decided (dec_∈ a atoms)) }
