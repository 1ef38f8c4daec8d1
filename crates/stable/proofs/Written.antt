-- Programs rule by rule: rules of heads and plain atoms, and rules in words. Assumes nothing.
use Prim.Native.Nat.{ℕ, ◌+◌, ◌*◌, ◌≤◌, ◌<◌}
use mathlib.Core.Path.{◌≡◌, refl, sym, ap, subst, ◌∙◌}
use mathlib.Core.Bool.{Bool, true, false, not, ◌&&◌, true≢false}
use mathlib.Core.List.{List, [], ◌∷◌, ◌++◌, append-nil, map, map-append}
use native.Mathlib.Omega.{arith}
use lib.ListN.{length, get_or, set, take}
use Rattle.std.specs.Prelude.{Ok}
use Rattle.std.specs.List.{list_all}
use Rattle.std.proofs.lemmas.List.{take_more, take_more_set, take_all}
use Rattle.sets.specs.Decides.{Decides, is_true, is_false, dec_imp}
use Rattle.sets.specs.Lists.{◌among◌, every, keep, only, up_to, keep_snoc, dec_each, among-map, all_snoc, nowhere, get_or-among}
use Rattle.sets.specs.Sets.{◌meets?◌}
use Rattle.sets.specs.Members.{dec_meets}
use Rattle.semantics.specs.Definitions.Rules.{Rule}
use Rattle.semantics.specs.Words.{rule_in, program_in, program-more}
use Rattle.semantics.specs.Definitions.Stable.{satisfies, is_model, positive, smaller_model, stable}
use Rattle.semantics.specs.Theorems.Stable.{Model, Satisfies}
use Rattle.semantics.specs.Theorems.SingleHeads.{Positive}
use Rattle.semantics.proofs.Theorems.Stable.{dec_model}
use Rattle.stable.specs.Applied.{applies, applied, positive_rule, positive_program}
use Rattle.stable.specs.Search.{dec_applies, stable_by_search, applied_model}
use Rattle.stable.specs.Tested.{ReducedBy}
use Rattle.stable.specs.declared.positive.PositiveRule.{PositiveRule}

-- ---- rules of heads and plain atoms
abbrev pub nth : List PositiveRule → ℕ → PositiveRule
nth rules k = get_or rules k (record { head = 0; plain = 0 })

-- one more is passed
pub positive-more : (rules : List PositiveRule) (k : ℕ) → k < length rules
    → positive_program (take (k + 1) rules) ≡ positive_program (take k rules) ++ positive_rule (nth rules k) ∷ []
unfolding positive_program
positive-more rules k h = ap (map positive_rule) (take_more rules k _ h) ∙ map-append positive_rule (take k rules) (nth rules k ∷ [])

pub positive-none : positive_program [] ≡ []
unfolding positive_program
positive-none = refl

pub positive-all : (rules : List PositiveRule) (n : ℕ) → length rules ≤ n → positive_program (take n rules) ≡ positive_program rules
positive-all rules n h = ap positive_program (take_all n rules h)

-- one more is written
pub positive-written : (out : List PositiveRule) (n : ℕ) (r : PositiveRule) → n < length out
    → positive_program (take (n + 1) (set out n r)) ≡ positive_program (take n out) ++ positive_rule r ∷ []
unfolding positive_program
positive-written out n r h = ap (map positive_rule) (take_more_set out n r h) ∙ map-append positive_rule (take n out) (r ∷ [])

pub plain_only : (rules : List PositiveRule) → Positive (positive_program rules)
unfolding positive_program
plain_only rules r m = let (_, _, e) = (among-map positive_rule rules).0 m in (ap (λ z. z.nots) e, ap (λ z. z.not_nots) e)

-- each rule is satisfied
pub each_satisfied : (rules : List PositiveRule) (i : ℕ) → list_all (λ r. satisfies i (positive_rule r)) rules ≡ is_model (positive_program rules) i
unfolding positive_program every
each_satisfied [] i = refl
each_satisfied (r ∷ rules) i = ap (λ b. satisfies i (positive_rule r) && b) (each_satisfied rules i)

dec_satisfies : (i : ℕ) (r : Rule) → Decides (Satisfies i r) (satisfies i r)
dec_satisfies i r = dec_imp (dec_applies i r) (dec_meets r.head i)

-- of one rule more s is a model too
pub model-more : (rules : List PositiveRule) (s k : ℕ) → k < length rules → satisfies s (positive_rule (nth rules k)) ≡ true
    → Model (positive_program (take k rules)) s → Model (positive_program (take (k + 1) rules)) s
model-more rules s k h t m =
    subst (λ p. Model p s) (sym (positive-more rules k h))
    (all_snoc (Satisfies s) (positive_program (take k rules)) (positive_rule (nth rules k)) m ((dec_satisfies s (positive_rule (nth rules k))).yes t))

pub model-none : (s : ℕ) → Model (positive_program []) s
model-none s r m = absurd (nowhere (subst (λ p. r among p) positive-none m))

pub model-all : (rules : List PositiveRule) (s k : ℕ) → length rules ≤ k → Model (positive_program (take k rules)) s → Model (positive_program rules) s
model-all rules s k h = subst (λ p. Model p s) (positive-all rules k h)

pub among-positive_program : (rules : List PositiveRule) (k : ℕ) → k < length rules → positive_rule (nth rules k) among positive_program rules
unfolding positive_program
among-positive_program rules k h = (among-map positive_rule rules).1 (nth rules k, get_or-among rules _ k h, refl)

-- some rule is not
pub no_model : (rules : List PositiveRule) (s : ℕ) (r : PositiveRule) → positive_rule r among positive_program rules → satisfies s (positive_rule r) ≡ false
    → Model (positive_program rules) s → ⊥
no_model rules s r m e h = true≢false (sym (is_true (dec_satisfies s (positive_rule r)) (h (positive_rule r) m)) ∙ e)

-- ---- a program in words
module _ (words : List ℕ) where
  pub dec_program : (n i : ℕ) → Decides ((k : ℕ) → k < n → satisfies i (rule_in words k) ≡ true) (is_model (program_in words n) i)
  unfolding program_in
  dec_program n i = dec_each (rule_in words) (satisfies i) n

  -- a program with a rule that fails in i
  pub unstable : (n i k : ℕ) → k < n → satisfies i (rule_in words k) ≡ false → false ≡ stable (program_in words n) i
  unstable n i k h e =
      let no_model : is_model (program_in words n) i ≡ false = is_false (dec_program n i) (λ f. true≢false (sym (f k h) ∙ e)) in
      sym (stable_by_search (program_in words n) i ∙ ap (λ b. b && not (smaller_model (applied i (program_in words n)) i)) no_model)

  -- a model, by the search over its rules whose bodies hold
  module _ (n i : ℕ) (out : List PositiveRule) (m : ℕ) (r : ReducedBy words n i out (Ok m)) where
    pub searched : {b : Bool} → b ≡ smaller_model (positive_program (take m out)) i → not b ≡ stable (program_in words n) i
    searched e =
        ap not (e ∙ ap (λ p. smaller_model p i) r.2)
        ∙ sym (stable_by_search (program_in words n) i ∙ ap (λ b. b && not (smaller_model (applied i (program_in words n)) i)) r.1)

    -- it is a model of these too
    pub model_kept : is_model (positive_program (take m out)) i ≡ true
    model_kept =
        let p = program_in words n in
        ap (λ q. is_model q i) r.2 ∙ is_true (dec_model (applied i p) i) ((applied_model p i i).1 (λ q k h b. (dec_model p i).yes r.1 q k h))

  -- a rule whose body holds in i is satisfied there by its head alone, and one whose body doesn't hold is satisfied
  module _ (i j : ℕ) where
    pub unmet : applies i (rule_in words j) ≡ true → get_or words (4 * j) 0 meets? i ≡ false → satisfies i (rule_in words j) ≡ false
    unmet t m =
        let z : 4 * j + 0 ≡ 4 * j = omega arith in
        rw (z, t, m)

    pub met : applies i (rule_in words j) ≡ true → get_or words (4 * j) 0 meets? i ≡ true → satisfies i (rule_in words j) ≡ true
    met t m =
        let z : 4 * j + 0 ≡ 4 * j = omega arith in
        rw (z, t, m)

    pub idle : applies i (rule_in words j) ≡ false → satisfies i (rule_in words j) ≡ true
    idle t = rw t

  -- one rule more: it is among those whose bodies hold in i, or not
  more : (i j : ℕ) → applied i (program_in words (j + 1)) ≡ applied i (program_in words j) ++ map positive (only (applies i (rule_in words j)) (rule_in words j))
  unfolding applied
  more i j = rw (program-more words j, keep_snoc, map-append)

module _ (words : List ℕ) (out : List PositiveRule) (i j n : ℕ) (e : positive_program (take n out) ≡ applied i (program_in words j)) where
  pub wrote : n < length out → applies i (rule_in words j) ≡ true
      → positive_program (take (n + 1) (set out n (record { head = get_or words (4 * j) 0; plain = get_or words (4 * j + 1) 0 })))
      ≡ applied i (program_in words (j + 1))
  wrote l t =
      let z : 4 * j + 0 ≡ 4 * j = omega arith in
      positive-written out n _ l ∙ rw (e, more words i j, t, z)

  pub passed : applies i (rule_in words j) ≡ false → positive_program (take n out) ≡ applied i (program_in words (j + 1))
  passed t = rw (more words i j, t) (e ∙ sym (append-nil _))

pub nothing_written : (words : List ℕ) (i : ℕ) → positive_program [] ≡ applied i (program_in words 0)
unfolding positive_program applied program_in up_to keep
nothing_written words i = refl
