-- What is gathered of the rules at the sets of atoms of small sheets, worked out by hand. Assumes nothing.
use Rattle.std.specs.Prelude.{ℕ, ◌^◌, ◌≡◌, refl, List, [], ◌∷◌, map}
use Rattle.sets.specs.Lists.{some, keep, flat, up_to, same_list}
use Rattle.sets.specs.Sets.{set_of}
use Rattle.semantics.specs.Definitions.Reading.{times}
use Rattle.semantics.specs.Definitions.Sheet.{atoms, epistemic_rules, atoms_of, count_at, name_byte_at, name_at, mask_at, rule_at, front, pairs_at, sections}
use Rattle.semantics.specs.Definitions.Check.{setting, opened, said}
use Rattle.semantics.specs.Definitions.Returned.{accepted}
use Rattle.semantics.specs.Definitions.Verdict.{guess_found}
use Rattle.semantics.specs.AtSet.{need, barred, asked, GatheredRule, gathered_rules}
use Rattle.semantics.specs.Examples.Sheets.{a, b, c, sheet, rule}

abbrev entry : (head plain misses holds : ℕ) → GatheredRule
entry head plain misses holds = record { head = head; plain = plain; misses = misses; holds = holds }

-- a sheet; what each set of atoms needs, rising; of each rule what is barred and what is asked; what is gathered at each set
abbrev rows : List (List ℕ × List ℕ × List (ℕ × ℕ) × List (List GatheredRule))
rows =
    -- a ← K a. Negation 0 is "not K a", which the empty set needs: the rule is off there for every guess
    (sheet (a ∷ []) (rule 1 0 0 0 1 0 0 0 ∷ []), 1 ∷ 0 ∷ [], (1, 0) ∷ [], [] ∷ (entry 1 1 1 0 ∷ []) ∷ [])
    -- a ← not K b; b ← not K a. Negations 0 and 1 are "not K a" and "not K b"
    ∷ (
      sheet (a ∷ b ∷ []) (rule 1 0 0 0 0 2 0 0 ∷ rule 2 0 0 0 0 1 0 0 ∷ []),
      3 ∷ 2 ∷ 1 ∷ 0 ∷ [],
      (0, 2) ∷ (0, 1) ∷ [],
      (entry 0 0 0 0 ∷ entry 0 0 0 0 ∷ []) ∷ (entry 1 0 0 0 ∷ entry 0 0 0 1 ∷ []) ∷ (entry 0 0 0 2 ∷ entry 2 0 0 0 ∷ []) ∷ (entry 1 0 0 2 ∷ entry 2 0 0 1 ∷ []) ∷ [],
    )
    -- a or c ← b, K c; b ← not c, M a; c ← not not b, not M a, not K c; ← a, not M b. Negations 0 to 2 are "M a", "M b" and "not K c"
    ∷ (
      sheet (a ∷ b ∷ c ∷ []) (rule 5 2 0 0 4 0 0 0 ∷ rule 2 0 4 0 0 0 1 0 ∷ rule 4 0 0 2 0 4 0 1 ∷ rule 0 1 0 0 0 0 0 2 ∷ []),
      4 ∷ 5 ∷ 6 ∷ 7 ∷ 0 ∷ 1 ∷ 2 ∷ 3 ∷ [],
      (4, 0) ∷ (0, 1) ∷ (1, 4) ∷ (2, 0) ∷ [],
      (entry 0 0 0 1 ∷ [])
          ∷ (entry 0 0 0 0 ∷ entry 0 1 2 0 ∷ [])
          ∷ (entry 2 0 0 1 ∷ entry 0 0 1 0 ∷ [])
          ∷ (entry 2 0 0 0 ∷ [])
          ∷ []
          ∷ (entry 0 1 2 0 ∷ [])
          ∷ (entry 4 6 4 0 ∷ entry 4 0 1 4 ∷ [])
          ∷ (entry 5 6 4 0 ∷ [])
          ∷ [],
    )
    ∷ []

pub record AtSets : Type 0 where
  pub needs_are : map (λ p. said (λ x. map (need (setting x)) (up_to (2 ^ atoms x))) p.0) rows ≡ map (λ p. accepted p.1) rows
  pub rules_want : map (λ p. said (λ x. map (λ r. (barred (setting x) r, asked (setting x) r)) (epistemic_rules x)) p.0) rows ≡ map (λ p. accepted p.2) rows
  pub gathered_are : map (λ p. said (λ x. map (gathered_rules (setting x) (epistemic_rules x)) (up_to (2 ^ atoms x))) p.0) rows ≡ map (λ p. accepted p.3) rows

pub at-sets : AtSets
unfolding some keep flat up_to same_list set_of times atoms_of count_at name_byte_at name_at mask_at rule_at front pairs_at sections opened guess_found gathered_rules
at-sets = record { needs_are = refl; rules_want = refl; gathered_are = refl }
