-- The rules at a set of atoms, as the code has them. Assumes nothing.
use Rattle.std.specs.Prelude.{ℕ, ◌≤◌, ◌≡◌, Option, Some, None, List, map}
use Rattle.sets.specs.Lists.{up_to}
use Rattle.semantics.specs.Definitions.Sheet.{rule_of_masks}
use Rattle.semantics.specs.Words.{rules_in}
use Rattle.semantics.specs.AtSet.{GatheredRule, gathered_rules, StableBy}
use Rattle.guess.specs.declared.outline.Outline.{Outline}
use Rattle.guess.specs.Programs.{unmasked_in}
use Rattle.lanes.specs.declared.rule.Rule.{Rule}
use Rattle.lanes.specs.Rules.{rule_at as rule_in}

-- the rule that the code has
abbrev pub rule_from : Rule → GatheredRule
rule_from e = record { head = e.head; plain = e.plain; misses = e.misses; holds = e.holds }

module _ (room : List Rule) where
  abbrev pub rule_at : ℕ → GatheredRule
  rule_at n = rule_from (rule_in room n)

  -- the first n rules
  unfoldable pub rules_at : ℕ → List GatheredRule
  rules_at n = map rule_at (up_to n)

-- of the rules in the words, at the set i
module _ (x : Outline) (words : List ℕ) (i : ℕ) where
  abbrev pub at_set : List GatheredRule
  at_set = gathered_rules (unmasked_in x words) (map rule_of_masks (rules_in words x.rules)) i

  -- no guess makes the set stable; or so many rules stand in the room, and they are those
  abbrev pub GatheredAt : (room : List Rule) → Option ℕ → Type 0
  GatheredAt room None = (g : ℕ) → StableBy at_set i g → ⊥
  GatheredAt room (Some n) = (n ≤ x.rules) × (rules_at room n ≡ at_set)
