-- A program with K and M as the code holds it, its rules in words and its outline: the setting that these stand for. Assumes nothing.
use Rattle.std.specs.Prelude.{ℕ, ◌*◌, ◌≤◌, ◌≡◌, List, map, length}
use Rattle.sets.specs.Sets.{AllBelow}
use Rattle.semantics.specs.Definitions.Sheet.{rule_of_masks, most_atoms}
use Rattle.semantics.specs.Definitions.Setting.{Setting, setting_of, k}
use Rattle.semantics.specs.Definitions.Check.{most_negations}
use Rattle.semantics.specs.Definitions.Day.{under}
use Rattle.semantics.specs.Fields.{k_atoms, m_atoms}
use Rattle.semantics.specs.Words.{program_room, rules_in}
use Rattle.guess.specs.declared.outline.Outline.{Outline}

-- what the rest of document 01 is said of, for the rules in the words
abbrev pub unmasked_in : Outline → (words : List ℕ) → Setting
unmasked_in x words = setting_of x.atoms (map rule_of_masks (rules_in words x.rules))

-- and for these under the day's masks
abbrev pub setting_in : Outline → (words : List ℕ) → Setting
setting_in x words = under x.ins x.outs (unmasked_in x words)

-- so many rules in the words are within the limits
pub record WithinLimits (atoms rules : ℕ) (words : List ℕ) : Type 0 where
  pub few_atoms : atoms ≤ most_atoms
  pub few_rules : rules ≤ program_room
  pub stand : 8 * rules ≤ length words
  pub below : AllBelow atoms (rules_in words rules)
  pub few_negations : k (setting_of atoms (map rule_of_masks (rules_in words rules))) ≤ most_negations

-- x is the outline of the rules in the words, under any masks, and the rules are within the limits
pub record Outlines (x : Outline) (words : List ℕ) : Type 0 where
  pub few_atoms : x.atoms ≤ most_atoms
  pub few_rules : x.rules ≤ program_room
  pub stand : 8 * x.rules ≤ length words
  pub below : AllBelow x.atoms (rules_in words x.rules)
  pub k-atoms : x.k_atoms ≡ k_atoms (rules_in words x.rules)
  pub m-atoms : x.m_atoms ≡ m_atoms (rules_in words x.rules)
  pub counted : x.negations ≡ k (setting_in x words)
  pub few_negations : x.negations ≤ most_negations
