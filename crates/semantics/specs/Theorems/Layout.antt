-- The layout of a sheet, said without reading: its bytes, and which names, rules and pairs fit; those of an accepted sheet do. Assumes nothing.
-- Here the definitions; the theorems are in proofs/Theorems/Layout.antt.
use Rattle.std.specs.Prelude.{ℕ, ◌+◌, ◌/◌, ◌%◌, ◌≤◌, ◌<◌, ◌≡◌, List, [], ◌∷◌, ◌++◌, map}
use Rattle.std.proofs.Math.ListN.{length}
use Rattle.sets.specs.Lists.{◌among◌, flat}
use Rattle.sets.specs.Pairwise.{Distinct}
use Rattle.sets.specs.Sets.{AllBelow}
use Rattle.semantics.specs.Definitions.Sheet.{Opposites, Sheet, rule_of_masks, most_atoms, most_rules, most_pairs}
use Rattle.semantics.specs.Definitions.Setting.{setting_of, k}
use Rattle.semantics.specs.Definitions.Check.{most_negations}
use Rattle.semantics.specs.Theorems.Names.{GoodName}
use Rattle.semantics.specs.Theorems.Pairs.{Disjoint}

-- every number is one byte's
abbrev pub IsBytes : List ℕ → Type 0
IsBytes s = (b : ℕ) → b among s → b < 256

-- "each name: a length byte 1 to 12 and that many bytes"
abbrev pub name_bytes : List ℕ → List ℕ
name_bytes n = length n ∷ n

-- "two-byte fields have the low byte first"
abbrev pub mask_bytes : ℕ → List ℕ
mask_bytes m = m % 256 ∷ m / 256 ∷ []

-- "each rule, 16 bytes: eight two-byte masks"
abbrev pub rule_bytes : List ℕ → List ℕ
rule_bytes r = flat mask_bytes r

-- K7: "two atom numbers per pair"
abbrev pub pair_bytes : Opposites → List ℕ
pair_bytes p = p.first ∷ p.second ∷ []

-- "Sections in a fixed order, each after its count." "Nothing follows.": the sheets of document 01, and the front of those of document 02
abbrev pub front_bytes : (names rules : List (List ℕ)) → List ℕ
front_bytes names rules = length names ∷ flat name_bytes names ++ length rules ∷ flat rule_bytes rules

-- K7: "The sheet gets a third section"
abbrev pub sheet_bytes : (names rules : List (List ℕ)) (pairs : List Opposites) → List ℕ
sheet_bytes names rules pairs = front_bytes names rules ++ length pairs ∷ flat pair_bytes pairs

-- what a sheet says with these names, rules and pairs: before the rules stand a count, the names and a count
abbrev pub sheet_of : (names rules : List (List ℕ)) (pairs : List Opposites) → Sheet
sheet_of names rules pairs = record { names = names; rules = rules; pairs = pairs; rules_at = 1 + length (flat name_bytes names) + 1 }

-- names and rules that fit, of the sheets of both documents
pub record FrontFits (names rules : List (List ℕ)) : Type 0 where
  -- "the number of atoms, 0 to 15"
  pub few_names : length names ≤ most_atoms
  pub good_names : (n : List ℕ) → n among names → GoodName n
  -- "Names differ from each other."
  pub distinct : Distinct names
  -- "the number of rules, 0 to 64"
  pub few_rules : length rules ≤ most_rules
  pub whole-rules : (r : List ℕ) → r among rules → length r ≡ 8
  -- no mask has "a bit at or above the atom count"
  pub masks_below : AllBelow (length names) rules
  -- "k of 12 passes, 13 gives 7."
  pub few_negations : k (setting_of (length names) (map rule_of_masks rules)) ≤ most_negations

-- names, rules and pairs that fit
pub record Fits (names rules : List (List ℕ)) (pairs : List Opposites) : Type 0 where
  pub front_fits : FrontFits names rules
  -- "a count byte 0 to 7"
  pub few_pairs : length pairs ≤ most_pairs
  -- no "atom number not below the atom count, one atom twice in a pair or an atom of an earlier pair"
  pub disjoint : Disjoint (length names) pairs
