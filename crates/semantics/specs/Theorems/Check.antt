-- What the check answers: it accepts exactly the layouts of names, rules and pairs that fit, with their numbers; it refuses exactly what the reading
-- of the sections refuses, and k over 12; and its refusals are 1 to 7 and 15, each at a place of at most 1,236, the length of the longest sheet.
-- Assumes nothing.
-- Here the definitions; the theorems are in proofs/Theorems/Check.antt.
use Rattle.std.specs.Prelude.{ℕ, ◌<◌, ◌≡◌, List, map, ◌⊎◌, length}
use Rattle.semantics.specs.Definitions.Reading.{field, refused}
use Rattle.semantics.specs.Definitions.Sheet.{Opposites, Sheet, rule_of_masks, sections}
use Rattle.semantics.specs.Definitions.Setting.{setting_of, k}
use Rattle.semantics.specs.Definitions.Check.{most_negations, setting, Numbers, numbers}
use Rattle.semantics.specs.Theorems.Layout.{sheet_bytes, Fits}

-- ---- accepted
-- "the numbers of atoms, of rules and of negations", of names and rules; pairs are not counted
abbrev pub numbers_for : (names rules : List (List ℕ)) → Numbers
numbers_for names rules = numbers (length names) (length rules) (k (setting_of (length names) (map rule_of_masks rules)))

-- the bytes are the layout of names, rules and pairs that fit, and n are the numbers of these
pub record LaidOut (s : List ℕ) (n : Numbers) : Type 0 where
  pub names : List (List ℕ)
  pub rules : List (List ℕ)
  pub pairs : List Opposites
  pub fit : Fits names rules pairs
  pub layout : s ≡ sheet_bytes names rules pairs
  pub counted : n ≡ numbers_for names rules

-- ---- refused
module _ (s : List ℕ) (number place : ℕ) where
  -- "7, 0" where "k over 12"
  pub record OverNegations : Type 0 where
    pub says : Sheet
    pub end : ℕ
    pub reads : sections s ≡ field says end
    pub over : most_negations < k (setting says)
    pub seven : number ≡ 7
    pub at_0 : place ≡ 0

  -- 1 to 6 or 15 where the reading of the sections ends so, or 7 after it
  abbrev pub Refuses : Type 0
  Refuses = (sections s ≡ refused number place) ⊎ OverNegations
