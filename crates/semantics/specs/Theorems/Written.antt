-- Rules without K and M written into a sheet after its own: the setting is that of the sheet with these rules added, and where both are at most
-- 64 together the bytes of the sheet so written have it. Assumes nothing.
-- Here the definitions; the theorems are in proofs/Theorems/Written.antt.
use mathlib.Core.List.{List, map}
use Rattle.semantics.specs.Definitions.Rules.{Rule, EpistemicRule}
use Rattle.semantics.specs.Definitions.Sheet.{rule_of_masks}
use Rattle.semantics.specs.Words.{eight_masks}

-- ---- a rule without K and M, as the definitions take it from a sheet
abbrev pub sheet_rule : Rule → EpistemicRule
sheet_rule c = rule_of_masks (eight_masks c)

abbrev pub sheet_rules : List Rule → List EpistemicRule
sheet_rules cs = map rule_of_masks (map eight_masks cs)
