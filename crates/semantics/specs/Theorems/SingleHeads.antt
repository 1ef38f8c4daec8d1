-- Document 02, K6: for rules with at most one head atom, the least model grown and the constraints judge stability as the search over subsets
-- does; and so for every sheet of such rules, every guess and set, with or without the day's masks, and at a minute. Assumes nothing.
-- Here the definitions; the theorems are in proofs/Theorems/SingleHeads.antt.
use Rattle.std.specs.Prelude.{ℕ, ◌≤◌, ◌≡◌, List}
use Rattle.sets.specs.Lists.{◌among◌}
use Rattle.sets.specs.Sets.{∅, size}
use Rattle.semantics.specs.Definitions.Rules.{Rule, EpistemicRule}
use Rattle.semantics.specs.Definitions.Sheet.{Sheet, epistemic_rules}
use Rattle.semantics.specs.Definitions.Setting.{Setting}
use Rattle.semantics.specs.Definitions.Returned.{Returned, accepted}

-- "at most one head atom in each rule"
abbrev pub SingleHeads : List Rule → Type 0
SingleHeads p = (r : Rule) → r among p → size r.head ≤ 1

-- rules without "not" and "not not" literals
abbrev pub Positive : List Rule → Type 0
Positive p = (r : Rule) → r among p → (r.nots ≡ ∅) × (r.not_nots ≡ ∅)

-- ---- settings: every guess
-- the program of every guess is of such rules
abbrev pub SingleHeadSetting : Setting → Type 0
SingleHeadSetting s = (g : ℕ) → SingleHeads (s.program g)

-- ---- sheets
-- "at most one head atom in each rule"
abbrev pub SingleHeadSheet : Sheet → Type 0
SingleHeadSheet x = (r : EpistemicRule) → r among epistemic_rules x → size r.objective.head ≤ 1

-- ---- the sources of the calls
-- what is accepted has the program of every guess of such rules: `guess_and_set` holds of it
abbrev pub SingleHeadSource : Returned Setting → Type 0
SingleHeadSource from = (s : Setting) → from ≡ accepted s → SingleHeadSetting s
