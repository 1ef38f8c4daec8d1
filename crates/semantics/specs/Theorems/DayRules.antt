-- Document 02, K3: the day's constraints, and the pairs of K7, written into the sheet as rules. Where these and the sheet's own rules are at most
-- 64 together, the answers under masks are those of the sheet so written. Assumes nothing.
-- Here the definitions; the theorems are in proofs/Theorems/DayRules.antt.
use Rattle.std.specs.Prelude.{ℕ, List, ◌++◌, map}
use Rattle.semantics.specs.Definitions.Rules.{Rule}
use Rattle.semantics.specs.Definitions.Sheet.{Sheet}
use Rattle.semantics.specs.Definitions.Check.{opposed}
use Rattle.semantics.specs.Definitions.Day.{day_constraints}
use Rattle.semantics.specs.Words.{eight_masks}

-- the constraints that the pairs and the day's masks are
abbrev pub constraints_under : Sheet → (ins outs : ℕ) → List Rule
constraints_under x ins outs = map opposed x.pairs ++ day_constraints ins outs

-- these as a sheet has them
abbrev pub written_rules : Sheet → (ins outs : ℕ) → List (List ℕ)
written_rules x ins outs = map eight_masks (constraints_under x ins outs)
