-- Constraints added to any setting: its stable sets that are models of the constraints stay, T and F don't move, and a guess is contradicted
-- where it was or a constraint is sure. Assumes nothing.
-- Here the definitions; the theorems are in proofs/Theorems/Constraints.antt.
use Rattle.std.specs.Prelude.{◌≡◌, List}
use Rattle.sets.specs.Lists.{◌among◌}
use Rattle.sets.specs.Sets.{∅}
use Rattle.semantics.specs.Definitions.Rules.{Rule}
use Rattle.semantics.specs.Definitions.Propagation.{Pair}
use Rattle.semantics.specs.Theorems.Closure.{Sure}

-- rules with empty heads
abbrev pub Constraints : List Rule → Type 0
Constraints cs = (r : Rule) → r among cs → r.head ≡ ∅

-- one of them is sure
abbrev pub SureConstraint : List Rule → Pair → Type 0
SureConstraint cs x = (r : Rule) × (r among cs) × Sure x r
