-- Document 02, K7: "A pair acts as a constraint with both atoms plain [..] in every definition including ruling out." Of any sheet and guess: the
-- belief sets are those of the sheet without its pairs that have not both atoms of a pair; T and F don't move; and the guess is contradicted where
-- it was, or where both atoms of a pair are in T. Assumes nothing.
-- Here the definitions; the theorems are in proofs/Theorems/Opposites.antt.
use Rattle.std.specs.Prelude.{ℕ, List}
use Rattle.sets.specs.Lists.{◌among◌}
use Rattle.sets.specs.Sets.{◌∈◌}
use Rattle.semantics.specs.Definitions.Sheet.{Opposites}
use Rattle.semantics.specs.Definitions.Propagation.{Pair}

-- ---- the constraint that a pair is
-- both atoms of the pair are in the set
abbrev pub BothIn : Opposites → ℕ → Type 0
BothIn p i = (p.first ∈ i) × (p.second ∈ i)

module _ (pairs : List Opposites) where
  -- not both atoms of one of the pairs
  abbrev pub NeverBoth : ℕ → Type 0
  NeverBoth i = (p : Opposites) → p among pairs → BothIn p i → ⊥

  -- such a constraint is sure exactly where both atoms are in T
  abbrev pub BothSure : Pair → Type 0
  BothSure x = (p : Opposites) × (p among pairs) × BothIn p x.T
