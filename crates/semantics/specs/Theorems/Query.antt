-- The query, read over the guesses, the world views and their belief sets. Assumes nothing.
-- Here the definitions; the theorems are in proofs/Theorems/Query.antt.
use Rattle.std.specs.Prelude.{ℕ, ◌^◌, ◌<◌}
use Rattle.sets.specs.Lists.{◌among◌}
use Rattle.sets.specs.Sets.{◌∈◌}
use Rattle.semantics.specs.Definitions.Setting.{Setting, k}
use Rattle.semantics.specs.Definitions.Verdict.{belief_sets}
use Rattle.semantics.specs.Theorems.WorldView.{WorldView}

-- P of every belief set of every world view
abbrev pub InAll : Setting → (ℕ → Type 0) → Type 0
InAll s P = (g : ℕ) → g < 2 ^ k s → WorldView s g → (i : ℕ) → i among belief_sets s g → P i

-- ---- the answers
module _ (s : Setting) (a : ℕ) where
  -- in every belief set of every world view; and in none
  abbrev pub KnownInAll : Type 0
  KnownInAll = InAll s (λ i. a ∈ i)

  abbrev pub PossibleInNone : Type 0
  PossibleInNone = InAll s (λ i. a ∈ i → ⊥)
