-- A source with one check more, and the sheet as a source: exactly when each is accepted and when it is refused; and the limits of a source.
-- Assumes nothing.
-- Here the definitions; the theorems are in proofs/Theorems/Source.antt.
use Rattle.std.specs.Prelude.{ℕ, ◌≤◌, ◌<◌, ◌≡◌, Bool, false}
use Rattle.semantics.specs.Definitions.Sheet.{most_atoms}
use Rattle.semantics.specs.Definitions.Setting.{Setting, k}
use Rattle.semantics.specs.Definitions.Check.{most_negations}
use Rattle.semantics.specs.Definitions.Returned.{Returned, accepted, refusal}

-- ---- one check more
module _ (passed : Setting → Bool) (number place : ℕ) where
  module _ (from : Returned Setting) where
    -- the check is not passed, and these are the number and place of its refusal
    abbrev pub NotProvided : (m q : ℕ) → Type 0
    NotProvided m q = (s : Setting) × (from ≡ accepted s) × (passed s ≡ false) × (m ≡ number) × (q ≡ place)

-- ---- a number that has to be below a bound
-- s is the setting of the source, and n is below the bound
pub record BelowOf (bound : Setting → ℕ) (from : Returned Setting) (n : ℕ) (s : Setting) : Type 0 where
  pub of : from ≡ accepted s
  pub below : n < bound s

module _ (bound : Setting → ℕ) (number : ℕ) (from : Returned Setting) (n : ℕ) where
  -- the number is not below the bound
  abbrev pub NotBelow : (m place : ℕ) → Type 0
  NotBelow m place = (s : Setting) × (from ≡ accepted s) × (bound s ≤ n) × (m ≡ number) × (place ≡ 0)

-- ---- limits
-- A source within the limits of a sheet: few atoms and negations; and refusals whose numbers and places the desk call can tell apart
pub record Bounded (from : Returned Setting) : Type 0 where
  pub few_atoms : (s : Setting) → from ≡ accepted s → s.atoms ≤ most_atoms
  pub few_negations : (s : Setting) → from ≡ accepted s → k s ≤ most_negations
  pub told_apart : (number place : ℕ) → from ≡ refusal number place → (1 ≤ number) × (place < 65536)
