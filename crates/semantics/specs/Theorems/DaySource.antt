-- A source under the day's masks: 13 exactly by its condition, and otherwise the setting with the constraints added. Assumes nothing.
-- Here the definitions; the theorems are in proofs/Theorems/DaySource.antt.
use Rattle.std.specs.Prelude.{ℕ, ◌≤◌, ◌<◌, ◌≡◌, ◌⊎◌}
use Rattle.sets.specs.Sets.{◌∈◌}
use Rattle.semantics.specs.Definitions.Setting.{Setting}
use Rattle.semantics.specs.Definitions.Returned.{Returned, accepted}

-- ---- the masks
-- of n atoms: every in-atom and every out-atom is one of them, and none is both
pub record MasksFit (ins outs n : ℕ) : Type 0 where
  pub in_below : (a : ℕ) → a ∈ ins → a < n
  pub out_below : (a : ℕ) → a ∈ outs → a < n
  pub apart : (a : ℕ) → a ∈ ins → a ∈ outs → ⊥

-- "a mask bit at or above the atom count or an atom in both masks"
abbrev pub MasksBad : (ins outs n : ℕ) → Type 0
MasksBad ins outs n = (((a : ℕ) × (a ∈ ins) × (n ≤ a)) ⊎ ((a : ℕ) × (a ∈ outs) × (n ≤ a))) ⊎ ((a : ℕ) × (a ∈ ins) × (a ∈ outs))

-- ---- the source
module _ (from : Returned Setting) (ins outs : ℕ) where
  -- the source is accepted, and the masks are bad
  abbrev pub BadMasks : (number place : ℕ) → Type 0
  BadMasks number place = (t : Setting) × (from ≡ accepted t) × MasksBad ins outs t.atoms × (number ≡ 13) × (place ≡ 0)
