-- The minutes of change: which they are, that they rise and are few, and that between two of them the rules in force stay the same.
-- Assumes nothing.
-- Here the definitions; the theorems are in proofs/Theorems/Changes.antt.
use Prim.Native.Nat.{ℕ, ◌<◌}
use Rattle.std.specs.Prelude.{◌≡◌, List}
use Rattle.semantics.specs.Definitions.Calendar.{Entry, in_force, earlier}

-- ---- two tests that do not agree below n differ at some number below n
module _ (entries : List Entry) (rules : ℕ) where
  -- "the rules in force, told apart by number, differ from those a minute earlier"
  abbrev pub Changes : (minute : ℕ) → Type 0
  Changes minute = (i : ℕ) × (i < rules) × (in_force entries minute i ≡ in_force entries (earlier minute) i → ⊥)
