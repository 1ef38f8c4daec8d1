-- Names, rules and pairs that fit a sheet are read off the bytes that they have by the layout. Assumes nothing.
-- Here the definitions; the theorems are in proofs/Theorems/Fitting.antt.
use Prim.Native.Nat.{ℕ}
use Rattle.std.specs.Prelude.{◌≡◌}
use mathlib.Core.List.{List, ◌++◌}
use Rattle.std.proofs.Math.ListN.{drop}

-- ---- bytes
module _ (s : List ℕ) where
  -- from the place `at` the bytes bs stand in s, and then the others
  abbrev pub Stands : (at : ℕ) (bs others : List ℕ) → Type 0
  Stands at bs others = drop at s ≡ bs ++ others
