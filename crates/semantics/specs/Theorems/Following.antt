-- "Checks go in reading order": what follows the bytes that are read changes nothing. A sheet that is refused stays so, whatever bytes follow,
-- unless it ended too soon; one that is read whole is refused with 6 where bytes follow, and with 1 where it is cut short. Assumes nothing.
-- Here the definitions; the theorems are in proofs/Theorems/Following.antt.
use Prim.Native.Nat.{ℕ, ◌≤◌}
use Rattle.std.specs.Prelude.{◌≡◌, ◌⊎◌}
use mathlib.Core.List.{List, ◌++◌}
use Rattle.std.proofs.Math.ListN.{length}
use Rattle.semantics.specs.Definitions.Reading.{Reading, field, refused}

-- The bytes s, and more that follow.
module _ (s more : List ℕ) where
  abbrev pub longer : List ℕ
  longer = s ++ more

  -- r, of s, and q, of the longer bytes: a field is the same, and ends within s; a refusal is the same, or s ended too soon
  abbrev pub Same : {A : Type 0} → Reading A → Reading A → Type 0
  Same (field v next) q = (next ≤ length s) × (q ≡ field v next)
  Same (refused n p) q = ((n ≡ 1) × (p ≡ length s)) ⊎ (q ≡ refused n p)
