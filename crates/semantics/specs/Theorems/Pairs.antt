-- What a good pair is, that the reading's test decides it, and that pairs are good one after the other exactly when their atoms are atoms of
-- the sheet and no atom stands twice among them. Assumes nothing.
-- Here the definitions; the theorems are in proofs/Theorems/Pairs.antt.
use Prim.Native.Nat.{ℕ, ◌<◌}
use Rattle.std.specs.Prelude.{◌≡◌, List}
use Rattle.sets.specs.Lists.{◌among◌}
use Rattle.sets.specs.Pairwise.{Distinct}
use Rattle.semantics.specs.Definitions.Sheet.{Opposites, atoms_of}

-- none of "an atom number not below the atom count, one atom twice in a pair or an atom of an earlier pair"
pub record GoodPair (atoms : ℕ) (earlier : List Opposites) (p : Opposites) : Type 0 where
  pub first_below : p.first < atoms
  pub second_below : p.second < atoms
  pub differ : p.first ≡ p.second → ⊥
  pub first_new : p.first among atoms_of earlier → ⊥
  pub second_new : p.second among atoms_of earlier → ⊥

-- pairs one by one apart: their atoms are atoms of the sheet, and no atom stands twice, in one pair or in two
pub record Disjoint (atoms : ℕ) (pairs : List Opposites) : Type 0 where
  pub below : (a : ℕ) → a among atoms_of pairs → a < atoms
  pub once : Distinct (atoms_of pairs)
