-- The rules at a set of atoms, by their digests: those that fail there whatever the guess, and the atoms that they support. Assumes nothing.
use Rattle.std.specs.Prelude.{ℕ, ◌+◌, ◌*◌, ◌<◌, ◌≡◌, List, get_or}
use Rattle.sets.specs.Sets.{◌∈◌, ◌∪◌, ◌∖◌, ∅, single}
use Rattle.lanes.specs.Cube.{InCube}
use Rattle.gather.specs.declared.digest.Digest.{Digest}
use Rattle.gather.specs.Digests.{digest_in}

-- the rule has no K and M, its body holds in i, and no head atom is in i
pub record Fails (d : Digest) (i : ℕ) : Type 0 where
  pub objective : d.barred ∪ d.asked ≡ ∅
  pub fails : InCube (d.nots ∪ d.head) d.body i

-- its body holds in i but for K and M, its K atoms are in i too, and a is its only head atom in i, and not among its plain and K atoms
pub record Supports (d : Digest) (i a : ℕ) : Type 0 where
  pub atom : a ∈ d.head ∖ d.plain
  pub alone : InCube (d.nots ∪ (d.head ∖ single a)) (d.body ∪ d.plain ∪ single a) i

-- none of the first n rules fails in i
pub record NoneFails (digests : List Digest) (n i : ℕ) : Type 0 where
  pub rule : (j : ℕ) → j < n → Fails (digest_in digests j) i → ⊥

-- ---- by atom, some lanes of word w
-- the lanes stay, and with them are those in which the rule supports the atom
pub record SupportAdded (d : Digest) (w : ℕ) (by after : List ℕ) : Type 0 where
  pub kept : (a : ℕ) {b : ℕ} → b ∈ get_or by a 0 → b ∈ get_or after a 0
  pub added : {a b : ℕ} → b < 64 → Supports d (64 * w + b) a → b ∈ get_or after a 0

-- among the lanes are those in which one of the first n rules supports the atom
pub record SupportsIn (digests : List Digest) (n w : ℕ) (by : List ℕ) : Type 0 where
  pub rule : {j a b : ℕ} → j < n → b < 64 → Supports (digest_in digests j) (64 * w + b) a → b ∈ get_or by a 0

-- lane b is there for each atom of i below n
pub record Supported (by : List ℕ) (n i b : ℕ) : Type 0 where
  pub atom : (a : ℕ) → a < n → a ∈ i → b ∈ get_or by a 0
