-- Document 02, K6: the least model grown is closed under the rules and within every set that is. Assumes nothing.
-- Here the definitions; the theorems are in proofs/Theorems/LeastModel.antt.
use Prim.Native.Nat.{ℕ}
use Rattle.std.specs.Prelude.{List}
use Rattle.sets.specs.Lists.{◌among◌}
use Rattle.sets.specs.Sets.{◌⊆◌}
use Rattle.semantics.specs.Definitions.Rules.{Rule}

-- what enters by x is in x
abbrev pub Closed : List Rule → ℕ → Type 0
Closed p x = (r : Rule) → r among p → r.plain ⊆ x → r.head ⊆ x

-- the least closed set
pub record Least (p : List Rule) (l : ℕ) : Type 0 where
  pub closed : Closed p l
  pub least : {x : ℕ} → Closed p x → l ⊆ x
