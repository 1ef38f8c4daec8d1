-- Document 02, K3: the masks are the constraints. Assumes nothing.
-- Here the definitions; the theorems are in proofs/Theorems/Day.antt.
use Rattle.std.specs.Prelude.{ℕ, List}
use Rattle.sets.specs.Lists.{keep}
use Rattle.sets.specs.Sets.{◌⊆◌, Meets}
use Rattle.semantics.specs.Definitions.Setting.{Setting}
use Rattle.semantics.specs.Definitions.Verdict.{belief_sets}
use Rattle.semantics.specs.Definitions.Day.{allowed}

module _ (ins outs : ℕ) where
  -- ---- a set: it has every in-atom and no out-atom
  abbrev pub Allowed : ℕ → Type 0
  Allowed i = (ins ⊆ i) × (Meets outs i → ⊥)

  -- ---- ruling out: "← not a" is sure when a is in F, "← a" when a is in T
  module _ (s : Setting) (g : ℕ) where
    -- ---- belief sets and verdict
    -- those of the belief sets that have every in-atom and no out-atom
    abbrev pub sets_under : List ℕ
    sets_under = keep (allowed ins outs) (belief_sets s g)
