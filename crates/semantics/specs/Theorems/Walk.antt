-- The walk along any list that enumerates the guesses, larger ones first, meets exactly the views of the world views, in the list's order,
-- and its six numbers are those of the definitions. Assumes nothing.
-- Here the definitions; the theorems are in proofs/Theorems/Walk.antt.
use Rattle.std.specs.Prelude.{ℕ, Bool}
use mathlib.Core.List.{List}
use Rattle.sets.specs.Lists.{some}
use Rattle.sets.specs.Sets.{◌⊂?◌}
use Rattle.semantics.specs.Definitions.Setting.{Setting}
use Rattle.semantics.specs.Definitions.Listing.{Tally, is_world_view, covered, ruled, tested, tested_empty, tested_other, views_along}

-- ---- the step by tests
-- the six numbers, by how guesses of a name are counted
abbrev pub tally_by : Setting → ((ℕ → Bool) → ℕ) → Tally
tally_by s count = record {
  views = count (is_world_view s);
  covered = count (covered s);
  ruled = count (ruled s);
  tested = count (tested s);
  empty = count (tested_empty s);
  other = count (tested_other s);
}

module _ (s : Setting) where
  -- it sees a view that covers g
  abbrev pub seen : List ℕ → ℕ → Bool
  seen d g = some (λ v. g ⊂? v.guess) (views_along s d)
