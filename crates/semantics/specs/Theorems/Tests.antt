-- The tests of a listing, on its way along any list that enumerates the guesses, larger ones first: once the guesses d are passed, and the next
-- one would be tested or none is left, what was met is what the first tests meet. Assumes nothing.
-- Here the definitions; the theorems are in proofs/Theorems/Tests.antt.
use Rattle.std.specs.Prelude.{ℕ, ◌≡◌, Bool, not, List, length, take, drop}
use Rattle.sets.specs.Lists.{null, keep}
use Rattle.semantics.specs.Definitions.Setting.{Setting}
use Rattle.semantics.specs.Definitions.Listing.{tested, View, views_along}

-- a listing along the guesses l that stands where n tests are spent: what it tested and met, and whether a guess waits for a test
pub record StandsAt (s : Setting) (l : List ℕ) (n tests : ℕ) (met : List View) (waits : Bool) : Type 0 where
  pub tests_are : tests ≡ length (take n (keep (tested s) l))
  pub met_are : met ≡ views_along s (take n (keep (tested s) l))
  pub waits_where : waits ≡ not (null (drop n (keep (tested s) l)))
