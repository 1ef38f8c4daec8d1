-- What the loop over the rest of a listing keeps. Assumes nothing.
use Prim.Native.Nat.{ℕ, ◌≤◌}
use mathlib.Core.Path.{◌≡◌}
use mathlib.Core.List.{List}
use lib.ListN.{length}
use Rattle.semantics.specs.Definitions.Setting.{Setting}
use Rattle.semantics.specs.Walk.{walk}
use Rattle.answers.specs.declared.tally.Tally.{Tally}
use Rattle.listing.specs.Walks.{walked_in}
use Rattle.listing.proofs.Along.{passed}

-- after i entries of the list
abbrev pub holds : (s : Setting) (n : ℕ) (order records₀ : List ℕ) (i : ℕ) (records : List ℕ) → Tally → Type 0
holds s n order records₀ i records tally =
    (i ≤ length order) × (length records ≡ length records₀) × (walked_in tally records ≡ walk s (passed n order i))
