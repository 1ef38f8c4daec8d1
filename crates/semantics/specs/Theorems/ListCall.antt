-- What the listing returns, for every source and number of words. Assumes nothing.
-- Here the definitions; the theorems are in proofs/Theorems/ListCall.antt.
use Rattle.std.specs.Prelude.{ℕ, ◌<◌, ◌≡◌, length}
use Rattle.semantics.specs.Definitions.Setting.{Setting}
use Rattle.semantics.specs.Definitions.Returned.{Returned, accepted}
use Rattle.semantics.specs.Definitions.Listing.{listing}

-- the result of a listing into so many words, whatever the views need
module _ (needed : ℕ → ℕ) (from : Returned Setting) (words : ℕ) where
  -- what the views need is over the words
  abbrev pub TooManyViews : (number place : ℕ) → Type 0
  TooManyViews number place = (s : Setting) × (from ≡ accepted s) × (words < needed (length (listing s))) × (number ≡ 9) × (place ≡ length (listing s))
