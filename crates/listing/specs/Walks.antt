-- The walk along a list of guesses, as the code holds it: counts, and records in words. Assumes nothing.
use Rattle.std.specs.Prelude.{ℕ, ◌≡◌, List}
use Rattle.semantics.specs.Definitions.Setting.{Setting, k}
use Rattle.semantics.specs.Definitions.Order.{members_below}
use Rattle.semantics.specs.Definitions.Listing.{Tally, tally_of, View, views_along}
use Rattle.semantics.specs.Walk.{Walked}
use Rattle.answers.specs.declared.tally.Tally.{Tally as Counts}
use Rattle.records.specs.Records.{views_in}
use Rattle.records.specs.Outcomes.{tally_from}

-- what the counts and the records stand for
abbrev pub walked_in : Counts → List ℕ → Walked
walked_in t ws = record { met = views_in ws t.views; tally = tally_from t }

-- the listing along a list of guesses
abbrev pub ListingAlong : Setting → List ℕ → Tally → List View → Type 0
ListingAlong s l t vs = (t ≡ tally_of s) × (vs ≡ views_along s (members_below (k s) l))
