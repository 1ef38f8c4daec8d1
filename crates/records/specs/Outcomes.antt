-- What a guess counts as, and the six counts, as the code has them. Assumes nothing.
use Rattle.std.specs.Prelude.{ℕ, ◌≡◌, false}
use Rattle.semantics.specs.Definitions.Setting.{Setting}
use Rattle.semantics.specs.Definitions.Verdict.{verdict}
use Rattle.semantics.specs.Definitions.Propagation.{contradicted}
use Rattle.semantics.specs.Definitions.Listing.{Tally}
use Rattle.semantics.specs.Walk as walk
use Rattle.answers.specs.declared.tally.Tally.{Tally as Counts}
use Rattle.records.specs.declared.outcome.Outcome.{Outcome}
use Rattle.records.specs.declared.outcome.Outcome.TheVariants.{Covered, Ruled, Empty, Other, View}
use Rattle.records.specs.Records.{view_from}

-- the tally that the counts of the code stand for
abbrev pub tally_from : Counts → Tally
tally_from t = record { views = t.views; covered = t.covered; ruled = t.ruled; tested = t.tested; empty = t.empty; other = t.other }

-- the outcome that the code's stands for
abbrev pub outcome_from : Outcome → walk.Outcome
outcome_from Covered = walk.Covered
outcome_from Ruled = walk.Ruled
outcome_from Empty = walk.Empty
outcome_from Other = walk.Other
outcome_from (View v) = walk.IsView (view_from v)

-- what a guess that is not covered counts as
abbrev pub ExaminedAs : Setting → (guess : ℕ) → walk.Outcome → Type 0
ExaminedAs s g o = o ≡ walk.outcome_by g false (contradicted s g) (verdict s g)
