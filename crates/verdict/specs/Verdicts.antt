-- The verdict on a guess, and what the pass gathers, as the code has them. Assumes nothing.
use Rattle.semantics.specs.Definitions.Verdict as meant
use Rattle.semantics.specs.Definitions.Pass as pass
use Rattle.verdict.specs.declared.Verdict.{Verdict}
use Rattle.verdict.specs.declared.Verdict.TheVariants.{Empty, Other, Verified}
use Rattle.verdict.specs.declared.pass.Gathered.{Gathered}

-- the verdict that an answer stands for
abbrev pub verdict_of : Verdict → meant.Verdict
verdict_of Empty = meant.empty
verdict_of (Other found) = meant.other found
verdict_of (Verified known possible sets) = meant.verified known possible sets

-- what was gathered, and in how many tests
abbrev pub gathered_by : Gathered → pass.Gathered
gathered_by y = record { known = y.known; possible = y.possible; sets = y.sets; tests = y.tests }
