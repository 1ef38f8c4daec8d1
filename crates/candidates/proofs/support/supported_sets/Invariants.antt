-- `candidates::support::supported_sets` meets its contract. Assumes nothing.
use Rattle.candidates.specs.Rules.{SupportsIn}
use Rattle.candidates.proofs.support.supported_sets.Given as goal

abbrev pub invariant-loop-r : goal.invariant-loop-r
invariant-loop-r l = SupportsIn l.digests l.r-index l.w l.by
