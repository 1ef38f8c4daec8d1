-- `candidates::objective_models` meets its contract. Assumes nothing.
use Rattle.candidates.proofs.Lanes.{Left}
use Rattle.candidates.proofs.objective_models.Given as goal

abbrev pub invariant-loop-r : goal.invariant-loop-r
invariant-loop-r l = Left l.digests l.w l.lanes l.r-index l.left
