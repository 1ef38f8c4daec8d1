-- `candidates::support::all_supported` meets its contract. Assumes nothing.
use Rattle.candidates.proofs.Lanes.{With}
use Rattle.candidates.proofs.support.all_supported.Given as goal

abbrev pub invariant-loop-a : goal.invariant-loop-a
invariant-loop-a l = With l.by l.w l.lanes l.a l.left
