-- `candidates::support::support_by` meets its contract. Assumes nothing.
use Rattle.candidates.proofs.Lanes.{AddedBut}
use Rattle.candidates.proofs.support.support_by.Given as goal

abbrev pub invariant-loop-a : goal.invariant-loop-a
invariant-loop-a l = AddedBut l.r l.w l.initial.by l.a-iterator.rest l.by
