-- `ruling::literals::in_all` meets its contract. Assumes nothing.
use Rattle.ruling.specs.Literals.{AtAtom, EveryBut}
use Rattle.ruling.proofs.literals.in_all.Given as goal

abbrev pub invariant-loop-a : goal.invariant-loop-a
invariant-loop-a l = EveryBut (AtAtom l.row) l.mask l.a-iterator.rest l.lanes
