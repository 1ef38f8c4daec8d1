-- `ruling::literals::in_some` meets its contract. Assumes nothing.
use Rattle.ruling.specs.Literals.{AtAtom, SomeBut}
use Rattle.ruling.proofs.literals.in_some.Given as goal

abbrev pub invariant-loop-a : goal.invariant-loop-a
invariant-loop-a l = SomeBut (AtAtom l.row) l.mask l.a-iterator.rest l.lanes
