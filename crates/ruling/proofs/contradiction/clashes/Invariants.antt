-- `ruling::contradiction::clashes` meets its contract. Assumes nothing.
use Rattle.ruling.specs.Literals.{SomeBut}
use Rattle.ruling.specs.Contradiction.{ClashAt}
use Rattle.ruling.proofs.contradiction.clashes.Given as goal

abbrev pub invariant-loop-a : goal.invariant-loop-a
invariant-loop-a l = SomeBut (ClashAt l.assumed l.with l.without) l.mask l.a-iterator.rest l.lanes
