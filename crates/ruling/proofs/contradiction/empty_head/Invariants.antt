-- `ruling::contradiction::empty_head` meets its contract. Assumes nothing.
use Rattle.lanes.specs.Lanes.{Lanes}
use Rattle.ruling.specs.Contradiction.{EmptyHeadIn}
use Rattle.ruling.proofs.contradiction.empty_head.Given as goal

abbrev pub invariant-loop-j : goal.invariant-loop-j
invariant-loop-j l = Lanes (EmptyHeadIn l.words l.j l.truths l.falsities) l.lanes
