-- `ruling::contradiction::clashes` meets its contract. Assumes nothing.
use Rattle.lanes.specs.Lanes.{lanes_self, lanes_is, lanes_or, lanes_and, lanes_minus}
use Rattle.ruling.specs.Literals.{some_starts, some_more, some_ends}
use Rattle.ruling.specs.Contradiction.{ClashAt}
use Rattle.ruling.proofs.contradiction.clashes.Goals as goal

pub loop-a-init : goal.loop-a-init
loop-a-init c = rw (c.into_iter-a-iterator.ensures.into_iter_gives, c.members-a-items.ensures) (some_starts _ _)

pub loop-a-preserved : goal.loop-a-preserved
loop-a-preserved c =
    let a = c.args in
    let s = c.in-Some.ensures.steps in
    rw s.others (some_more (ClashAt a.assumed.now a.with.now a.without.now) a.mask s.least
    (lanes_or (lanes_and lanes_self lanes_self) (lanes_is c.minus.ensures (lanes_minus lanes_self lanes_self))) c.loop-a.invariant)

pub returns : goal.returns
returns c = some_ends _ _ c.in-None.ensures.steps c.loop-a.invariant
