-- `ruling::literals::in_some` meets its contract. Assumes nothing.
use native.Mathlib.Omega.{arith}
use Rattle.lanes.specs.Lanes.{lanes_self}
use Rattle.ruling.specs.Literals.{AtAtom, some_starts, some_more, some_ends}
use Rattle.ruling.proofs.literals.in_some.Goals as goal

pub loop-a-init : goal.loop-a-init
loop-a-init c = rw (c.into_iter-a-iterator.ensures.into_iter_gives, c.members-a-items.ensures) (some_starts _ _)

pub loop-a-preserved : goal.loop-a-preserved
loop-a-preserved c =
    let s = c.in-Some.ensures.steps in
    rw s.others (some_more (AtAtom c.args.row.now) c.args.mask s.least lanes_self c.loop-a.invariant)

pub returns : goal.returns
returns c = (some_ends _ _ c.in-None.ensures.steps c.loop-a.invariant, omega (arith, c.ranges))
