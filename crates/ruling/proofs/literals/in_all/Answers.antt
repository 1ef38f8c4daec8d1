-- `ruling::literals::in_all` meets its contract. Assumes nothing.
use Rattle.lanes.specs.Lanes.{lanes_self}
use Rattle.ruling.specs.Literals.{AtAtom, every_starts, every_more, every_ends}
use Rattle.ruling.proofs.literals.in_all.Goals as goal

pub loop-a-init : goal.loop-a-init
loop-a-init c = rw (c.into_iter-a-iterator.ensures.into_iter_gives, c.members-a-items.ensures) (every_starts _ _)

pub loop-a-preserved : goal.loop-a-preserved
loop-a-preserved c =
    let s = c.in-Some.ensures.steps in
    rw s.others (every_more (AtAtom c.args.row.now) c.args.mask s.least lanes_self c.loop-a.invariant)

pub returns : goal.returns
returns c = every_ends _ _ c.in-None.ensures.steps c.loop-a.invariant
