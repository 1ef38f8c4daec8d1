-- `candidates::support::support_by` meets its contract. Assumes nothing.
use native.Mathlib.Omega.{arith}
use Rattle.candidates.proofs.Lanes.{none-added, atom_added, all_added}
use Rattle.candidates.proofs.support.support_by.Goals as goal

pub loop-a-init : goal.loop-a-init
loop-a-init c =
    let a = c.args in
    rw (c.into_iter-a-iterator.ensures.into_iter_gives, c.members-a-items.ensures) (none-added a.r a.w a.by.now c.minus.ensures)

pub loop-a-preserved : goal.loop-a-preserved
loop-a-preserved c =
    let a = c.args in
    let s = c.in-Some.ensures.steps in
    rw s.others (atom_added a.r a.w a.by.now c.loop-a.invariant s.least (omega (arith, s.within)) c.power-one.ensures c.minus-in-loop-a.ensures c.cube-sets.ensures)

pub returns : goal.returns
returns c = let a = c.args in all_added a.r a.w a.by.now c.in-None.ensures.steps c.loop-a.invariant
