-- `search::supported::add` meets its contract. Assumes nothing.
use native.Mathlib.Omega.{arith}
use Rattle.sets.specs.Members.{⊆_refl, ⊆_trans, ∩_⊆_left}
use Rattle.search.specs.Supported.{added_first, added_next, added_last}
use Rattle.search.proofs.supported.add.Goals as goal

pub loop-a-init : goal.loop-a-init
loop-a-init c =
    let a = c.args in
    rw (c.into_iter-a-iterator.ensures.into_iter_gives, c.members-a-items.ensures) (⊆_refl, added_first a.atoms a.lanes a.by.now)

pub loop-a-preserved : goal.loop-a-preserved
loop-a-preserved c =
    let a = c.args in
    let l = c.loop-a in
    let s = c.in-Some.ensures.steps in
    rw s.others (
      ⊆_trans (∩_⊆_left l.a-iterator.rest _) l.invariant.0,
      added_next a.atoms a.lanes a.by.now s.least (omega (arith, s.within)) l.invariant.0 l.invariant.1,
    )

pub returns : goal.returns
returns c = let a = c.args in added_last a.atoms a.lanes a.by.now c.in-None.ensures.steps c.loop-a.invariant.1
