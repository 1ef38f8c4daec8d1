-- `search::supported::supported` meets its contract. Assumes nothing.
use lib.ListN.{length}
use Rattle.sets.specs.Members.{⊆_refl, ⊆_trans, ∩_⊆_left}
use Rattle.search.specs.Supported.{kept_all, kept_more}
use Rattle.search.proofs.supported.supported.Goals as goal

pub loop-a-init : goal.loop-a-init
loop-a-init c =
    let a = c.args in
    rw (c.into_iter-a-iterator.ensures.into_iter_gives, c.members-a-items.ensures)
    (⊆_refl, c.support-by.ensures, kept_all a.rules.now a.on.now a.i (length a.rules.now) a.lanes)

pub loop-a-preserved : goal.loop-a-preserved
loop-a-preserved c =
    let a = c.args in
    let l = c.loop-a in
    let s = c.in-Some.ensures.steps in
    rw s.others (
      ⊆_trans (∩_⊆_left l.a-iterator.rest _) l.invariant.0,
      l.invariant.1,
      kept_more a.rules.now a.on.now a.i l.invariant.1 (l.invariant.0.into s.least.is_in) l.invariant.2,
    )
