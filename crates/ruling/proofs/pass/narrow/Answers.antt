-- `ruling::pass::narrow` meets its contract. Assumes nothing.
use mathlib.Core.Path.{subst, ◌∙◌}
use native.Mathlib.Omega.{arith}
use lib.ListN.{length-set}
use Rattle.ruling.specs.Pass.{Narrowed, narrow_none, narrow_more}
use Rattle.ruling.proofs.pass.narrow.Goals as goal

pub loop-a-init : goal.loop-a-init
loop-a-init c = rw (c.into_iter-a-iterator.ensures.into_iter_gives, c.members-a-items.ensures) (omega arith, narrow_none)

pub loop-a-preserved : goal.loop-a-preserved
loop-a-preserved c =
    let l = c.loop-a in
    let s = c.in-Some.ensures.steps in
    rw s.others (length-set l.shut _ _ ∙ l.invariant.0, narrow_more (omega (arith, s.within, l.invariant.0)) s.least l.invariant.1)

pub returns : goal.returns
returns c =
    let l = c.loop-a in
    let a = c.args in
    subst (λ z. Narrowed a.head z a.lanes a.shut.now l.shut) c.in-None.ensures.steps l.invariant.1
