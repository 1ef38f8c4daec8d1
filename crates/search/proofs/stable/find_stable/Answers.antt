-- `search::stable::find_stable` meets its contract. Assumes nothing.
use native.Mathlib.Omega.{arith}
use lib.ListN.{length, length-set}
use Rattle.lanes.specs.Planes.{◌in_plane◌, until_more, word_with}
use Rattle.lanes.specs.Stable.{StableFor}
use borrow.Author.Rules.{rules}
use Rattle.search.proofs.stable.find_stable.Goals as goal

pub loop-w-preserved : goal.loop-w-preserved
loop-w-preserved c =
    let l = c.loop-w in
    let a = c.args in
    let x = word_with (λ g. g in_plane a.plane.now) (StableFor a.rules.now (length a.rules.now) a.i) l.w (l.invariant.2.left (omega arith)) c.stable_lanes.ensures in
    (search rules, simp length-set l.invariant.1, until_more _ _ l.w _ l.plane (omega arith) l.invariant.2 x)
