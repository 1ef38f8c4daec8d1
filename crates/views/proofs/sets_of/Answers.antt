-- `views::sets_of` is safe: the belief sets that were counted stand in the words lent, and they are not refused. Assumes nothing.
use Prim.Native.Nat.{◌≤◌}
use mathlib.Core.Path.{refl}
use native.Mathlib.Omega.{arith}
use lib.ListN.{length}
use lib.Seq.{length-take-le}
use Rattle.views.proofs.Refusals.{sets-fit}
use Rattle.views.proofs.sets_of.Goals as goal

pub slice_bounds-each_set-end : goal.slice_bounds-each_set-end
slice_bounds-each_set-end c =
    let sets = c.belief_sets.new.out in
    let within : c.in-Ok.count ≤ length sets = omega (arith, (c.in-Ok.ensures.sets_demand.sets-written _ refl).fits) in
    omega (arith, within, length-take-le c.in-Ok.count sets within)

pub unreachable-requires : goal.unreachable-requires
unreachable-requires c =
    let a = c.args in
    let (s, h) = c.requires in
    sets-fit a.sheet.now a.guess h _ _ c.in-Err.ensures.sets_demand (omega arith) refl
