-- `candidates::support::all_supported` meets its contract. Assumes nothing.
use mathlib.Core.Path.{◌≡◌, ap, subst, ◌∙◌}
use native.Mathlib.Omega.{arith}
use Rattle.sets.specs.Sets.{◌∖◌}
use Rattle.lanes.specs.Lanes.{lanes_is}
use Rattle.candidates.proofs.Lanes.{With, none_with, atom_with}
use Rattle.candidates.proofs.support.all_supported.Goals as goal

pub loop-a-init : goal.loop-a-init
loop-a-init c = let a = c.args in none_with a.by.now a.w a.lanes

pub loop-a-preserved : goal.loop-a-preserved
loop-a-preserved c =
    let l = c.loop-a in
    let a = c.args in
    let e = c.minus-left.ensures ∙ ap (λ z. l.left ∖ z) c.minus.ensures in
    lanes_is e (atom_with a.by.now a.w a.lanes l.a l.invariant c.power.ensures c.cube-having.ensures)

pub returns : goal.returns
returns c =
    let l = c.loop-a in
    let a = c.args in
    let e : l.a ≡ a.atoms = omega arith in
    subst (λ k. With a.by.now a.w a.lanes k l.left) e l.invariant
