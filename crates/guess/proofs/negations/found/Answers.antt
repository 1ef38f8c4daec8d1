-- `guess::negations::found` meets its contract. Assumes nothing.
use native.Mathlib.Omega.{arith}
use mathlib.Core.Path.{refl, ap, ◌∙◌}
use mathlib.Core.Bool.{not}
use Rattle.sets.specs.Sets.{set_of}
use Rattle.guess.proofs.Turns.{at_first, at_next, at_end, found_next}
use Rattle.guess.proofs.negations.found.Goals as goal

pub loop-a-init : goal.loop-a-init
unfolding set_of
loop-a-init c = (at_first _, refl)

pub loop-a-preserved : goal.loop-a-preserved
loop-a-preserved c =
    let l = c.loop-a in
    let h = c.loop-a-test.true in
    let a = c.args in
    let k = c.has-k.ensures in
    let n = c.from-j.ensures in
    let m = c.has-m.ensures in
    let n' = c.from-j-in-loop-a.ensures in
    let i = ap not c.has-unknown.ensures in
    let i' = c.has-may.ensures in
    let g = c.include-guess.ensures in (
      at_next a.x l.invariant.0 h k n m n' c.requires,
      found_next a.x l.invariant.0 h k n m n' a.known a.possible i i' l.invariant.1 g c.include-guess-in-loop-a.ensures,
    )

pub returns : goal.returns
returns c =
    let inv = c.loop-a.invariant in
    inv.1 ∙ ap (set_of _) (at_end c.args.x inv.0 (omega (arith, c.loop-a-test.false)))
