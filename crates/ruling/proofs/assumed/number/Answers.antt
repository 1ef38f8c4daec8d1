-- `ruling::assumed::number` meets its contract. Assumes nothing.
use mathlib.Core.Path.{ap, ap₂, ◌∙◌}
use Rattle.sets.specs.Sets.{◌∖◌, ∅}
use Rattle.guess.specs.Negations.{found_by}
use native.Mathlib.Omega.{arith}
use lib.ListN.{length-set}
use Rattle.ruling.specs.Assumed.{numbers_more}
use Rattle.ruling.proofs.assumed.number.Goals as goal

pub loop-a-preserved : goal.loop-a-preserved
loop-a-preserved c =
    let x = c.args.x in
    let l = c.loop-a in
    let all = c.full-all.ensures in
    let one = c.power-one.ensures in (
      simp length-set l.invariant.0,
      simp length-set l.invariant.1,
      numbers_more x (omega (arith, l.invariant.0, c.requires.0, c.loop-a-test.true)) (omega (arith, l.invariant.1, c.requires.0, c.loop-a-test.true))
          (c.found.ensures ∙ ap (λ z. found_by x z ∅) (c.minus.ensures ∙ ap₂ (λ u v. u ∖ v) all one)) (c.found-in-loop-a.ensures ∙ ap₂ (found_by x) all one) l.invariant.2,
    )
