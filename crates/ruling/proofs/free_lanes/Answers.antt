-- `ruling::free_lanes` meets its contract. Assumes nothing.
use mathlib.Core.Path.{ap₂, ◌∙◌}
use Rattle.sets.specs.Sets.{◌∖◌}
use Rattle.ruling.proofs.Ruled.{free_word}
use Rattle.ruling.proofs.free_lanes.Goals as goal

pub returns : goal.returns
returns c =
    let pre = c.requires in
    free_word pre.0 pre.1 c.assume.ensures c.assume-2.ensures pre.2
    (c.minus.ensures ∙ ap₂ (λ u v. u ∖ v) c.full.ensures c.full-2.ensures) c.cube-guesses.ensures c.contradicted-bad.ensures c.minus-2.ensures
