-- `sets::has_and_lacks` meets its contract. Assumes nothing.
use mathlib.Core.Path.{ap, ◌∙◌}
use lib.Dec.{eqb}
use Rattle.sets.specs.Sets.{◌∩◌, ◌∪◌, ∅}
use Rattle.sets.specs.Members.{has_and_lacks}
use Rattle.sets.proofs.has_and_lacks.Goals as goal

pub returns : goal.returns
returns c =
    let a = c.args in
    ap (λ z. eqb (z ∪ a.y ∩ a.i) ∅) c.minus.ensures ∙ has_and_lacks a.i a.x a.y
