-- `stable::reduced::applies` meets its contract. Assumes nothing.
use mathlib.Core.Path.{◌∙◌}
use Rattle.semantics.specs.Words.{rule_in}
use Rattle.stable.specs.Search.{applies_by}
use Rattle.stable.proofs.reduced.applies.Goals as goal

pub returns : goal.returns
returns c =
    let a = c.args in
    c.has_and_lacks.ensures ∙ applies_by a.i (rule_in a.program.now a.j)
