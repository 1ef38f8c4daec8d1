-- `propagation::contradicted` meets its contract. Assumes nothing.
use Rattle.semantics.specs.Words.{program_in}
use Rattle.semantics.specs.Definitions.Day.{day_constraints}
use Rattle.semantics.specs.Definitions.Setting.{Setting}
use Rattle.semantics.proofs.Theorems.Day.{day_empty}
use Rattle.guess.specs.Negations.{negations_by}
use Rattle.propagation.proofs.Parts.{by_parts}
use Rattle.propagation.proofs.contradicted.Goals as goal

pub returns : goal.returns
returns c =
    let a = c.args in
    let s : Setting = record { atoms = a.x.atoms; negations = negations_by a.x; program = λ _. program_in a.program.now a.rules } in
    by_parts (day_constraints a.x.ins a.x.outs) (day_empty a.x.ins a.x.outs) s a.guess
    c.propagated-pair.ensures c.empty_head-head.ensures c.sure_constraint-constraint.ensures c.clash-negation.ensures
