-- `verdict::judge` meets its contract. Assumes nothing.
use mathlib.Core.Path.{◌∙◌}
use Rattle.semantics.specs.Words.{program_in}
use Rattle.verdict.proofs.Judging.{decided_by}
use Rattle.verdict.proofs.judge.Goals as goal

pub returns : goal.returns
returns c =
    let a = c.args in
    c.decide.ensures ∙ decided_by a.x (program_in a.program.now a.rules) a.guess c.gather-y.ensures.result_value
