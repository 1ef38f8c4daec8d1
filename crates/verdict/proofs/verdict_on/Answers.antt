-- `verdict::verdict_on` meets its contract. Assumes nothing.
use mathlib.Core.Path.{◌∙◌}
use Rattle.guess.specs.Numbered.{few_of}
use Rattle.guess.specs.Settings.{verdict_by_lem}
use borrow.Author.Rules.{rules}
use Rattle.verdict.proofs.verdict_on.Goals as goal

pub judge-requires : goal.judge-requires
judge-requires c = (search rules, c.reduct-rules.ensures.upper_bound, few_of c.requires)

pub returns : goal.returns
returns c = c.judge.ensures ∙ verdict_by_lem c.requires c.args.guess c.reduct-rules.ensures.result_after
