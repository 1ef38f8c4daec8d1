-- `ruling::pass::lone` meets its contract. Assumes nothing.
use mathlib.Core.Path.{◌∙◌}
use Rattle.ruling.specs.Pass.{lone_more}
use Rattle.ruling.proofs.pass.lone.Goals as goal

pub returns : goal.returns
returns c = lone_more c.first-a.ensures.0 (λ e. c.if-power-head.false (c.power.ensures ∙ e))
