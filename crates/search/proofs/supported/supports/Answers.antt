-- `search::supported::supports` meets its contract. Assumes nothing.
use mathlib.Core.Path.{sym, ◌∙◌}
use Rattle.search.specs.Supported.{supports_all, supports_one, supports_lone}
use Rattle.search.proofs.supported.supports.Goals as goal

pub returns-then-head-eq0 : goal.returns-then-head-eq0
returns-then-head-eq0 c d m s = let a = c.args in rw c.minus.ensures (supports_all a.rule a.i c.if-head-eq0.true d m s)

pub returns-then-power-head : goal.returns-then-power-head
returns-then-power-head c d m s = let a = c.args in rw c.minus-then-power-head.ensures (supports_one a.rule a.i c.first.ensures.0.is_in d s)

pub returns : goal.returns
returns c d m s =
    let f = c.first.ensures.0 in
    absurd (c.if-power-head.false (c.power.ensures ∙ sym (supports_lone c.args.rule c.args.i f.is_in d s)))
