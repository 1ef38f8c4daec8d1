-- `propagation::Pair::supported` meets its contract. Assumes nothing.
use mathlib.Core.Path.{sym, ◌∙◌}
use Rattle.semantics.specs.Words.{rule_in}
use Rattle.semantics.proofs.Theorems.Closure.{dec_dead}
use Rattle.propagation.specs.Pairs.{pair_from}
use Rattle.propagation.proofs.OneRule.{supports_none, supports_head}
use Rattle.propagation.proofs.Pair.supported.Goals as goal

pub returns-then-dead : goal.returns-then-dead
returns-then-dead c =
    let a = c.args in
    let x = pair_from a.self in
    let r = rule_in a.program.now a.j in
    supports_none x r ((dec_dead x r).yes (sym c.dead.ensures ∙ c.if-dead.true))

pub returns : goal.returns
returns c =
    let a = c.args in
    let x = pair_from a.self in
    let r = rule_in a.program.now a.j in
    supports_head x r ((dec_dead x r).no (sym c.dead.ensures ∙ c.if-dead.false)) c.head.ensures
