-- `propagation::Pair::entering` meets its contract. Assumes nothing.
use native.Mathlib.Omega.{arith}
use mathlib.Core.Path.{sym, ◌∙◌}
use Rattle.semantics.specs.Words.{rule_in}
use Rattle.semantics.proofs.Theorems.Closure.{dec_sure}
use Rattle.propagation.specs.Pairs.{pair_from}
use Rattle.propagation.proofs.OneRule.{enters_all, enters_one, enters_none, enters_unsure}
use Rattle.propagation.proofs.Pair.entering.Goals as goal

pub returns-in-0 : goal.returns-in-0
returns-in-0 c =
    let a = c.args in
    let x = pair_from a.self in
    let r = rule_in a.program.now a.j in
    let s = (dec_sure x r).yes (sym c.sure.ensures ∙ c.if-sure.true) in
    enters_all x r c.head-all.ensures c.minus-rest.ensures c.size.ensures s c.in-0.is

pub returns-in-1 : goal.returns-in-1
returns-in-1 c =
    let a = c.args in
    let x = pair_from a.self in
    let r = rule_in a.program.now a.j in
    let s = (dec_sure x r).yes (sym c.sure.ensures ∙ c.if-sure.true) in
    enters_one x r c.head-all.ensures c.minus-rest.ensures c.size.ensures s c.in-1.is

pub returns-in_default : goal.returns-in_default
returns-in_default c =
    let a = c.args in
    let x = pair_from a.self in
    let r = rule_in a.program.now a.j in
    enters_none x r c.head-all.ensures c.minus-rest.ensures c.size.ensures (omega arith) (omega arith)

pub returns : goal.returns
returns c =
    let a = c.args in
    let x = pair_from a.self in
    let r = rule_in a.program.now a.j in
    enters_unsure x r ((dec_sure x r).no (sym c.sure.ensures ∙ c.if-sure.false))
