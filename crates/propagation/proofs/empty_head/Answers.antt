-- `propagation::empty_head` meets its contract. The loop has passed no sure rule with an empty head. Assumes nothing.
use mathlib.Core.Path.{◌≡◌, sym, ap₂, ◌∙◌, subst}
use mathlib.Core.Bool.{◌&&◌}
use native.Mathlib.Omega.{arith}
use lib.Dec.{eqb}
use Rattle.sets.specs.Decides.{dec_true, dec_false}
use Rattle.semantics.specs.Words.{program_in}
use Rattle.semantics.specs.Theorems.Contradicted.{EmptyHead}
use Rattle.propagation.specs.Pairs.{pair_from}
use Rattle.propagation.proofs.Heads.{heads_first, heads_next, head_found}
use Rattle.propagation.proofs.empty_head.Goals as goal

pub loop-j-init : goal.loop-j-init
loop-j-init c = let a = c.args in heads_first a.program.now (pair_from a.pair)

pub returns-then-sure-empty : goal.returns-then-sure-empty
returns-then-sure-empty c =
    let a = c.args in
    let e = ap₂ (λ p q. p && eqb q 0) c.sure.ensures c.head-empty.ensures in
    dec_true (head_found a.program.now (pair_from a.pair) c.loop-j-test.true (sym e ∙ c.if-sure-empty.true))

pub loop-j-preserved : goal.loop-j-preserved
loop-j-preserved c =
    let a = c.args in
    let l = c.loop-j in
    let e = ap₂ (λ p q. p && eqb q 0) c.sure.ensures c.head-empty.ensures in
    heads_next a.program.now (pair_from a.pair) l.j l.invariant (sym e ∙ c.if-sure-empty.false)

pub returns : goal.returns
returns c =
    let a = c.args in
    let l = c.loop-j in
    let e : l.j ≡ a.rules = omega arith in
    dec_false (subst (λ n. EmptyHead (program_in a.program.now n) (pair_from a.pair) → ⊥) e l.invariant)
