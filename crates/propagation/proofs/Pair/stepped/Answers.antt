-- `propagation::Pair::stepped` meets its contract. Assumes nothing.
use mathlib.Core.Path.{◌≡◌, subst}
use native.Mathlib.Omega.{arith}
use Rattle.propagation.specs.Pairs.{pair_from}
use Rattle.propagation.proofs.Passes.{Passed, passed_none, passed-more, passed_all}
use Rattle.propagation.proofs.Pair.stepped.Goals as goal

pub loop-j-init : goal.loop-j-init
loop-j-init c = let a = c.args in passed_none a.program.now (pair_from a.self)

pub loop-j-preserved : goal.loop-j-preserved
loop-j-preserved c =
    let a = c.args in
    let l = c.loop-j in
    passed-more a.program.now (pair_from a.self) l.j l.invariant c.entering-t.ensures c.supported-kept.ensures

pub returns : goal.returns
returns c =
    let a = c.args in
    let l = c.loop-j in
    let e : l.j ≡ a.rules = omega arith in
    let passed = subst (λ n. Passed a.program.now (pair_from a.self) n l.t l.kept) e l.invariant in
    passed_all a.program.now (pair_from a.self) a.atoms a.rules passed c.full-all.ensures c.minus.ensures
