-- `propagation::propagated` meets its contract. After i passes the pair is stage i. Assumes nothing.
use Prim.Native.Nat.{◌*◌}
use mathlib.Core.Path.{◌≡◌, sym, ap, ◌∙◌}
use native.Mathlib.Omega.{arith}
use Rattle.sets.specs.Decides.{dec_and, dec_eq}
use Rattle.semantics.specs.Words.{program_in}
use Rattle.semantics.specs.Definitions.Propagation.{steps}
use Rattle.propagation.proofs.Passes.{steps_first, steps_next, steps_last, reached}
use Rattle.propagation.proofs.propagated.Goals as goal

pub loop-init : goal.loop-init
loop-init c = let a = c.args in steps_first a.atoms (program_in a.program.now a.rules)

pub returns-then-eq : goal.returns-then-eq
returns-then-eq c =
    let a = c.args in
    let l = c.loop in
    let next = c.stepped-next in
    let same = (dec_and (dec_eq next.result.t l.pair.t) (dec_eq next.result.f l.pair.f)).yes (sym c.eq.ensures ∙ c.if-eq.true) in
    reached a.atoms (program_in a.program.now a.rules)
    (steps_last a.atoms (program_in a.program.now a.rules) l.counter (2 * a.atoms) (omega arith) l.invariant next.ensures same.0 same.1)

pub loop-preserved : goal.loop-preserved
loop-preserved c = let a = c.args in steps_next a.atoms (program_in a.program.now a.rules) c.loop.counter c.loop.invariant c.stepped-next.ensures

pub returns : goal.returns
returns c =
    let a = c.args in
    let l = c.loop in
    let e : l.counter ≡ 2 * a.atoms = omega arith in
    reached a.atoms (program_in a.program.now a.rules) (l.invariant ∙ ap (steps a.atoms (program_in a.program.now a.rules)) e)
