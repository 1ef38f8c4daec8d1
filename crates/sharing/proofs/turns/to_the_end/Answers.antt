-- `sharing::turns::to_the_end` meets its contract. Assumes nothing.
use Prim.Native.Nat.{◌^◌, ◌<◌}
use mathlib.Core.Path.{refl, ◌∙◌}
use native.Mathlib.Omega.{arith}
use lib.ListN.{length-set}
use Rattle.semantics.specs.Definitions.Check.{most_negations}
use Rattle.sharing.proofs.Turned.{turned}
use Rattle.sharing.proofs.Rounded.{round-first, round-more}
use Rattle.sharing.proofs.Served.{go_first}
use Rattle.sharing.proofs.turns.to_the_end.Goals as goal

pub loop-p-init : goal.loop-p-init
loop-p-init c =
    let a = c.args in (
      refl,
      refl,
      refl,
      round-first _ a.words.now a.order.now a.n (2 ^ most_negations) a.states a.records.now a.programs.now
          (go_first a.sources a.words.now a.order.now a.n a.states (λ q. c.requires.all_read.1 q (omega arith)) a.programs.now a.records.now c.requires.all_read.0),
    )

pub loop-p-preserved : goal.loop-p-preserved
loop-p-preserved c =
    let l = c.loop-p in
    let a = c.args in
    let end = c.to_end-end in
    let told : l.p < 4 = omega (arith, c.loop-p-test.true, c.requires.n_bound.0) in
    let d = turned a.sources a.words.now a.order.now l.p (2 ^ most_negations) l.all l.programs l.records (omega (arith, told, l.invariant.2, c.requires.n_bound.3))
    (omega (arith, told, l.invariant.0, c.requires.n_bound.4)) (omega (arith, told, l.invariant.1, c.requires.n_bound.5)) end.result end.new.program end.new.records
    end.ensures.goes end.ensures.has in (
      length-set l.programs l.p _ ∙ l.invariant.0,
      length-set l.records l.p _ ∙ l.invariant.1,
      d.long ∙ l.invariant.2,
      round-more _ a.words.now a.order.now a.n (2 ^ most_negations) a.states a.records.now l.p l.all l.programs l.records l.invariant.3 _ _ _ d,
    )
