-- `sharing::turns::round` meets its contract. Assumes nothing.
use Prim.Native.Nat.{◌<◌}
use mathlib.Core.Path.{◌∙◌}
use native.Mathlib.Omega.{arith}
use lib.ListN.{length, length-set}
use Rattle.sharing.proofs.Turned.{spent_set, turned}
use Rattle.sharing.proofs.Rounded.{near_at, round-more}
use Rattle.sharing.proofs.turns.round.Goals as goal

pub loop-p-preserved : goal.loop-p-preserved
loop-p-preserved c =
    let l = c.loop-p in
    let a = c.args in
    let turn = c.turn-after in
    let told : l.p < 4 = omega (arith, c.loop-p-test.true, c.requires.n_bound.0) in
    let in-states : l.p < length l.all = omega (arith, told, l.invariant.2, c.requires.n_bound.3) in
    let d = turned a.sources a.words.now a.order.now l.p a.t l.all l.programs l.records in-states
    (omega (arith, told, l.invariant.0, c.requires.n_bound.4)) (omega (arith, told, l.invariant.1, c.requires.n_bound.5)) turn.result _ _ turn.ensures.goes turn.ensures.has in
    let near = near_at _ a.words.now a.order.now a.n a.t a.states a.records.now l.p l.all l.programs l.records l.invariant.4 c.requires.all_read.2 c.loop-p-test.true in (
      length-set l.programs l.p _ ∙ l.invariant.0,
      length-set l.records l.p _ ∙ l.invariant.1,
      d.long ∙ l.invariant.2,
      omega (arith, l.invariant.3, spent_set l.all l.p turn.result in-states, near.0, near.1, turn.ensures.has.tests_are, c.if-left-eq0.false),
      round-more _ a.words.now a.order.now a.n a.t a.states a.records.now l.p l.all l.programs l.records l.invariant.4 _ _ _ d,
    )
