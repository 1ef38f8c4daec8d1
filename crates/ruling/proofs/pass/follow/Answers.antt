-- `ruling::pass::follow` meets its contract. Assumes nothing.
use mathlib.Core.Path.{sym, subst}
use native.Mathlib.Omega.{arith}
use Prim.Native.Nat.{◌+◌}
use Rattle.ruling.specs.Pass.{TruesTo, true_more, true_over, follow_more}
use Rattle.ruling.proofs.pass.follow.Goals as goal
use Rattle.ruling.proofs.pass.follow.Goals.{in-Some, in_default}

pub loop-j-preserved : goal.loop-j-preserved
loop-j-preserved c =
    let a = c.args in
    let l = c.loop-j in
    let one = c.lone.ensures in (
      c.match-lone.array_long,
      c.narrow.array_long,
      follow_more a.words.now a.truths.now a.falsities.now
          (elim c.match-lone.branch [
            | in-Some w ↦
                subst (TruesTo a.words.now a.truths.now a.falsities.now (l.j + 1) a.t.now) (sym w.t-is)
                (true_more a.words.now a.truths.now a.falsities.now one l.invariant.2 (omega (arith, one.index w.in-Some.is, l.invariant.0)) w.in-Some.is w.sure.ensures)
            | in_default w ↦
                subst (TruesTo a.words.now a.truths.now a.falsities.now (l.j + 1) a.t.now) (sym w.t-is)
                (true_over a.words.now a.truths.now a.falsities.now one l.invariant.2 w.in_default.not-Some)
          ])
          c.dead.ensures c.narrow.ensures l.invariant.2,
    )
