-- `stable::reduced::reduce` meets its contract. The rules passed are satisfied in i, and those written are the ones whose bodies hold. Assumes nothing.
use mathlib.Core.Path.{◌≡◌, refl, sym, ap₂, ◌∙◌}
use native.Mathlib.Omega.{arith}
use borrow.Author.Count.{below_none, below_more}
use lib.ListN.{take}
use Rattle.sets.specs.Decides.{is_true}
use Rattle.stable.specs.Applied.{positive_program}
use Rattle.stable.proofs.Written.{dec_program, met, idle, wrote, passed, nothing_written}
use Rattle.stable.proofs.reduced.reduce.Goals as goal
use Rattle.stable.proofs.reduced.reduce.Goals.{then-applies+else-not-meets, else-applies}

pub loop-j-init : goal.loop-j-init
loop-j-init c =
    let a = c.args in
    (omega arith, omega arith, refl, nothing_written a.program.now a.i, below_none _)

pub loop-j-preserved : goal.loop-j-preserved
loop-j-preserved c =
    let l = c.loop-j in
    let a = c.args in
    let answer = c.applies.ensures in
    elim c.if-applies.branch [
      | then-applies+else-not-meets w ↦
          let body = sym answer ∙ w.if-applies.true in
          let head = sym w.meets.ensures ∙ w.if-not-meets.false in (
            omega arith,
            omega arith,
            omega arith,
            ap₂ (λ o n. positive_program (take n o)) w.out-is w.n-is ∙ wrote a.program.now l.out a.i l.j l.n l.invariant.3 (omega arith) body,
            below_more _ _ l.invariant.4 (met a.program.now a.i l.j body head),
          )
      | else-applies w ↦ (
        omega arith,
        omega arith,
        omega arith,
        ap₂ (λ o n. positive_program (take n o)) w.out-is w.n-is ∙ passed a.program.now l.out a.i l.j l.n l.invariant.3 (sym answer ∙ w.if-applies.false),
        below_more _ _ l.invariant.4 (idle a.program.now a.i l.j (sym answer ∙ w.if-applies.false)),
      )
    ]

pub returns-clause-reduced_by : goal.returns-clause-reduced_by
returns-clause-reduced_by c =
    let l = c.loop-j in
    let a = c.args in
    let e : l.j ≡ a.rules = omega arith in
    (omega arith, is_true (dec_program a.program.now a.rules a.i) (λ k h. l.invariant.4 k (omega arith)), rw e at l.invariant.3)
