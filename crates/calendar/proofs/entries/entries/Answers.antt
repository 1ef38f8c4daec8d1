-- `calendar::entries::entries` meets its contract. Assumes nothing.
use mathlib.Core.Path.{refl, sym, ap, ◌∙◌}
use native.Mathlib.Omega.{arith}
use lib.ListN.{length-set}
use Rattle.std.proofs.lemmas.Result.{err_from_is_err_and}
use Rattle.calendar.specs.Entries.{entry_of}
use Rattle.semantics.specs.Definitions.Reading.{field}
use Rattle.calendar.specs.Steps.{reading_by}
use Rattle.calendar.proofs.Written.{entered, refuses, turned, finished}
use Rattle.calendar.proofs.entries.entries.Goals as goal

pub loop-i-init : goal.loop-i-init
loop-i-init c = let a = c.args in (refl, entered a.c.now a.rules a.n a.out.now)

pub returns-in_err-out-clause-value : goal.returns-in_err-out-clause-value
returns-in_err-out-clause-value c =
    let a = c.args in
    let p = err_from_is_err_and c.from_residual.result c.from_residual.ensures.1 in
    rw (p.1, p.2) (refuses a.c.now a.rules a.n c.loop-i.invariant.1 c.loop-i-test.true c.in_err-out.ensures)

pub loop-i-preserved : goal.loop-i-preserved
loop-i-preserved c =
    let a = c.args in
    let l = c.loop-i in
    (length-set l.out l.i _ ∙ l.invariant.0, turned a.c.now a.rules a.n l.invariant.1 c.loop-i-test.true (omega (arith, l.invariant.0, c.loop-i-test.true, c.requires.0)) c.in_ok-out.ensures)

pub returns-clause-value : goal.returns-clause-value
returns-clause-value c =
    let a = c.args in
    finished a.c.now a.rules a.n c.loop-i.invariant.1 c.loop-i-test.false
