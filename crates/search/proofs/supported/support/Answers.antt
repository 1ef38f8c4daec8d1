-- `search::supported::support` meets its contract. Assumes nothing.
use native.Mathlib.Omega.{arith}
use Rattle.search.specs.Supported.{by_more, by_off}
use Rattle.search.proofs.supported.support.Goals as goal
use Rattle.search.proofs.supported.support.Goals.{then-on-r-ne0, else-on-r-ne0}

pub loop-r-preserved : goal.loop-r-preserved
loop-r-preserved c =
    let a = c.args in
    let s = c.loop-r.invariant.1 in
    elim c.if-on-r-ne0.branch [
      | then-on-r-ne0 w ↦ (omega arith, rw w.by-is (by_more a.rules.now a.on.now a.i s w.supports.ensures w.add.ensures))
      | else-on-r-ne0 w ↦ (omega arith, rw w.by-is (by_off a.rules.now a.on.now a.i s w.if-on-r-ne0.false))
    ]
