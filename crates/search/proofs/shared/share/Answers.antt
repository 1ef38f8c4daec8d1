-- `search::shared::share` meets its contract. Assumes nothing.
use native.Mathlib.Omega.{arith}
use lib.ListN.{length-set}
use Rattle.search.specs.Shared.{shared-more}
use Rattle.search.proofs.shared.share.Goals as goal

pub loop-w-preserved : goal.loop-w-preserved
loop-w-preserved c =
    let l = c.loop-w in
    let a = c.args in
    (omega arith, simp length-set l.invariant.1, shared-more a.parting l.w a.active.now l.any (omega arith) l.invariant.2)
