-- `candidates::support::supported_sets` meets its contract. Assumes nothing.
use mathlib.Core.Path.{◌≡◌}
use lib.ListN.{length}
use native.Mathlib.Omega.{arith}
use Rattle.candidates.proofs.Lanes.{none_in, rule_in_lem}
use Rattle.candidates.proofs.support.supported_sets.Goals as goal

pub loop-r-init : goal.loop-r-init
loop-r-init c = let a = c.args in none_in a.digests.now a.w _

pub loop-r-preserved : goal.loop-r-preserved
loop-r-preserved c = rule_in_lem c.loop-r.invariant c.support_by.ensures

pub returns : goal.returns
returns c =
    let e : c.loop-r.r-index ≡ length c.args.digests.now = omega arith in
    rw e at c.loop-r.invariant
