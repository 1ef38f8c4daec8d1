-- `candidates::objective_models` meets its contract. Assumes nothing.
use mathlib.Core.Path.{◌≡◌, ◌∙◌}
use lib.ListN.{length}
use native.Mathlib.Omega.{arith}
use Rattle.lanes.specs.Lanes.{lanes_is}
use Rattle.candidates.proofs.Lanes.{none_yet, rule_struck, rule-passed}
use Rattle.candidates.proofs.objective_models.Goals as goal
use Rattle.candidates.proofs.objective_models.Goals.{then-r-eq0, else-r-eq0}

pub loop-r-init : goal.loop-r-init
loop-r-init c = let a = c.args in none_yet a.digests.now a.w a.lanes

pub loop-r-preserved : goal.loop-r-preserved
loop-r-preserved c =
    let l = c.loop-r in
    let a = c.args in
    elim c.if-r-eq0.branch [
      | then-r-eq0 w ↦ lanes_is (w.left-is ∙ w.minus-left.ensures) (rule_struck a.digests.now a.w a.lanes l.r-index l.invariant w.if-r-eq0.true w.cube.ensures)
      | else-r-eq0 w ↦ lanes_is w.left-is (rule-passed a.digests.now a.w a.lanes l.r-index l.invariant w.if-r-eq0.false)
    ]

pub returns : goal.returns
returns c =
    let e : c.loop-r.r-index ≡ length c.args.digests.now = omega arith in
    rw e at c.loop-r.invariant
