-- `propagation::sure_constraint` meets its contract. Assumes nothing.
use mathlib.Core.Path.{sym, ap₂, subst}
use mathlib.Core.Bool.{◌||◌}
use Rattle.sets.specs.Decides.{Decides}
use Rattle.semantics.specs.Definitions.Day.{day_constraints}
use Rattle.semantics.specs.Theorems.Constraints.{SureConstraint}
use Rattle.semantics.proofs.Theorems.Day.{dec_day_sure}
use Rattle.propagation.specs.Pairs.{pair_from}
use Rattle.propagation.proofs.sure_constraint.Goals as goal

pub returns : goal.returns
returns c =
    let a = c.args in
    subst (Decides (SureConstraint (day_constraints a.ins a.outs) (pair_from a.pair))) (sym (ap₂ ◌||◌ c.meets-missing.ensures c.meets-present.ensures))
    (dec_day_sure a.ins a.outs (pair_from a.pair))
