-- `lanes::rule::Rule::fails` meets its contract. Assumes nothing.
use mathlib.Core.Bool.{not, ◌&&◌}
use mathlib.Core.Path.{ap₂, sym, subst}
use Rattle.sets.specs.Decides.{Decides}
use Rattle.lanes.specs.Smaller.{Fails, dec_fails}
use Rattle.lanes.proofs.rule.Rule.fails.Goals as goal

pub returns : goal.returns
returns c =
    let a = c.args in
    subst (Decides (Fails a.self a.s)) (sym (ap₂ (λ u v. u && not v) c.subset-body.ensures c.meets-head.ensures))
    (dec_fails a.self a.s)
