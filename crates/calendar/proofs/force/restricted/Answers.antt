-- `calendar::force::restricted` meets its contract. Assumes nothing.
use Rattle.std.proofs.Common.{◌∙◌, rules, tests}
use lib.Dec.{eqb}
use Rattle.std.proofs.lemmas.Iterator.{YieldsList-from_slice}
use Rattle.std.proofs.lemmas.Iterator.Search.{any_from_yields_List}
use Rattle.calendar.proofs.Written.{restricted_so}
use Rattle.calendar.proofs.force.restricted.Goals as goal

pub returns : goal.returns
returns c =
    let a = c.args in
    any_from_yields_List (λ e. eqb e.rule a.rule) _ _ _ c.any.ensures.ran (YieldsList-from_slice a.entries.now cc) (λ x b q k. search (rules, tests))
    ∙ restricted_so a.rule a.entries.now
