-- `stable::smaller::is_model` meets its contract. Assumes nothing.
use Rattle.std.proofs.Common.{◌∙◌, rules, tests}
use Rattle.std.proofs.lemmas.Iterator.{YieldsList-from_slice}
use Rattle.std.proofs.lemmas.Iterator.Search.{all_from_yields_List}
use Rattle.semantics.specs.Definitions.Stable.{satisfies}
use Rattle.stable.specs.Applied.{positive_rule}
use Rattle.stable.proofs.Written.{each_satisfied}
use Rattle.stable.proofs.smaller.is_model.Goals as goal

pub returns : goal.returns
returns c =
    let a = c.args in
    all_from_yields_List (λ r. satisfies a.i (positive_rule r)) _ _ _ c.all.ensures.ran (YieldsList-from_slice a.positive.now cc) (λ x b q k. search (rules, tests))
    ∙ each_satisfied a.positive.now a.i
