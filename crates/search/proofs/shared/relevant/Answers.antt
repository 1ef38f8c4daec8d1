-- `search::shared::relevant` meets its contract. Assumes nothing.
use Rattle.search.specs.Shared.{relevant_more}
use Rattle.search.proofs.shared.relevant.Goals as goal

pub loop-rule-preserved : goal.loop-rule-preserved
loop-rule-preserved c = relevant_more c.loop-rule.invariant
