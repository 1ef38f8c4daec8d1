-- `search::shared::relevant` meets its contract. Assumes nothing.
use Rattle.search.specs.Shared.{Relevant}
use Rattle.search.proofs.shared.relevant.Given as goal

abbrev pub invariant-loop-rule : goal.invariant-loop-rule
invariant-loop-rule l = Relevant l.rules l.rule-index l.all
