-- `propagation::empty_head` meets its contract. The loop has passed no sure rule with an empty head. Assumes nothing.
use Rattle.semantics.specs.Words.{program_in}
use Rattle.semantics.specs.Theorems.Contradicted.{EmptyHead}
use Rattle.propagation.specs.Pairs.{pair_from}
use Rattle.propagation.proofs.empty_head.Given as goal

abbrev pub invariant-loop-j : goal.invariant-loop-j
invariant-loop-j l = EmptyHead (program_in l.program l.j) (pair_from l.pair) → ⊥
