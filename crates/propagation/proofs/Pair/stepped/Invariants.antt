-- `propagation::Pair::stepped` meets its contract. Assumes nothing.
use Rattle.propagation.specs.Pairs.{pair_from}
use Rattle.propagation.proofs.Passes.{Passed}
use Rattle.propagation.proofs.Pair.stepped.Given as goal

abbrev pub invariant-loop-j : goal.invariant-loop-j
invariant-loop-j l = Passed l.program (pair_from l.self) l.j l.t l.kept
