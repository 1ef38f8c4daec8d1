-- `propagation::propagated` meets its contract. After i passes the pair is stage i. Assumes nothing.
use mathlib.Core.Path.{◌≡◌}
use Rattle.semantics.specs.Words.{program_in}
use Rattle.semantics.specs.Definitions.Propagation.{steps}
use Rattle.propagation.specs.Pairs.{pair_from}
use Rattle.propagation.proofs.propagated.Given as goal

abbrev pub invariant-loop : goal.invariant-loop
invariant-loop l = pair_from l.pair ≡ steps l.atoms (program_in l.program l.rules) l.counter
