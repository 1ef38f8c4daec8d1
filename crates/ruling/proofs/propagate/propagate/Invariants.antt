-- `ruling::propagate::propagate` meets its contract. Assumes nothing.
use Rattle.ruling.specs.Reached.{Reached}
use Rattle.ruling.proofs.propagate.propagate.Given as goal

abbrev pub invariant-loop-i : goal.invariant-loop-i
invariant-loop-i l = Reached l.words l.rules l.n l.assumed.unknown l.assumed.maybe l.i l.pair.t l.pair.f
