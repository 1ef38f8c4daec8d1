-- `guess::negations::assumed` meets its contract. Assumes nothing.
use mathlib.Core.Path.{◌≡◌}
use Rattle.sets.specs.Sets.{set_of}
use Rattle.semantics.specs.Definitions.Guesses.{not_known, may_be}
use Rattle.guess.proofs.Turns.{At, in_guess}
use Rattle.guess.proofs.negations.assumed.Given as goal

abbrev pub invariant-loop-a : goal.invariant-loop-a
invariant-loop-a l = At l.x l.a l.j × (l.unknown ≡ set_of (in_guess l.x not_known l.guess) l.a) × (l.maybe ≡ set_of (in_guess l.x may_be l.guess) l.a)
