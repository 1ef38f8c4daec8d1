-- `guess::negations::found` meets its contract. Assumes nothing.
use mathlib.Core.Path.{◌≡◌}
use Rattle.sets.specs.Sets.{set_of}
use Rattle.guess.proofs.Turns.{At, in_found}
use Rattle.guess.proofs.negations.found.Given as goal

abbrev pub invariant-loop-a : goal.invariant-loop-a
invariant-loop-a l = At l.x l.a l.j × (l.guess ≡ set_of (in_found l.x l.known l.possible) l.j)
