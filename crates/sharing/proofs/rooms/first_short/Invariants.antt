-- `sharing::rooms::first_short` meets its contract. Assumes nothing.
use Rattle.sharing.specs.Refusals.{FitTo}
use Rattle.sharing.proofs.rooms.first_short.Given as goal

abbrev pub invariant-loop-p : goal.invariant-loop-p
invariant-loop-p l = FitTo l.states l.rooms l.p
