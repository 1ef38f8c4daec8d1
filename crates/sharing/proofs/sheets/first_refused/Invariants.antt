-- `sharing::sheets::first_refused` meets its contract. Assumes nothing.
use Rattle.sharing.specs.Refusals.{AcceptedTo}
use Rattle.sharing.proofs.sheets.first_refused.Given as goal

abbrev pub invariant-loop-p : goal.invariant-loop-p
invariant-loop-p l = AcceptedTo l.sources l.p
