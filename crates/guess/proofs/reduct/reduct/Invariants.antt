-- `guess::reduct::reduct` meets its contract. Assumes nothing.
use Rattle.guess.proofs.Kept.{Written}
use Rattle.guess.proofs.reduct.reduct.Given as goal

abbrev pub invariant-loop-j : goal.invariant-loop-j
invariant-loop-j l = Written l.by.unknown l.by.maybe l.words l.out l.n l.j
