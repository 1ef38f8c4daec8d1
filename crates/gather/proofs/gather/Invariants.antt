-- `gather::gather` meets its contract. Assumes nothing.
use Rattle.gather.proofs.Gathering.{Stand, Held}
use Rattle.gather.proofs.gather.Given as goal

abbrev pub invariant-loop-r : goal.invariant-loop-r
invariant-loop-r l = Stand l.fn.x l.words l.i l.room l.n l.r-index × Held l.fn.x l.words l.i l.atoms l.r-index
