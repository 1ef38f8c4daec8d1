-- `guess::reduct::reduce` meets its contract. Assumes nothing.
use mathlib.Core.Path.{◌≡◌}
use lib.ListN.{length}
use Rattle.semantics.specs.Words.{masks_in}
use Rattle.guess.proofs.Joined.{Joined}
use Rattle.guess.proofs.reduct.reduce.Given as goal

abbrev pub invariant-loop-i : goal.invariant-loop-i
invariant-loop-i l = (length l.rule ≡ 4) × Joined l.by.unknown l.by.maybe (masks_in l.words l.j) l.rule l.i
