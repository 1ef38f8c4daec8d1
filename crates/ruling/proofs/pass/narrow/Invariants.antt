-- `ruling::pass::narrow` meets its contract. Assumes nothing.
use mathlib.Core.Path.{◌≡◌}
use lib.ListN.{length}
use Rattle.ruling.specs.Pass.{Narrowed}
use Rattle.ruling.proofs.pass.narrow.Given as goal

abbrev pub invariant-loop-a : goal.invariant-loop-a
invariant-loop-a l = (length l.shut ≡ 16) × Narrowed l.head l.a-iterator.rest l.lanes l.initial.shut l.shut
