-- `ruling::pass::enter` meets its contract. Assumes nothing.
use mathlib.Core.Path.{◌≡◌}
use lib.ListN.{length}
use Rattle.ruling.specs.Pass.{Entered}
use Rattle.ruling.proofs.pass.enter.Given as goal

abbrev pub invariant-loop-a : goal.invariant-loop-a
invariant-loop-a l = (length l.f ≡ 16) × Entered l.shut l.a l.initial.f l.f
