-- `ruling::pass::follow` meets its contract. Assumes nothing.
use mathlib.Core.Path.{◌≡◌}
use lib.ListN.{length}
use Rattle.ruling.specs.Pass.{Followed}
use Rattle.ruling.proofs.pass.follow.Given as goal

abbrev pub invariant-loop-j : goal.invariant-loop-j
invariant-loop-j l = (length l.t ≡ 16) × (length l.shut ≡ 16) × Followed l.words l.truths l.falsities l.j l.initial.t l.initial.shut l.t l.shut
