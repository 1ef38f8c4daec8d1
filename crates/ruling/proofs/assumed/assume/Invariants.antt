-- `ruling::assumed::assume` meets its contract. Assumes nothing.
use mathlib.Core.Path.{◌≡◌}
use lib.ListN.{length}
use Rattle.ruling.specs.Assumed.{AssumedIn}
use Rattle.ruling.proofs.assumed.assume.Given as goal

abbrev pub invariant-loop-a : goal.invariant-loop-a
invariant-loop-a l = (length l.lanes ≡ 16) × AssumedIn l.numbers l.w l.a l.lanes
