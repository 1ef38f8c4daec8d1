-- `ruling::assumed::number` meets its contract. Assumes nothing.
use mathlib.Core.Path.{◌≡◌}
use lib.ListN.{length}
use Rattle.ruling.specs.Assumed.{NumbersOf}
use Rattle.ruling.proofs.assumed.number.Given as goal

abbrev pub invariant-loop-a : goal.invariant-loop-a
invariant-loop-a l = (length l.unknown ≡ 16) × (length l.maybe ≡ 16) × NumbersOf l.fn.x l.a (record { unknown = l.unknown; maybe = l.maybe })
