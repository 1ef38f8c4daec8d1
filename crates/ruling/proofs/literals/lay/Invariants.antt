-- `ruling::literals::lay` meets its contract. Assumes nothing.
use lib.ListN.{length}
use mathlib.Core.Path.{◌≡◌}
use Rattle.ruling.specs.Laid.{Laid}
use Rattle.ruling.proofs.literals.lay.Given as goal

abbrev pub invariant-loop-a : goal.invariant-loop-a
invariant-loop-a l = (length l.without ≡ 16) × (length l.with ≡ 16) × Laid l.x l.less l.more l.a (record { whole = l.x; without = l.without; with = l.with })
