-- `calendar::entries::entries` meets its contract. Assumes nothing.
use mathlib.Core.Path.{◌≡◌}
use lib.ListN.{length}
use Rattle.calendar.proofs.Written.{Reached}
use Rattle.calendar.proofs.entries.entries.Given as goal

abbrev pub invariant-loop-i : goal.invariant-loop-i
invariant-loop-i l = (length l.out ≡ length l.initial.out) × Reached l.c l.rules l.n l.out l.at l.i
