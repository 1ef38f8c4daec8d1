-- `calendar::force::with_held` meets its contract. Assumes nothing.
use mathlib.Core.Path.{◌≡◌}
use lib.ListN.{take}
use Rattle.calendar.specs.Entries.{entries_in}
use Rattle.calendar.specs.Force.{held_from}
use Rattle.calendar.proofs.force.with_held.Given as goal

abbrev pub invariant-loop-e : goal.invariant-loop-e
invariant-loop-e l = l.held ≡ held_from l.set l.minute (entries_in (take l.e-index l.entries))
