-- `calendar::minutes::next` meets its contract. Assumes nothing.
use mathlib.Core.Path.{◌≡◌}
use lib.ListN.{take}
use Rattle.calendar.specs.Entries.{entries_in}
use Rattle.calendar.specs.Next.{next_of}
use Rattle.calendar.proofs.minutes.next.Given as goal

abbrev pub invariant-loop-e : goal.invariant-loop-e
invariant-loop-e l = l.best ≡ next_of l.minute (entries_in (take l.e-index l.entries))
