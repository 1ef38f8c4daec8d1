-- `calendar::minutes::minutes_of_change` meets its contract. Assumes nothing.
use Prim.Native.Nat.{suc, ◌-◌, ◌≤◌}
use mathlib.Core.Path.{◌≡◌}
use lib.ListN.{length, take}
use Rattle.semantics.specs.Definitions.Calendar.{last_minute}
use Rattle.calendar.specs.Entries.{entries_in}
use Rattle.calendar.proofs.Between.{Listed}
use Rattle.calendar.proofs.minutes.minutes_of_change.Given as goal

abbrev pub invariant-loop-minute : goal.invariant-loop-minute
invariant-loop-minute l = (length l.out ≡ length l.initial.out) × (l.count ≤ l.minute) × Listed (entries_in l.entries) l.rules l.minute l.before (take l.count l.out)

abbrev pub decreases-loop-minute : goal.decreases-loop-minute
decreases-loop-minute l = suc last_minute - l.minute
