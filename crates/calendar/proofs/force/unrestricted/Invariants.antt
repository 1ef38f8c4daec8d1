-- `calendar::force::unrestricted` meets its contract. Assumes nothing.
use Prim.Native.Nat.{◌≤◌}
use mathlib.Core.Path.{◌≡◌}
use Rattle.calendar.specs.Entries.{entries_in}
use Rattle.calendar.specs.Force as force
use Rattle.calendar.proofs.force.unrestricted.Given as goal

abbrev pub invariant-loop-rule : goal.invariant-loop-rule
invariant-loop-rule l = (l.rule ≤ l.rules) × (l.set ≡ force.unrestricted (entries_in l.entries) l.rule)
