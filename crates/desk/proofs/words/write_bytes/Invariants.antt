-- `desk::words::write_bytes` meets its contract. Assumes nothing.
use mathlib.Core.Path.{◌≡◌}
use Rattle.desk.proofs.Placed.{holds}
use Rattle.desk.proofs.words.write_bytes.Given as goal

abbrev pub invariant-loop-i : goal.invariant-loop-i
invariant-loop-i l = l.out ≡ holds l.words l.initial.out l.i
