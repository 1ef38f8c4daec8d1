-- `sheet::names::name_bytes` meets its contract. Assumes nothing.
use mathlib.Core.List.{[]}
use mathlib.Core.Path.{◌≡◌}
use Prim.Native.Nat.{◌+◌, ◌-◌, ◌≤◌}
use Rattle.semantics.specs.Definitions.Reading.{times}
use Rattle.semantics.specs.Definitions.Sheet.{name_byte_at}
use Rattle.semantics.specs.Fields.{bytes_from}
use Rattle.sheet.proofs.names.name_bytes.Given as goal

abbrev pub invariant-loop-i : goal.invariant-loop-i
invariant-loop-i l = (l.i ≤ l.n) × (times l.n [] (name_byte_at l.s) l.from ≡ times (l.n - l.i) (bytes_from l.s l.i l.from) (name_byte_at l.s) (l.from + l.i))
