-- `text::names::put_names` meets its contract: the fields of the first a atoms stand there. Assumes nothing.
use Prim.Native.Nat.{◌+◌, ◌*◌, ◌≤◌}
use mathlib.Core.Path.{◌≡◌}
use lib.ListN.{length}
use Rattle.semantics.specs.Fields.{after_names}
use Rattle.text.specs.Appended.{Appended}
use Rattle.text.specs.Names.{name_room, member_fields}
use Rattle.text.proofs.names.put_names.Given as goal

abbrev pub invariant-loop-a : goal.invariant-loop-a
invariant-loop-a l = (l.a ≤ l.n) × (length l.out ≡ length l.initial.out) × Appended l.from (member_fields l.s l.set l.a) l.initial.out l.out l.at × (l.place ≡ after_names l.s l.a 1) × (l.place ≤ 1 + 256 * l.a)
    × (l.at ≤ l.from + name_room * l.a)
