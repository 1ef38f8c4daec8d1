-- `sheet::names::repeated` meets its contract. Assumes nothing.
use mathlib.Core.Path.{◌≡◌}
use Prim.Native.Nat.{◌-◌, ◌≤◌}
use Rattle.semantics.specs.Fields.{after_names}
use Rattle.sheet.proofs.NameSought.{found}
use Rattle.sheet.proofs.names.repeated.Given as goal

abbrev pub invariant-loop-i : goal.invariant-loop-i
invariant-loop-i l = (l.i ≤ l.n) × (after_names l.s (l.n - l.i) l.p ≤ l.q) × (found l.s l.n l.q 0 l.from ≡ found l.s l.n l.q l.i l.p)
