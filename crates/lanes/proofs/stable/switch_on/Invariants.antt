-- `lanes::stable::switch_on` meets its contract. Assumes nothing.
use Prim.Native.Nat.{◌≤◌}
use mathlib.Core.Path.{◌≡◌}
use lib.ListN.{length}
use Rattle.lanes.specs.Stable.{LanesOn}
use Rattle.lanes.proofs.stable.switch_on.Given as goal

abbrev pub invariant-loop-r : goal.invariant-loop-r
invariant-loop-r l = (l.r ≤ length l.rules) × (length l.on ≡ length l.initial.on) × LanesOn l.rules l.w l.lanes l.r l.on
