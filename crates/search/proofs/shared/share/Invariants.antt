-- `search::shared::share` meets its contract. Assumes nothing.
use Prim.Native.Nat.{◌≤◌}
use mathlib.Core.Path.{◌≡◌}
use lib.ListN.{length}
use Rattle.search.specs.Shared.{SharedUntil}
use Rattle.search.proofs.shared.share.Given as goal

abbrev pub invariant-loop-w : goal.invariant-loop-w
invariant-loop-w l = (l.w ≤ length l.active) × (length l.any ≡ length l.initial.any) × SharedUntil l.parting l.w l.active l.any
