-- `sets::highest` meets its contract: the members are left out one by one, the lowest first, until one is left. Assumes nothing.
use Prim.Native.Nat.{◌-◌, ◌<◌}
use mathlib.Core.Path.{◌≡◌}
use Rattle.sets.specs.Sets.{◌⊆◌, ◌∩◌}
use Rattle.sets.proofs.highest.Given as goal

abbrev pub invariant-loop-rest : goal.invariant-loop-rest
invariant-loop-rest l = (0 < l.m) × (l.m ⊆ l.x) × (l.rest ≡ l.m ∩ (l.m - 1))

abbrev pub decreases-loop-rest : goal.decreases-loop-rest
decreases-loop-rest l = l.m
