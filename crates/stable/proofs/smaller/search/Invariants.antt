-- `stable::smaller::search` meets its contract. The loop over the subsets has found no smaller model among those tried; the loop over the
-- rules has passed only rules that hold in the subset. Assumes nothing.
use Prim.Native.Nat.{◌-◌, ◌≤◌}
use mathlib.Core.Path.{◌≡◌}
use lib.ListN.{length, take}
use Rattle.std.specs.Prelude.{None}
use Rattle.std.specs.Option.{IfSome}
use Rattle.sets.specs.Lists.{◌among◌}
use Rattle.semantics.specs.Theorems.Stable.{Model}
use Rattle.stable.specs.Applied.{positive_rule, positive_program}
use Rattle.stable.proofs.Tried.{Tried}
use Rattle.stable.proofs.smaller.search.Given as goal

abbrev pub invariant-rules : goal.invariant-rules
invariant-rules l = (l.found ≡ None) × (l.j ≤ length l.positive) × Model (positive_program (take l.j l.positive)) l.s

abbrev pub decreases-rules : goal.decreases-rules
decreases-rules l = length l.positive - l.j

abbrev pub invariant-subsets : goal.invariant-subsets
invariant-subsets l =
    (l.found ≡ None) × Tried (positive_program l.positive) l.l l.beyond l.t × IfSome l.last (λ r. positive_rule r among positive_program l.positive)

abbrev pub decreases-subsets : goal.decreases-subsets
decreases-subsets l = l.t
