-- `stable::growth::grown` meets its contract: it has nothing that a closed set lacks, and each pass but the last adds an atom of i. Assumes
-- nothing.
use Prim.Native.Nat.{ℕ, ◌-◌}
use Rattle.sets.specs.Sets.{◌⊆◌}
use Rattle.stable.specs.Applied.{positive_program}
use Rattle.stable.specs.Growth.{ClosedIn}
use Rattle.stable.proofs.growth.grown.Given as goal

abbrev pub invariant-loop-l : goal.invariant-loop-l
invariant-loop-l l = (x : ℕ) → ClosedIn (positive_program l.positive) l.i x → l.l ⊆ x

abbrev pub decreases-loop-l : goal.decreases-loop-l
decreases-loop-l l = l.i - l.l
