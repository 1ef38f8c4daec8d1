-- `stable::growth::supported` meets its contract. Assumes nothing.
use Prim.Native.Nat.{ℕ}
use mathlib.Core.Logic.{◌↔◌}
use lib.ListN.{take}
use Rattle.sets.specs.Sets.{◌∈◌}
use Rattle.stable.specs.Applied.{positive_program}
use Rattle.stable.specs.Growth.{Supported}
use Rattle.stable.proofs.growth.supported.Given as goal

abbrev pub invariant-loop-rule : goal.invariant-loop-rule
invariant-loop-rule l = (a : ℕ) → a ∈ l.set ↔ Supported (positive_program (take l.rule-index l.positive)) l.i a
