-- `stable::reduced::reduce` meets its contract. The rules passed are satisfied in i, and those written are the ones whose bodies hold. Assumes nothing.
use Prim.Native.Nat.{ℕ, ◌≤◌, ◌<◌}
use mathlib.Core.Path.{◌≡◌}
use mathlib.Core.Bool.{true}
use lib.ListN.{length, take}
use Rattle.semantics.specs.Words.{rule_in, program_in}
use Rattle.semantics.specs.Definitions.Stable.{satisfies}
use Rattle.stable.specs.Applied.{applied, positive_program}
use Rattle.stable.proofs.reduced.reduce.Given as goal

abbrev pub invariant-loop-j : goal.invariant-loop-j
invariant-loop-j l = (l.j ≤ l.rules) × (l.n ≤ l.j) × (length l.out ≡ length l.initial.out) × (positive_program (take l.n l.out) ≡ applied l.i (program_in l.program l.j))
    × ((k : ℕ) → k < l.j → satisfies l.i (rule_in l.program k) ≡ true)
