-- `sharing::turns::to_the_end` meets its contract. Assumes nothing.
use Prim.Native.Nat.{◌^◌}
use mathlib.Core.Path.{◌≡◌}
use lib.ListN.{length}
use Rattle.semantics.specs.Definitions.Check.{most_negations}
use Rattle.sharing.proofs.Rounded.{RoundedTo}
use Rattle.sharing.proofs.turns.to_the_end.Given as goal

abbrev pub invariant-loop-p : goal.invariant-loop-p
invariant-loop-p l = (length l.programs ≡ length l.initial.programs) × (length l.records ≡ length l.initial.records) × (length l.all ≡ length l.initial.all)
    × RoundedTo l.sources l.words l.order l.n (2 ^ most_negations) l.p l.initial.all l.all l.programs l.initial.records l.records
