-- `sharing::turns::rounds` meets its contract. Assumes nothing.
use Prim.Native.Nat.{◌-◌, ◌^◌}
use mathlib.Core.Path.{◌≡◌}
use lib.ListN.{length}
use Rattle.semantics.specs.Definitions.Check.{most_negations}
use Rattle.sharing.proofs.Between.{Between}
use Rattle.sharing.proofs.turns.rounds.Given as goal

abbrev pub invariant-loop-left : goal.invariant-loop-left
invariant-loop-left l = (length l.programs ≡ length l.initial.programs) × (length l.records ≡ length l.initial.records) × Between l.n l.allowance l.sources l.order l.words l.programs l.records l.states l.left l.t

abbrev pub decreases-loop-left : goal.decreases-loop-left
decreases-loop-left l = 2 ^ most_negations - l.t
