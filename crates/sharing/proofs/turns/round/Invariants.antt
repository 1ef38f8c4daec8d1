-- `sharing::turns::round` meets its contract. Assumes nothing.
use Prim.Native.Nat.{◌+◌}
use mathlib.Core.Path.{◌≡◌}
use lib.ListN.{length}
use Rattle.sharing.specs.Held.{spent_in}
use Rattle.sharing.proofs.Rounded.{RoundedTo}
use Rattle.sharing.proofs.turns.round.Given as goal

abbrev pub invariant-loop-p : goal.invariant-loop-p
invariant-loop-p l = (length l.programs ≡ length l.initial.programs) × (length l.records ≡ length l.initial.records) × (length l.all ≡ length l.initial.all) × (spent_in l.all + l.left ≡ spent_in l.initial.all + l.allowed)
    × RoundedTo l.sources l.words l.order l.n l.t l.p l.initial.all l.all l.programs l.initial.records l.records
