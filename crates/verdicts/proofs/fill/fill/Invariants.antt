-- `verdicts::fill::fill` meets its contract. Assumes nothing.
use Prim.Native.Nat.{◌/◌, ◌%◌, ◌≤◌, ◌<◌}
use mathlib.Core.Path.{◌≡◌}
use lib.ListN.{length}
use Rattle.candidates.specs.Candidates.{Candidates}
use Rattle.verdicts.proofs.Filling.{After}
use Rattle.verdicts.proofs.fill.fill.Given as goal

abbrev pub invariant-loop-i : goal.invariant-loop-i
invariant-loop-i l = (l.i ≤ l.end) × (length l.room ≡ 71) × (length l.on ≡ 71) × (length l.stable ≡ length l.initial.stable) × (length l.table ≡ length l.initial.table) × After l.x l.words l.initial.active l.i l.active l.table
    × (0 < l.i % 64 → Candidates l.x l.words (l.i / 64) l.sets)
