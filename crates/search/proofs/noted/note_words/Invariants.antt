-- `search::noted::note_words` meets its contract. Assumes nothing.
use Prim.Native.Nat.{◌≤◌}
use mathlib.Core.Path.{◌≡◌}
use lib.ListN.{length}
use Rattle.lanes.specs.Planes.{◌in_plane◌}
use Rattle.search.specs.Shared.{server}
use Rattle.search.specs.Step.{NotedUntil}
use Rattle.search.proofs.noted.note_words.Given as goal

abbrev pub invariant-loop-w : goal.invariant-loop-w
invariant-loop-w l = (l.w ≤ length l.initial.active) × (length l.active ≡ length l.initial.active) × (length l.table ≡ length l.initial.table)
    × NotedUntil (λ g. server l.parting g in_plane l.stable) l.i l.needed l.w l.initial.active l.initial.table l.active l.table
