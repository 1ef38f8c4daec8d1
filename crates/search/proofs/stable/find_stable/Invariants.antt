-- `search::stable::find_stable` meets its contract. Assumes nothing.
use mathlib.Core.Path.{◌≡◌}
use lib.ListN.{length}
use Rattle.lanes.specs.Planes.{◌in_plane◌, Until}
use Rattle.lanes.specs.Stable.{StableFor}
use Rattle.search.proofs.stable.find_stable.Given as goal

abbrev pub invariant-loop-w : goal.invariant-loop-w
invariant-loop-w l = (length l.on ≡ length l.initial.on) × (length l.plane ≡ length l.initial.plane)
    × Until (λ g. g in_plane l.initial.plane) (λ g. (g in_plane l.initial.plane) × StableFor l.rules (length l.rules) l.i g) l.w l.plane
