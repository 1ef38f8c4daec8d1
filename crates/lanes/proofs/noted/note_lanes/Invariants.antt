-- `lanes::noted::note_lanes` meets its contract. Assumes nothing.
use Rattle.sets.specs.Sets.{◌⊆◌, ◌∖◌}
use Rattle.lanes.specs.Noted.{Noted, InWord}
use Rattle.lanes.proofs.noted.note_lanes.Given as goal

abbrev pub invariant-loop-b : goal.invariant-loop-b
invariant-loop-b l = (l.b-iterator.rest ⊆ l.lanes) × Noted (InWord l.w (l.lanes ∖ l.b-iterator.rest)) l.i l.initial.table l.table
