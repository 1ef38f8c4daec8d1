-- `verdicts::free::free_guesses` meets its contract. Assumes nothing.
use mathlib.Core.Path.{◌≡◌}
use lib.ListN.{length}
use Rattle.lanes.specs.Planes.{◌in_plane◌, Until}
use Rattle.ruling.specs.Free.{Free}
use Rattle.verdicts.proofs.free.free_guesses.Given as goal

abbrev pub invariant-loop-w : goal.invariant-loop-w
invariant-loop-w l = (length l.free ≡ length l.initial.free) × Until (λ g. g in_plane l.initial.free) (Free l.x l.words) l.w l.free
