-- `search::smaller::smaller` meets its contract. It ends since each call decides one more atom of i. Assumes nothing.
use lib.ListN.{length}
use Rattle.std.proofs.Common.{◌≤◌}
use Rattle.sets.specs.Sets.{size}
use Rattle.search.specs.Search.{undecided, Searched}
use Rattle.search.proofs.smaller.+smaller.Given as goal

-- the atoms of i in neither j nor out
abbrev pub decreases-smaller : goal.decreases-smaller
decreases-smaller l = size (undecided l.i l.j l.out)

abbrev pub invariant-loop-r : goal.invariant-loop-r
invariant-loop-r l = (l.r ≤ (length l.rules)) × Searched l.rules l.on (length l.rules) l.i l.j l.out l.lanes l.r l.left l.found
