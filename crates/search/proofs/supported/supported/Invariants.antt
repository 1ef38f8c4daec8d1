-- `search::supported::supported` meets its contract. Assumes nothing.
use lib.ListN.{length}
use Rattle.sets.specs.Sets.{◌⊆◌}
use Rattle.search.specs.Supported.{SupportedBy, Kept}
use Rattle.search.proofs.supported.supported.Given as goal

abbrev pub invariant-loop-a : goal.invariant-loop-a
invariant-loop-a l = (l.a-iterator.rest ⊆ l.i) × SupportedBy l.rules l.on l.i (length l.rules) l.by × Kept l.rules l.on l.i (length l.rules) l.lanes l.left
