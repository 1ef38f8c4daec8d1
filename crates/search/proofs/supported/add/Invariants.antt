-- `search::supported::add` meets its contract. Assumes nothing.
use Rattle.sets.specs.Sets.{◌⊆◌, ◌∖◌}
use Rattle.search.specs.Supported.{Added}
use Rattle.search.proofs.supported.add.Given as goal

abbrev pub invariant-loop-a : goal.invariant-loop-a
invariant-loop-a l = (l.a-iterator.rest ⊆ l.atoms) × Added (l.atoms ∖ l.a-iterator.rest) l.lanes l.initial.by l.by
