-- `guess::outline::in_masks` meets its contract. Assumes nothing.
use Prim.Native.Nat.{◌+◌}
use mathlib.Core.Path.{◌≡◌}
use Rattle.sets.specs.Sets.{⋃}
use Rattle.semantics.specs.Fields.{masks_of}
use Rattle.semantics.specs.Words.{rules_in}
use Rattle.guess.proofs.outline.in_masks.Given as goal

abbrev pub invariant-loop-i : goal.invariant-loop-i
invariant-loop-i l = l.set ≡ ⋃ (masks_of l.m (l.m + 1) (rules_in l.words l.i))
