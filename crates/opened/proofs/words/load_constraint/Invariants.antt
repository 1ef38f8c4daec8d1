-- `opened::words::load_constraint` meets its contract. Assumes nothing.
use lib.Dec.{eqb}
use mathlib.Core.Bool.{cond}
use lib.ListN.{length, take}
use mathlib.Core.Path.{◌≡◌}
use Prim.Native.Nat.{◌*◌}
use Rattle.opened.proofs.Loaded.{MasksLoaded}
use Rattle.opened.proofs.words.load_constraint.Given as goal

abbrev pub invariant-loop-i : goal.invariant-loop-i
invariant-loop-i l = (length l.out ≡ length l.initial.out) × (take (8 * l.n) l.out ≡ take (8 * l.n) l.initial.out) × MasksLoaded (λ j. cond (eqb j 1) l.plain 0) l.n l.out l.i
