-- `opened::words::load_pairs` meets its contract. Assumes nothing.
use lib.ListN.{length}
use mathlib.Core.Path.{◌≡◌}
use Prim.Native.Nat.{◌≤◌}
use Rattle.opened.proofs.Loaded.{PairsLoaded}
use Rattle.opened.proofs.words.load_pairs.Given as goal

abbrev pub invariant-loop-i : goal.invariant-loop-i
invariant-loop-i l = (length l.out ≡ length l.initial.out) × (l.i ≤ l.pairs) × PairsLoaded l.s l.from l.n l.initial.out l.out l.i
