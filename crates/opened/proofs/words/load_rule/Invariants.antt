-- `opened::words::load_rule` meets its contract. Assumes nothing.
use lib.ListN.{length, take}
use mathlib.Core.Path.{◌≡◌}
use Prim.Native.Nat.{◌+◌, ◌*◌}
use Rattle.semantics.specs.Definitions.Sheet.{word_at}
use Rattle.opened.proofs.Loaded.{MasksLoaded}
use Rattle.opened.proofs.words.load_rule.Given as goal

abbrev pub invariant-loop-i : goal.invariant-loop-i
invariant-loop-i l = (length l.out ≡ length l.initial.out) × (take (8 * l.n) l.out ≡ take (8 * l.n) l.initial.out) × MasksLoaded (λ j. word_at l.s (l.place + 2 * j)) l.n l.out l.i
