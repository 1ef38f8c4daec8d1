-- `sharing::sheets::read_sheets` meets its contract. Assumes nothing.
use mathlib.Core.Path.{◌≡◌}
use mathlib.Core.List.{[], ◌∷◌}
use lib.ListN.{length}
use Rattle.sharing.specs.Held.{ReadTo}
use Rattle.sharing.proofs.sheets.read_sheets.Given as goal

abbrev pub invariant-loop-p : goal.invariant-loop-p
invariant-loop-p l = (length l.words ≡ 4) × (length l.sources ≡ 4) × ReadTo l.sources l.words (l.a ∷ l.b ∷ l.c ∷ l.d ∷ []) l.p
