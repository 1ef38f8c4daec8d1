-- The layout of a calendar, said without reading: its bytes are accepted, and a list of bytes is accepted exactly when it is the layout of
-- at most 64 proper entries, and then it has these. Assumes nothing.
-- Here the definitions; the theorems are in proofs/Theorems/CalendarLayout.antt.
use Prim.Native.Nat.{ℕ, ◌/◌, ◌%◌}
use Rattle.std.specs.Prelude.{length}
use mathlib.Core.List.{List, [], ◌∷◌}
use Rattle.sets.specs.Lists.{flat}
use Rattle.semantics.specs.Definitions.Calendar.{Entry}

-- "entries of five bytes: rule number, first minute, end minute (two bytes each, low byte first [..])"
abbrev pub entry_bytes : Entry → List ℕ
entry_bytes e = e.rule ∷ e.first % 256 ∷ e.first / 256 ∷ e.end % 256 ∷ e.end / 256 ∷ []

-- "a count byte 0 to 64, then entries"
abbrev pub calendar_bytes : List Entry → List ℕ
calendar_bytes entries = length entries ∷ flat entry_bytes entries
