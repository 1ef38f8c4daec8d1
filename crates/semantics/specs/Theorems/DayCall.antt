-- What a call under the day's masks owes, whichever call it is (document 02, K3), and what it owes to sheets of two sections (K7). Assumes
-- nothing.
-- Here the definitions; the theorems are in proofs/Theorems/DayCall.antt.
use Rattle.std.specs.Prelude.{ℕ, ◌+◌, ◌≤◌, ◌≡◌, List, [], ◌∷◌, ◌++◌, length}
use Rattle.sets.specs.Sets.{∅}
use Rattle.semantics.specs.Definitions.Reading.{field}
use Rattle.semantics.specs.Definitions.Sheet.{Sheet, atoms, two_sections, most_rules}
use Rattle.semantics.specs.Definitions.Setting.{Setting}
use Rattle.semantics.specs.Definitions.Returned.{Returned, accepted}
use Rattle.semantics.specs.Definitions.Check.{unpaired, opened, opened_two_sections, of_sheet}
use Rattle.semantics.specs.Definitions.Day.{under}
use Rattle.semantics.specs.Theorems.Layout.{sheet_bytes}
use Rattle.semantics.specs.Theorems.Check.{Refuses}
use Rattle.semantics.specs.Theorems.DaySource.{MasksFit, MasksBad, BadMasks}
use Rattle.semantics.specs.Theorems.DayRules.{constraints_under, written_rules}

-- Of a call with these masks: `Says from` is that its answer, and what it leaves in the words lent, are those of the source `from`, and
-- `IsRefused` that it is refused with a number and place.
pub record DayDemand (sheet : List ℕ) (ins outs : ℕ) (Says : (from : Returned Setting) → Type 0) (IsRefused : (number place : ℕ) → Type 0) : Type 0 where
  -- "after 7": as `check` refuses the sheet
  pub sheet-first : (number place : ℕ) → Refuses sheet number place → IsRefused number place
  -- "13, place 0, for a mask bit at or above the atom count or an atom in both masks", before all that is left to refuse
  pub then-masks : (s : Setting) → of_sheet sheet ≡ accepted s → MasksBad ins outs s.atoms → IsRefused 13 0
  -- and for nothing else
  pub thirteen-only : (place : ℕ) → IsRefused 13 place → BadMasks (of_sheet sheet) ins outs 13 place
  -- "right means right for the sheet with those constraints added, beyond the 64"
  pub constraints-added : (s : Setting) → of_sheet sheet ≡ accepted s → MasksFit ins outs s.atoms → Says (accepted (under ins outs s))
  -- where rules, pairs and constraints are at most 64 together: what is said of the bytes of the sheet with pairs and constraints written as rules
  pub as_written : (x : Sheet) (end : ℕ) → opened sheet ≡ field x end → MasksFit ins outs (atoms x) → length x.rules + length (constraints_under x ins outs) ≤ most_rules
      → Says (of_sheet (sheet_bytes x.names (x.rules ++ written_rules x ins outs) []))
  -- K7: "a two-section sheet gives 1"
  pub two-sections : (x : Sheet) (end : ℕ) → two_sections sheet ≡ field x end → IsRefused 1 (length sheet)
  -- K7: a sheet of document 01 with "a last byte 0": what is said of the setting that document 01 defines for it
  pub last_byte_0 : (before : List ℕ) (x : Sheet) (end : ℕ) → sheet ≡ before ++ 0 ∷ [] → opened_two_sections before ≡ field x end → MasksFit ins outs (atoms x)
      → Says (accepted (under ins outs (unpaired x)))
  -- "with both masks zero they give today's answers": those of the sheet alone
  pub both_zero : ins ≡ ∅ → outs ≡ ∅ → Says (of_sheet sheet)
