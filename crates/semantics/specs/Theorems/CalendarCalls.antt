-- What the two calls that take a calendar return, and exactly when: the listing's source at a minute, and the minutes of change.
-- Assumes nothing.
-- Here the definitions; the theorems are in proofs/Theorems/CalendarCalls.antt.
use Rattle.std.specs.Prelude.{ℕ, ◌<◌, ◌≡◌, List, ◌⊎◌, length}
use Rattle.semantics.specs.Definitions.Reading.{field, refused}
use Rattle.semantics.specs.Definitions.Sheet.{Sheet}
use Rattle.semantics.specs.Definitions.Check.{opened}
use Rattle.semantics.specs.Definitions.Calendar.{last_minute, Entry, calendar_of, minutes_of_change}

-- ---- the sheet and the calendar
-- the sheet is accepted and says x, and then the calendar is, for its number of rules, and has these entries
pub record Both (sheet calendar : List ℕ) (x : Sheet) (entries : List Entry) : Type 0 where
  pub end : ℕ
  pub opens : opened sheet ≡ field x end
  pub calendar_end : ℕ
  pub reads : calendar_of calendar (length x.rules) ≡ field entries calendar_end

-- "The whole sheet is checked first [..] Then comes the calendar": one of the two is refused so
abbrev pub TurnedAway : (sheet calendar : List ℕ) (number place : ℕ) → Type 0
TurnedAway sheet calendar number place =
    (opened sheet ≡ refused number place)
    ⊎ ((x : Sheet) × (end : ℕ) × (opened sheet ≡ field x end) × (calendar_of calendar (length x.rules) ≡ refused number place))

-- ---- the source at a minute
module _ (sheet calendar : List ℕ) (minute : ℕ) where
  -- "12, place 0, for an asked minute over 10079"
  abbrev pub OverLast : (number place : ℕ) → Type 0
  OverLast number place =
      (x : Sheet) × (entries : List Entry) × Both sheet calendar x entries × (last_minute < minute) × (number ≡ 12) × (place ≡ 0)

-- ---- the minutes of change
module _ (sheet calendar : List ℕ) (words : ℕ) where
  -- "The list of minutes gets 9 with its length when the buffer is short."
  abbrev pub TooManyMinutes : (number place : ℕ) → Type 0
  TooManyMinutes number place =
      (x : Sheet) × (entries : List Entry) × Both sheet calendar x entries × (words < length (minutes_of_change entries (length x.rules)))
      × (number ≡ 9) × (place ≡ length (minutes_of_change entries (length x.rules)))
