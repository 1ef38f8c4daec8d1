-- Document 02, K1: what a calendar is read as, and when rules are in force.
use Rattle.std.specs.Prelude.{ℕ, ◌+◌, ◌*◌, Bool, true, false, List, [], ◌∷◌, ◌++◌, map}
use Rattle.sets.specs.Lists.{flat, up_to}
use Rattle.semantics.specs.Definitions.Returned.{Returned, accepted, refusal}
use Rattle.semantics.specs.Definitions.Calendar.{Entry}
use Rattle.semantics.specs.Examples.Sheets.{mask}

-- "rule number, first minute, end minute (two bytes each, low byte first [..])"
abbrev pub hours : (rule first end : ℕ) → List ℕ
hours r first end = r ∷ mask first ++ mask end

abbrev hour : (rule first end : ℕ) → Entry
hour r first end = record { rule = r; first = first; end = end }

-- ---- the reading
-- the longest calendar: 64 entries, one for every first 50 of 100 minutes; what it is read as, and the minutes of change
abbrev pub longest_hours : List ℕ
longest_hours = 64 ∷ flat (λ i. hours 0 (100 * i) (100 * i + 50)) (up_to 64)

abbrev pub longest_entries : List Entry
longest_entries = map (λ i. hour 0 (100 * i) (100 * i + 50)) (up_to 64)

abbrev pub longest_changes : List ℕ
longest_changes = flat (λ i. (100 * i) ∷ (100 * i + 50) ∷ []) (up_to 64)

-- the bytes of a calendar, the number of rules of the sheet, and what is read
abbrev pub calendars : List (List ℕ × ℕ × Returned (List Entry))
calendars =
    -- "a count byte 0 to 64": none, 0, 64 of which none is there, 65
    ([], 2, refusal 1 0)
    ∷ (0 ∷ [], 2, accepted [])
    ∷ (64 ∷ [], 2, refusal 1 1)
    ∷ (65 ∷ [], 2, refusal 2 0)
    ∷ (longest_hours, 1, accepted longest_entries)
    -- "entries of five bytes [..] low byte first": one, cut by a byte, with a byte more
    ∷ (1 ∷ 1 ∷ 1 ∷ 2 ∷ 3 ∷ 4 ∷ [], 2, accepted (hour 1 513 1027 ∷ []))
    ∷ (1 ∷ 1 ∷ 1 ∷ 2 ∷ 3 ∷ [], 2, refusal 1 5)
    ∷ (1 ∷ 1 ∷ 1 ∷ 2 ∷ 3 ∷ 4 ∷ 0 ∷ [], 2, refusal 6 6)
    ∷ (0 ∷ 0 ∷ [], 2, refusal 6 1)
    -- its bytes are all there before any is judged
    ∷ (1 ∷ 2 ∷ 1 ∷ 2 ∷ 3 ∷ [], 2, refusal 1 5)
    -- "a rule number not in the sheet": the number of rules; any where there is no rule
    ∷ (1 ∷ 2 ∷ 1 ∷ 2 ∷ 3 ∷ 4 ∷ [], 2, refusal 11 1)
    ∷ (1 ∷ 129 ∷ 1 ∷ 2 ∷ 3 ∷ 4 ∷ [], 2, refusal 11 1)
    ∷ (1 ∷ 0 ∷ 1 ∷ 2 ∷ 3 ∷ 4 ∷ [], 0, refusal 11 1)
    ∷ (0 ∷ [], 0, accepted [])
    -- "a minute over 10079", which is 39 * 256 + 95: as the first minute, as the end, and as both
    ∷ (1 ∷ 0 ∷ 95 ∷ 39 ∷ 0 ∷ 0 ∷ [], 1, accepted (hour 0 10079 0 ∷ []))
    ∷ (1 ∷ 0 ∷ 96 ∷ 39 ∷ 0 ∷ 0 ∷ [], 1, refusal 11 1)
    ∷ (1 ∷ 0 ∷ 0 ∷ 0 ∷ 95 ∷ 39 ∷ [], 1, accepted (hour 0 0 10079 ∷ []))
    ∷ (1 ∷ 0 ∷ 0 ∷ 0 ∷ 96 ∷ 39 ∷ [], 1, refusal 11 1)
    ∷ (1 ∷ 0 ∷ 96 ∷ 39 ∷ 97 ∷ 39 ∷ [], 1, refusal 11 1)
    -- "equal ends"
    ∷ (1 ∷ 0 ∷ 100 ∷ 0 ∷ 100 ∷ 0 ∷ [], 1, refusal 11 1)
    ∷ (1 ∷ 0 ∷ 0 ∷ 0 ∷ 0 ∷ 0 ∷ [], 1, refusal 11 1)
    -- "entry by entry after its bytes are present": the first is judged before the second is missing; the second has a place of its own; the
    -- entries come before what is behind them
    ∷ (2 ∷ 0 ∷ 100 ∷ 0 ∷ 100 ∷ 0 ∷ [], 1, refusal 11 1)
    ∷ (2 ∷ 0 ∷ 100 ∷ 0 ∷ 200 ∷ 0 ∷ [], 1, refusal 1 6)
    ∷ (2 ∷ 0 ∷ 100 ∷ 0 ∷ 200 ∷ 0 ∷ 0 ∷ 100 ∷ 0 ∷ 100 ∷ 0 ∷ [], 1, refusal 11 6)
    ∷ (2 ∷ 0 ∷ 100 ∷ 0 ∷ 200 ∷ 0 ∷ 0 ∷ 100 ∷ 0 ∷ 100 ∷ 0 ∷ 7 ∷ [], 1, refusal 11 6)
    ∷ (1 ∷ 0 ∷ 100 ∷ 0 ∷ 200 ∷ 0 ∷ 0 ∷ 100 ∷ 0 ∷ 100 ∷ 0 ∷ [], 1, refusal 6 6)
    ∷ []

-- ---- the rules in force
-- first minute, end, a minute, and whether the entry holds then
abbrev pub openings : List (ℕ × ℕ × ℕ × Bool)
openings =
    -- "from its first minute up to but not including its end"
    (100, 200, 99, false)
    ∷ (100, 200, 100, true)
    ∷ (100, 200, 199, true)
    ∷ (100, 200, 200, false)
    ∷ (0, 100, 0, true)
    ∷ (0, 100, 10079, false)
    ∷ (0, 10079, 10078, true)
    ∷ (0, 10079, 10079, false)
    -- "an end below the first runs over the week's close"
    ∷ (10000, 300, 9999, false)
    ∷ (10000, 300, 10000, true)
    ∷ (10000, 300, 10079, true)
    ∷ (10000, 300, 0, true)
    ∷ (10000, 300, 299, true)
    ∷ (10000, 300, 300, false)
    -- an end of 0 is the week's close
    ∷ (100, 0, 99, false)
    ∷ (100, 0, 100, true)
    ∷ (100, 0, 10079, true)
    ∷ (100, 0, 0, false)
    ∷ []

-- entries, a minute, a rule, and whether it is in force then
abbrev pub forces : List (List Entry × ℕ × ℕ × Bool)
forces =
    -- "A rule with no entry is always in force, with several whenever one holds."
    ([], 0, 0, true)
    ∷ (twice, 99, 0, false)
    ∷ (twice, 150, 0, true)
    ∷ (twice, 250, 0, false)
    ∷ (twice, 350, 0, true)
    ∷ (twice, 250, 1, true)
    -- and by its own entries
    ∷ (apart, 150, 0, true)
    ∷ (apart, 150, 1, false)
    ∷ (apart, 350, 0, false)
    ∷ (apart, 350, 1, true)
    ∷ (apart, 250, 2, true)
    ∷ []
  where
    twice : List Entry
    twice = hour 0 100 200 ∷ hour 0 300 400 ∷ []

    apart : List Entry
    apart = hour 0 100 200 ∷ hour 1 300 400 ∷ []
