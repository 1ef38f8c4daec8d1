-- Document 02, K1: what the two calls that take a calendar return.
use Rattle.std.specs.Prelude.{ℕ, List, [], ◌∷◌, ◌++◌, length}
use Rattle.sets.specs.Lists.{flat}
use Rattle.semantics.specs.Definitions.Returned.{Returned, accepted, refusal}
use Rattle.semantics.specs.Definitions.Listing.{tallied}
use Rattle.semantics.specs.Definitions.Calls.{Result}
use Rattle.semantics.specs.Examples.Sheets.{zeros, a, b, rule, pair, sheet_with, sheet, view, kiln, sheet_6}
use Rattle.semantics.specs.Examples.Limits.{letters}
use Rattle.semantics.specs.Examples.Listings.{result}
use Rattle.semantics.specs.Examples.Calendars.{hours}

-- "a count byte [..], then entries"
abbrev pub calendar : List (List ℕ) → List ℕ
calendar es = length es ∷ flat (λ e. e) es

-- ---- the listing at a minute
-- seven atoms under K in rule 0 and six under M in rule 1: 13 negations
abbrev thirteen : List ℕ
thirteen = letters 7 ++ 2 ∷ rule 0 0 0 0 127 0 0 0 ++ rule 0 0 0 0 0 0 63 0 ++ 0 ∷ []

-- a sheet, a calendar, a minute, the number of words lent, and the result
abbrev pub minute_listings : List (List ℕ × List ℕ × ℕ × ℕ × Returned Result)
minute_listings =
    -- a ← not K b; b ← not K a, the second from 600 to 1200: before it and after it the one negation is "not K b", with number 0
    (sheet_6.bytes, calendar (hours 1 600 1200 ∷ []), 599, 8, first)
    ∷ (sheet_6.bytes, calendar (hours 1 600 1200 ∷ []), 600, 8, both)
    ∷ (sheet_6.bytes, calendar (hours 1 600 1200 ∷ []), 1199, 8, both)
    ∷ (sheet_6.bytes, calendar (hours 1 600 1200 ∷ []), 1200, 8, first)
    -- the first by itself, the second by itself, and neither
    ∷ (sheet_6.bytes, calendar (hours 0 600 1200 ∷ hours 1 1200 1800 ∷ []), 1199, 8, first)
    ∷ (sheet_6.bytes, calendar (hours 0 600 1200 ∷ hours 1 1200 1800 ∷ []), 1200, 8, second)
    ∷ (sheet_6.bytes, calendar (hours 0 600 1200 ∷ hours 1 1200 1800 ∷ []), 1800, 8, neither)
    -- glaze or bisque; ← not K glaze, the second over the week's close
    ∷ (kiln.bytes, calendar (hours 1 10000 300 ∷ []), 9999, 4, free)
    ∷ (kiln.bytes, calendar (hours 1 10000 300 ∷ []), 10079, 4, certain)
    ∷ (kiln.bytes, calendar (hours 1 10000 300 ∷ []), 0, 4, certain)
    ∷ (kiln.bytes, calendar (hours 1 10000 300 ∷ []), 300, 4, free)
    -- no entry: the listing of the sheet, at the last minute too; "12, place 0, for an asked minute over 10079"
    ∷ (sheet_6.bytes, 0 ∷ [], 10079, 8, both)
    ∷ (sheet_6.bytes, 0 ∷ [], 10080, 8, refusal 12 0)
    -- "The whole sheet is checked first, 7 included and with all its rules counted", whatever is in force and whatever the calendar is
    ∷ (thirteen, calendar (hours 1 0 100 ∷ []), 200, 0, refusal 7 0)
    ∷ (thirteen, [], 200, 0, refusal 7 0)
    ∷ (zeros 4, 65 ∷ [], 10080, 0, refusal 6 3)
    -- "12 [..] after the calendar and before 9"
    ∷ (sheet_6.bytes, 0 ∷ 0 ∷ [], 10080, 0, refusal 6 1)
    ∷ (sheet_6.bytes, calendar (hours 2 600 1200 ∷ []), 10080, 0, refusal 11 1)
    ∷ (sheet_6.bytes, 0 ∷ [], 10080, 0, refusal 12 0)
    -- 9 with the number of views at the minute
    ∷ (sheet_6.bytes, calendar (hours 1 600 1200 ∷ []), 600, 7, refusal 9 2)
    ∷ (sheet_6.bytes, calendar (hours 1 600 1200 ∷ []), 1200, 4, first)
    ∷ (sheet_6.bytes, calendar (hours 1 600 1200 ∷ []), 1200, 3, refusal 9 1)
    ∷ []
  where
    -- a ← not K b; b ← not K a: document 01's list of sheet 6
    both : Returned Result
    both = accepted (result (tallied 2 1 1 2 0 0) (view 1 2 2 1 ∷ view 2 1 1 1 ∷ []))

    -- a ← not K b: with the negation assumed a is a fact and b is not known; the empty guess is covered
    first : Returned Result
    first = accepted (result (tallied 1 1 0 1 0 0) (view 1 1 1 1 ∷ []))

    -- b ← not K a
    second : Returned Result
    second = accepted (result (tallied 1 1 0 1 0 0) (view 1 2 2 1 ∷ []))

    -- no rule
    neither : Returned Result
    neither = accepted (result (tallied 1 0 0 1 0 0) (view 0 0 0 1 ∷ []))

    -- document 01's lists of the kiln and of "a or b"
    certain : Returned Result
    certain = accepted (result (tallied 1 0 1 1 0 0) (view 0 1 1 1 ∷ []))

    free : Returned Result
    free = accepted (result (tallied 1 0 0 1 0 0) (view 0 0 3 2 ∷ []))

-- ---- the minutes of change
-- a; a
abbrev pub equal : List ℕ
equal = sheet (a ∷ []) (rule 1 0 0 0 0 0 0 0 ∷ rule 1 0 0 0 0 0 0 0 ∷ [])

-- a; b, and the pair of both
abbrev paired : List ℕ
paired = sheet_with (a ∷ b ∷ []) (rule 1 0 0 0 0 0 0 0 ∷ rule 2 0 0 0 0 0 0 0 ∷ []) (pair 0 1 ∷ [])

-- a sheet, a calendar, the number of words lent, and the minutes
abbrev pub changes : List (List ℕ × List ℕ × ℕ × Returned (List ℕ))
changes =
    (equal, 0 ∷ [], 0, accepted [])
    ∷ (equal, calendar (hours 0 100 200 ∷ []), 2, accepted (100 ∷ 200 ∷ []))
    ∷ (equal, calendar (hours 0 100 200 ∷ hours 0 100 200 ∷ []), 3, accepted (100 ∷ 200 ∷ []))
    -- one rule in touching and in overlapping hours stays in force; two rules are "told apart by number", though they are equal
    ∷ (equal, calendar (hours 0 0 100 ∷ hours 0 100 200 ∷ []), 3, accepted (0 ∷ 200 ∷ []))
    ∷ (equal, calendar (hours 0 150 300 ∷ hours 0 100 200 ∷ []), 3, accepted (100 ∷ 300 ∷ []))
    ∷ (equal, calendar (hours 0 0 100 ∷ hours 1 100 200 ∷ []), 3, accepted (0 ∷ 100 ∷ 200 ∷ []))
    ∷ (equal, calendar (hours 0 100 200 ∷ hours 1 200 100 ∷ []), 2, accepted (100 ∷ 200 ∷ []))
    ∷ (equal, calendar (hours 1 100 300 ∷ hours 0 100 200 ∷ []), 3, accepted (100 ∷ 200 ∷ 300 ∷ []))
    -- over the week's close, and "minute 0 being compared with 10079"
    ∷ (equal, calendar (hours 0 10000 300 ∷ []), 2, accepted (300 ∷ 10000 ∷ []))
    ∷ (equal, calendar (hours 0 0 10079 ∷ []), 2, accepted (0 ∷ 10079 ∷ []))
    ∷ (equal, calendar (hours 0 10079 0 ∷ []), 2, accepted (0 ∷ 10079 ∷ []))
    ∷ (equal, calendar (hours 0 1 0 ∷ []), 2, accepted (0 ∷ 1 ∷ []))
    ∷ (equal, calendar (hours 0 0 5000 ∷ hours 0 5000 0 ∷ []), 0, accepted [])
    -- "The list of minutes gets 9 with its length when the buffer is short."
    ∷ (equal, calendar (hours 0 100 200 ∷ []), 1, refusal 9 2)
    ∷ (equal, calendar (hours 0 0 100 ∷ hours 1 100 200 ∷ []), 2, refusal 9 3)
    -- sheet and calendar come first
    ∷ (thirteen, [], 0, refusal 7 0)
    ∷ (equal, [], 0, refusal 1 0)
    ∷ (equal, calendar (hours 2 100 200 ∷ []), 0, refusal 11 1)
    -- K7: a pair changes no minute, and has no rule number; one atom twice in a pair
    ∷ (paired, calendar (hours 0 100 300 ∷ hours 1 200 400 ∷ []), 4, accepted (100 ∷ 200 ∷ 300 ∷ 400 ∷ []))
    ∷ (paired, calendar (hours 2 100 200 ∷ []), 0, refusal 11 1)
    ∷ (sheet_with (a ∷ []) [] (pair 0 0 ∷ []), [], 0, refusal 15 5)
    ∷ []
