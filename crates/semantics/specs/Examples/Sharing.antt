-- Document 02, K4, "Four studios on one allowance": what the call gives for so many of four sheets, an allowance and four lengths of buffers, and
-- what the buffers then hold, worked out by hand.
use Rattle.std.specs.Prelude.{ℕ, true, false, List, [], ◌∷◌, ◌++◌, map}
use Rattle.semantics.specs.Definitions.Listing.{View}
use Rattle.semantics.specs.Definitions.Sharing.{Share, Shares, Shared, granted, denied}
use Rattle.semantics.specs.Examples.Sheets.{zeros, a, b, sheet, sheet_with, pair, rule, view, kiln, sheet_2, sheet_6, sheet_9}
use Rattle.semantics.specs.Examples.Limits.{letters}

-- ---- sheets, with their guesses in the order
-- no test. Sheet 9, a; ← a: 0 is ruled
abbrev none : List ℕ
none = sheet_9.bytes

-- one test. Sheet 2, a ← K a: 1 is tested, a view; 0 is covered
abbrev one : List ℕ
one = sheet_2.bytes

abbrev one_view : List View
one_view = view 1 0 0 1 ∷ []

-- one test. The kiln example: 1 is ruled; 0 is tested, a view
abbrev oven : List ℕ
oven = kiln.bytes

-- one test. b ← not b; ← K a: 1 is tested, W is empty; 0 is ruled, for a is in F and "not K a" left out
abbrev vain : List ℕ
vain = sheet (a ∷ b ∷ []) (rule 2 0 2 0 0 0 0 0 ∷ rule 0 0 0 0 1 0 0 0 ∷ [])

-- two tests. Sheet 6, a ← not K b; b ← not K a: 3 is ruled; 1 and 2 are tested, views; 0 is covered
abbrev two : List ℕ
two = sheet_6.bytes

abbrev first_of_two : List View
first_of_two = view 1 2 2 1 ∷ []

abbrev two_views : List View
two_views = view 1 2 2 1 ∷ view 2 1 1 1 ∷ []

-- two tests. a ← not a, M a: 1 is tested, a ← not a has no stable set; 0 is tested, a ← not a, not not a has ∅, a view
abbrev late : List ℕ
late = sheet (a ∷ []) (rule 1 0 1 0 0 0 1 0 ∷ [])

abbrev late_view : List View
late_view = view 0 0 0 1 ∷ []

-- three tests. a ← not not a; b ← not not b; ← not a, not K b; ← not b, not K a. T and F are ∅ by every guess. 3 is tested: W is {a, b} and finds 0;
-- 1 is tested: the constraints are ← not a, not b and ← not b, W is {b} and {a, b}, a view; 2 likewise, with {a} and {a, b}; 0 is covered
abbrev three : List ℕ
three =
    sheet (a ∷ b ∷ []) (rule 1 0 0 1 0 0 0 0 ∷ rule 2 0 0 2 0 0 0 0 ∷ rule 0 0 1 0 0 2 0 0 ∷ rule 0 0 2 0 0 1 0 0 ∷ [])

abbrev first_of_three : List View
first_of_three = view 1 2 3 2 ∷ []

abbrev three_views : List View
three_views = view 1 2 3 2 ∷ view 2 1 3 2 ∷ []

-- no byte: 1, place 0, where it is read
abbrev no_sheet : List ℕ
no_sheet = []

-- seven atoms under K and six under M: 7
abbrev thirteen : List ℕ
thirteen = letters 7 ++ 1 ∷ rule 0 0 0 0 127 0 63 0 ++ 0 ∷ []

-- a pair of one atom: its place is 7
abbrev same : List ℕ
same = sheet_with (a ∷ b ∷ []) [] (pair 1 1 ∷ [])

-- a byte too many, at 3
abbrev longer : List ℕ
longer = zeros 4

-- ---- turns
-- how many tests sheets have to make, and the turns, by the sheets' positions
abbrev pub turn_lists : List (List ℕ × List ℕ)
turn_lists =
    (1 ∷ 2 ∷ 3 ∷ [], 0 ∷ 1 ∷ 2 ∷ 1 ∷ 2 ∷ 2 ∷ [])
    ∷ (3 ∷ 0 ∷ 2 ∷ 1 ∷ [], 0 ∷ 2 ∷ 3 ∷ 0 ∷ 2 ∷ 0 ∷ [])
    ∷ (2 ∷ 2 ∷ [], 0 ∷ 1 ∷ 0 ∷ 1 ∷ [])
    ∷ (0 ∷ 0 ∷ [], [])
    ∷ []

-- ---- what is given
abbrev four_of : {A : Type 0} → (x y z w : A) → List A
four_of x y z w = x ∷ y ∷ z ∷ w ∷ []

-- a sheet that is finished, and one that is not, with its tests and views
abbrev done : (tests : ℕ) → List View → Share
done tests views = record { finished = true; tests = tests; views = views }

abbrev left : (tests : ℕ) → List View → Share
left tests views = record { finished = false; tests = tests; views = views }

-- the tests in all, and the sheets
abbrev given : (tests : ℕ) → List Share → Shared Shares
given tests each = granted (record { tests = tests; each = each })

-- how many sheets, the sheets, the allowance, the words lent for each, and what is given
abbrev Call : Type 0
Call = ℕ × List (List ℕ) × ℕ × List ℕ × Shared Shares

-- "Finished"
abbrev pub finished_calls : List Call
finished_calls =
    -- "covered and ruled guesses are passed over even with the allowance [..] zero": finished is the sheet whose one guess is ruled, and not the
    -- others, whether a guess is ruled before their test or after it
    (4, four_of none oven vain one, 0, four_of 0 4 0 4, given 0 (done 0 [] ∷ left 0 [] ∷ left 0 [] ∷ left 0 [] ∷ []))
    -- "even with the allowance spent": by the last paid test, after which all are covered, or all are ruled; and no test more is made
    ∷ (1, four_of one no_sheet no_sheet no_sheet, 1, four_of 4 0 0 0, given 1 (done 1 one_view ∷ []))
    ∷ (1, four_of one no_sheet no_sheet no_sheet, 2, four_of 4 0 0 0, given 1 (done 1 one_view ∷ []))
    ∷ (1, four_of vain no_sheet no_sheet no_sheet, 1, four_of 0 0 0 0, given 1 (done 1 [] ∷ []))
    ∷ []

-- "when those don't fit"
abbrev pub fit_calls : List Call
fit_calls =
    -- the views reached: one of two, in as many words as it needs, and in one fewer; none, in no word; both
    (1, four_of two no_sheet no_sheet no_sheet, 1, four_of 4 0 0 0, given 1 (left 1 first_of_two ∷ []))
    ∷ (1, four_of two no_sheet no_sheet no_sheet, 1, four_of 3 0 0 0, denied 9 1 0)
    ∷ (1, four_of two no_sheet no_sheet no_sheet, 0, four_of 0 0 0 0, given 0 (left 0 [] ∷ []))
    ∷ (1, four_of two no_sheet no_sheet no_sheet, 2, four_of 7 0 0 0, denied 9 2 0)
    ∷ []

-- "one test each"
abbrev pub round_calls : List Call
round_calls =
    -- sheets of one, two and three tests, by every allowance
    (3, four_of one late three no_sheet, 0, four_of 4 4 8 0, given 0 (left 0 [] ∷ left 0 [] ∷ left 0 [] ∷ []))
    ∷ (3, four_of one late three no_sheet, 1, four_of 4 4 8 0, given 1 (done 1 one_view ∷ left 0 [] ∷ left 0 [] ∷ []))
    ∷ (3, four_of one late three no_sheet, 2, four_of 4 4 8 0, given 2 (done 1 one_view ∷ left 1 [] ∷ left 0 [] ∷ []))
    ∷ (3, four_of one late three no_sheet, 3, four_of 4 4 8 0, given 3 (done 1 one_view ∷ left 1 [] ∷ left 1 [] ∷ []))
    ∷ (3, four_of one late three no_sheet, 4, four_of 4 4 8 0, given 4 (done 1 one_view ∷ done 2 late_view ∷ left 1 [] ∷ []))
    ∷ (3, four_of one late three no_sheet, 5, four_of 4 4 8 0, given 5 (done 1 one_view ∷ done 2 late_view ∷ left 2 first_of_three ∷ []))
    ∷ (3, four_of one late three no_sheet, 6, four_of 4 4 8 0, given 6 (done 1 one_view ∷ done 2 late_view ∷ done 3 three_views ∷ []))
    ∷ (3, four_of one late three no_sheet, 7, four_of 4 4 8 0, given 6 (done 1 one_view ∷ done 2 late_view ∷ done 3 three_views ∷ []))
    ∷ []

abbrev pub order_calls : List Call
order_calls =
    -- "in their order": the same with the longest first; and one that has no test before those that have
    (3, four_of three one late no_sheet, 4, four_of 8 4 4 0, given 4 (left 2 first_of_three ∷ done 1 one_view ∷ left 1 [] ∷ []))
    ∷ (3, four_of none late two no_sheet, 3, four_of 0 4 4 0, given 3 (done 0 [] ∷ done 2 late_view ∷ left 1 first_of_two ∷ []))
    -- equal sheets have their own turns and tests
    ∷ (2, four_of late late no_sheet no_sheet, 3, four_of 4 0 0 0, given 3 (done 2 late_view ∷ left 1 [] ∷ []))
    ∷ (4, four_of one one one one, 3, four_of 4 4 4 0, given 3 (done 1 one_view ∷ done 1 one_view ∷ done 1 one_view ∷ left 0 [] ∷ []))
    ∷ []

-- 9 "with the sheet's position from 0"
abbrev pub nine_calls : List Call
nine_calls =
    -- the first sheet whose views don't fit, and its number; a buffer beyond the sheets is not looked at
    (3, four_of one two late no_sheet, 9, four_of 3 7 3 0, denied 9 1 0)
    ∷ (3, four_of one two late no_sheet, 9, four_of 4 7 3 0, denied 9 2 1)
    ∷ (3, four_of one two late no_sheet, 9, four_of 4 8 3 0, denied 9 1 2)
    ∷ (3, four_of one two late one, 9, four_of 4 8 4 0, given 5 (done 1 one_view ∷ done 2 two_views ∷ done 2 late_view ∷ []))
    ∷ []

-- "the first refusal, sheet by sheet"
abbrev pub denied_calls : List Call
denied_calls =
    -- 9 "only after every sheet has passed the other checks"
    (2, four_of one longer no_sheet no_sheet, 2, four_of 0 0 0 0, denied 6 3 1)
    ∷ (4, four_of one one one same, 9, four_of 0 0 0 0, denied 15 7 3)
    -- 7 of a sheet before 1 of the next
    ∷ (3, four_of one thirteen no_sheet longer, 9, four_of 4 0 0 0, denied 7 0 1)
    ∷ (2, four_of longer no_sheet no_sheet no_sheet, 9, four_of 4 4 4 4, denied 6 3 0)
    -- "for no sheet or more than four, before any sheet is read"
    ∷ (0, four_of longer no_sheet no_sheet no_sheet, 9, four_of 4 4 4 4, denied 14 0 0)
    ∷ (5, four_of longer no_sheet no_sheet no_sheet, 9, four_of 4 4 4 4, denied 14 0 0)
    ∷ (5, four_of one one one one, 0, four_of 4 4 4 4, denied 14 0 0)
    ∷ []

-- ---- the buffers
abbrev sevens : ℕ → List ℕ
sevens n = map (λ _. 7) (zeros n)

-- how many sheets, the sheets, the allowance, the buffers, and the buffers then
abbrev pub lent_buffers : List (ℕ × List (List ℕ) × ℕ × List (List ℕ) × List (List ℕ))
lent_buffers =
    -- each sheet's views in its own buffer, then what stood there; what is lent beyond the sheets as it was
    (
      3,
      four_of two vain one no_sheet,
      4,
      four_of (sevens 9) (sevens 1) (sevens 4) (sevens 5),
      four_of (1 ∷ 2 ∷ 2 ∷ 1 ∷ 2 ∷ 1 ∷ 1 ∷ 1 ∷ 7 ∷ []) (sevens 1) (1 ∷ 0 ∷ 0 ∷ 1 ∷ []) (sevens 5),
    )
    -- the views reached alone: the room for the others is kept
    ∷ (
      2,
      four_of two one no_sheet no_sheet,
      1,
      four_of (sevens 9) (sevens 4) [] [],
      four_of (1 ∷ 2 ∷ 2 ∷ 1 ∷ sevens 5) (sevens 4) [] [],
    )
    -- "all buffers holding what they held": 9 of the second sheet, a second sheet that is refused, five sheets
    ∷ (
      2,
      four_of two one no_sheet no_sheet,
      2,
      four_of (sevens 9) (sevens 3) (sevens 1) [],
      four_of (sevens 9) (sevens 3) (sevens 1) [],
    )
    ∷ (2, four_of two longer no_sheet no_sheet, 2, four_of (sevens 9) (sevens 9) [] [], four_of (sevens 9) (sevens 9) [] [])
    ∷ (5, four_of two one one one, 2, four_of (sevens 9) (sevens 9) [] [], four_of (sevens 9) (sevens 9) [] [])
    ∷ []
