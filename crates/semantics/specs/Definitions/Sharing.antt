-- Document 02, K4: "Four studios on one allowance." Without a walk: the tests that each sheet's own listing makes, the turns of the sheets,
-- and what each sheet has after the turns that the allowance pays for. ("The call starts afresh": it takes no state.)
use Rattle.std.specs.Prelude.{ℕ, suc, ◌+◌, Bool, true, cond, ◌&&◌, List, [], ◌∷◌, ◌++◌, map, eqb, leb, ltb, length, get_or, take, drop}
use Rattle.sets.specs.Lists.{null, keep, flat, up_to}
use Rattle.semantics.specs.Definitions.Setting.{Setting, k}
use Rattle.semantics.specs.Definitions.Returned.{Returned, accepted, refusal, limited, written}
use Rattle.semantics.specs.Definitions.Check.{of_sheet}
use Rattle.semantics.specs.Definitions.Order.{order}
use Rattle.semantics.specs.Definitions.Listing.{tested, View, views_along, words}
use Rattle.semantics.specs.Definitions.Calls.{records_need}

-- ---- a sheet's own listing, test by test
-- the guesses that it tests, in the order: "covered and ruled guesses being free"
unfoldable pub tests_of : Setting → List ℕ
tests_of s = keep (tested s) (order (k s))

-- the views that "its own listing meets in as many tests": those of the world views among its first t tests
unfoldable pub met_in : Setting → (t : ℕ) → List View
met_in s t = views_along s (take t (tests_of s))

-- ""Finished" is said exactly when no guess that would be tested remains; covered and ruled guesses are passed over even with the allowance
-- spent or zero": no test is left after t
unfoldable pub finished_in : Setting → (t : ℕ) → Bool
finished_in s t = null (drop t (tests_of s))

-- ---- the turns of sheets that have so many tests to make, by their positions from 0
-- in round r "the unfinished sheets in their order, one test each"
abbrev pub round : (many : List ℕ) (r : ℕ) → List ℕ
round many r = keep (λ p. ltb r (get_or many p 0)) (up_to (length many))

unfoldable pub in_all : List ℕ → ℕ
in_all [] = 0
in_all (n ∷ ns) = n + in_all ns

-- round after round until "all are finished": later rounds have no turns (crate `allowance`, `later_rounds`)
unfoldable pub turns : (many : List ℕ) → List ℕ
turns many = flat (round many) (up_to (in_all many))

-- how many of these turns a sheet has
unfoldable pub turns_at : List ℕ → (position : ℕ) → ℕ
turns_at ps p = length (keep (eqb p) ps)

-- ---- what the call gives
-- of a sheet: whether it is finished, its tests, and its views (what the result carries of these: `Numbers`)
pub record Share : Type 0 where
  pub finished : Bool
  pub tests : ℕ
  pub views : List View

abbrev pub share_of : Setting → (t : ℕ) → Share
share_of s t = record { finished = finished_in s t; tests = t; views = met_in s t }

-- "The tests used, carried in the result for each sheet and in all"
pub record Shares : Type 0 where
  pub tests : ℕ
  pub each : List Share

-- of the sheets from a position on, where these turns were had
unfoldable pub shares_from : (turns : List ℕ) (position : ℕ) → List Setting → List Share
shares_from ps p [] = []
shares_from ps p (s ∷ ss) = share_of s (turns_at ps p) ∷ shares_from ps (suc p) ss

-- "until the allowance is spent or all are finished": the turns that the allowance pays for
abbrev pub paid : (allowance : ℕ) → List Setting → List ℕ
paid allowance ss = take allowance (turns (map (λ s. length (tests_of s)) ss))

abbrev pub shares_of : (allowance : ℕ) → List Setting → Shares
shares_of allowance ss = record { tests = length (paid allowance ss); each = shares_from (paid allowance ss) 0 ss }

-- ---- refusals
-- values, or "the first refusal, sheet by sheet, [..] with the sheet's position from 0"
pub data Shared (A : Type 0) : Type 0 where
  granted : (values : A) → Shared A
  denied : (number place position : ℕ) → Shared A

infixr 30 ◌and_so◌
-- a step, and then the rest; where the step is refused, so is the whole
abbrev pub ◌and_so◌ : {A B : Type 0} → Shared A → (A → Shared B) → Shared B
(granted values) and_so rest = rest values
(denied number place position) and_so rest = denied number place position

-- a sheet's step at its position
abbrev pub standing : {A : Type 0} → (position : ℕ) → Returned A → Shared A
standing p (accepted values) = granted values
standing p (refusal number place) = denied number place p

-- a step for each sheet, from a position on
unfoldable pub sheet_by_sheet : {A B : Type 0} → (step : ℕ → A → Returned B) (position : ℕ) → List A → Shared (List B)
sheet_by_sheet step p [] = granted []
sheet_by_sheet step p (x ∷ xs) = standing p (step p x) and_so λ y. sheet_by_sheet step (suc p) xs and_so λ ys. granted (y ∷ ys)

-- the sheets, each read, "without day masks"
abbrev pub of_sheets : List (List ℕ) → Shared (List Setting)
of_sheets sheets = sheet_by_sheet (λ _ sheet. of_sheet sheet) 0 sheets

-- "Each sheet has its own output buffer": so many words each. "Here 9 is given, with the number of views reached, when those don't fit"
abbrev pub share_into : (words : List ℕ) (position : ℕ) → Share → Returned Share
share_into words p x = limited (records_need (length x.views)) (get_or words p 0) (length x.views) x

abbrev pub shares_into : (words : List ℕ) → Shares → Shared Shares
shares_into words r = sheet_by_sheet (share_into words) 0 r.each and_so λ _. granted r

abbrev pub most_sheets : ℕ
most_sheets = 4

-- the call, of the first `count` of these sheets: "14, place and position 0, for no sheet or more than four, before any sheet is read"; the checks of every
-- sheet; then 9
unfoldable pub share_call : (count : ℕ) (sheets : List (List ℕ)) (allowance : ℕ) (words : List ℕ) → Shared Shares
share_call count sheets allowance words =
    cond (ltb 0 count && leb count most_sheets) (of_sheets (take count sheets) and_so λ ss. shares_into words (shares_of allowance ss)) (denied 14 0 0)

-- ---- what the result carries
-- of a sheet: "The tests used", "The views of each sheet, their number in the result", and whether it is finished
pub record Numbers : Type 0 where
  pub finished : Bool
  pub tests : ℕ
  pub views : ℕ

abbrev pub numbers_of : Share → Numbers
numbers_of x = record { finished = x.finished; tests = x.tests; views = length x.views }

-- in all, and of each of four places; one without a sheet has nothing left to test, no tests and no views
pub record Carried : Type 0 where
  pub tests : ℕ
  pub each : List Numbers

abbrev pub absent : Numbers
absent = record { finished = true; tests = 0; views = 0 }

abbrev pub filled : List Numbers → List Numbers
filled ns = take most_sheets (ns ++ absent ∷ absent ∷ absent ∷ absent ∷ [])

abbrev pub carried : Shared Shares → Shared Carried
carried r = r and_so λ v. granted (record { tests = v.tests; each = filled (map numbers_of v.each) })

-- ---- the lent buffers, one for each sheet
-- each with the records of its sheet at its front; those of no sheet as they were
unfoldable pub handed : List Share → (buffers : List (List ℕ)) → List (List ℕ)
handed [] buffers = buffers
handed (x ∷ xs) [] = []
handed (x ∷ xs) (b ∷ bs) = written (words x.views) b ∷ handed xs bs

-- where the call is refused, "all buffers holding what they held"
abbrev pub lent_after : Shared Shares → (buffers : List (List ℕ)) → List (List ℕ)
lent_after (granted r) buffers = handed r.each buffers
lent_after (denied number place position) buffers = buffers
