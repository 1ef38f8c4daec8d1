-- Document 01, "Turned back at the door": what the calls for a guess, the listing and the query return, for every source, guess, atom and
-- number of words. A source, `from`, is the setting that a call is said of, or the refusal that comes before all that is checked here. The
-- calls of document 01 have `of_sheet` (Check.antt) of the sheet's bytes, which refuses with 1 to 7 and 15; those sold have `of_day` (Day.antt) and
-- `of_minute` (Calendar.antt), which begin with it.
use Rattle.std.specs.Prelude.{ℕ, ◌*◌, ◌^◌, Bool, cond, List, ltb, length}
use Rattle.semantics.specs.Definitions.Setting.{Setting, k}
use Rattle.semantics.specs.Definitions.Returned.{Returned, accepted, refusal, ◌and_then◌, answer, limited}
use Rattle.semantics.specs.Definitions.Verdict.{belief_sets, Verdict, verdict}
use Rattle.semantics.specs.Definitions.Listing.{Tally, tally_of, View, listing, words}
use Rattle.semantics.specs.Definitions.Query.{Answer, query}

-- a source with one check more: the refusal of that number and place where it is not passed
abbrev pub provided : (passed : Setting → Bool) (number place : ℕ) → (from : Returned Setting) → Returned Setting
provided passed number place from = from and_then λ s. cond (passed s) (accepted s) (refusal number place)

-- of a number n that has to be below a bound; place 0
abbrev pub provided_below : (bound : Setting → ℕ) (number : ℕ) → (from : Returned Setting) (n : ℕ) → Returned Setting
provided_below bound number from n = provided (λ s. ltb n (bound s)) number 0 from

-- for a guess: "8, 0" where "guess not below 2^k"
unfoldable pub for_guess : (from : Returned Setting) (guess : ℕ) → Returned Setting
for_guess = provided_below (λ s. 2 ^ k s) 8

-- for an atom: "10, 0" where "queried atom number not below the atom count"
unfoldable pub for_atom : (from : Returned Setting) (atom : ℕ) → Returned Setting
for_atom = provided_below (λ s. s.atoms) 10

-- "Verdict on a guess"
unfoldable pub verdict_call : (from : Returned Setting) (guess : ℕ) → Returned Verdict
verdict_call from g = answer (λ s. verdict s g) (for_guess from g)

-- the sets w into so many words: 9 where "more sets than words"
abbrev pub sets_into : (words : ℕ) → List ℕ → Returned (List ℕ)
sets_into words w = limited (length w) words (length w) w

-- "Belief sets of a guess: W by rising number, into a lent buffer of 16-bit words, with the count; an empty W gives count 0." The count is
-- `answer length` of it. ("Words after the last set keep their contents.": `afterwards`.)
unfoldable pub belief_sets_call : (from : Returned Setting) (guess words : ℕ) → Returned (List ℕ)
belief_sets_call from g words = for_guess from g and_then λ s. sets_into words (belief_sets s g)

-- "The result has views, covered, ruled, tested, empty, other." And the views, which are written as records.
pub record Result : Type 0 where
  pub tally : Tally
  pub views : List View

abbrev pub result_of : Setting → Result
result_of s = record { tally = tally_of s; views = listing s }

-- "Each record is written into its own part of the lent buffer"
abbrev pub records_of : Result → List ℕ
records_of r = words r.views

-- the result of a listing into so many words, where views need some of them: 9 where these are "over the words"
abbrev pub result_into : (needed : ℕ → ℕ) (words : ℕ) → Result → Returned Result
result_into needed words r = limited (needed (length r.views)) words (length r.views) r

-- a listing into so many words
abbrev pub list_into : (needed : ℕ → ℕ) (from : Returned Setting) (words : ℕ) → Returned Result
list_into needed from words = from and_then λ s. result_into needed words (result_of s)

-- "4 times views"
abbrev pub records_need : (views : ℕ) → ℕ
records_need views = 4 * views

-- "Order and listing"; 9 where these are "over the words". The six numbers are `answer (λ r. r.tally)` of it, the lent buffer then
-- `afterwards records_of` of it. ("Words after the last record keep their contents.")
abbrev pub list_call : (from : Returned Setting) (words : ℕ) → Returned Result
list_call = list_into records_need

-- "Query of an atom"
unfoldable pub query_call : (from : Returned Setting) (atom : ℕ) → Returned Answer
query_call from a = answer (λ s. query s a) (for_atom from a)
