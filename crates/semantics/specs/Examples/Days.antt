-- Document 02, K3: what the calls return under the day's masks, and which guesses are then contradicted, worked out by hand. The masks stand
-- as `ins outs`; {a} is 1, {b} is 2, {c} is 4.
use Rattle.std.specs.Prelude.{ℕ, ◌+◌, ◌*◌, Bool, true, false, List, [], ◌∷◌, ◌++◌}
use Rattle.semantics.specs.Definitions.Returned.{Returned, accepted, refusal}
use Rattle.semantics.specs.Definitions.Verdict.{Verdict, empty, other, verified}
use Rattle.semantics.specs.Definitions.Listing.{tallied}
use Rattle.semantics.specs.Definitions.Calls.{Result}
use Rattle.semantics.specs.Definitions.Query.{Answer, Yes, No, Open, None}
use Rattle.semantics.specs.Examples.Sheets.{zeros, a, b, c, sheet, rule, view, kiln, sheet_2, sheet_6, sheet_7}
use Rattle.semantics.specs.Examples.Limits.{letters}
use Rattle.semantics.specs.Examples.Listings.{result}

-- ---- sheets
-- seven atoms under K and six under M
abbrev thirteen : List ℕ
thirteen = letters 7 ++ 1 ∷ rule 0 0 0 0 127 0 63 0 ++ 0 ∷ []

-- a ← not not a; b ← K a. The one negation is "not K a". By guess 0 the second rule is b ← a, and W is ∅ and {a, b}; by guess 1 it is
-- deleted, and W is ∅ and {a}
abbrev choice : List ℕ
choice = sheet (a ∷ b ∷ []) (rule 1 0 0 1 0 0 0 0 ∷ rule 2 0 0 0 1 0 0 0 ∷ [])

-- a ← not not a; b ← not not b; c ← not not c. Each of the eight sets is stable
abbrev free : List ℕ
free = sheet (a ∷ b ∷ c ∷ []) (rule 1 0 0 1 0 0 0 0 ∷ rule 2 0 0 2 0 0 0 0 ∷ rule 4 0 0 4 0 0 0 0 ∷ [])

-- a or b
abbrev either : List ℕ
either = sheet (a ∷ b ∷ []) (rule 3 0 0 0 0 0 0 0 ∷ [])

-- a ← b; b ← a. Stable is ∅
abbrev circle : List ℕ
circle = sheet (a ∷ b ∷ []) (rule 1 2 0 0 0 0 0 0 ∷ rule 2 1 0 0 0 0 0 0 ∷ [])

-- a ← not not b; b ← not not a. Stable are ∅ and {a, b}
abbrev together : List ℕ
together = sheet (a ∷ b ∷ []) (rule 1 0 0 2 0 0 0 0 ∷ rule 2 0 0 1 0 0 0 0 ∷ [])

-- a ← not not a; b ← a; ← b
abbrev chosen : List ℕ
chosen = sheet (a ∷ b ∷ []) (rule 1 0 0 1 0 0 0 0 ∷ rule 2 1 0 0 0 0 0 0 ∷ rule 0 2 0 0 0 0 0 0 ∷ [])

-- a or b; ← b
abbrev forced : List ℕ
forced = sheet (a ∷ b ∷ []) (rule 3 0 0 0 0 0 0 0 ∷ rule 0 2 0 0 0 0 0 0 ∷ [])

-- no rule, and the fact a
abbrev bare : List ℕ
bare = sheet (a ∷ []) []

abbrev fact : List ℕ
fact = sheet (a ∷ []) (rule 1 0 0 0 0 0 0 0 ∷ [])

-- ---- verdicts
-- a sheet, the masks, a guess, and the verdict
abbrev pub day_verdicts : List (List ℕ × ℕ × ℕ × ℕ × Returned Verdict)
day_verdicts =
    -- "a mask bit at or above the atom count": of the kiln's two atoms, where W of guess 0 is {glaze}; then of none
    (kiln.bytes, 3, 0, 0, accepted empty)
    ∷ (kiln.bytes, 4, 0, 0, refusal 13 0)
    ∷ (kiln.bytes, 0, 3, 0, accepted empty)
    ∷ (kiln.bytes, 0, 4, 0, refusal 13 0)
    ∷ (kiln.bytes, 5, 0, 0, refusal 13 0)
    ∷ (kiln.bytes, 0, 32769, 0, refusal 13 0)
    ∷ (sheet [] [], 0, 0, 0, accepted (verified 0 0 1))
    ∷ (sheet [] [], 1, 0, 0, refusal 13 0)
    ∷ (sheet [] [], 0, 1, 0, refusal 13 0)
    -- "or an atom in both masks"
    ∷ (kiln.bytes, 1, 2, 0, accepted (verified 1 1 1))
    ∷ (kiln.bytes, 2, 2, 0, refusal 13 0)
    ∷ (kiln.bytes, 1, 3, 0, refusal 13 0)
    ∷ (kiln.bytes, 3, 1, 0, refusal 13 0)
    -- "after 7 and before 8": the sheet, the masks, the guess
    ∷ (zeros 4, 1, 0, 1, refusal 6 3)
    ∷ (thirteen, 1, 1, 0, refusal 7 0)
    ∷ (sheet_7.bytes, 2, 0, 1, refusal 13 0)
    ∷ (sheet_7.bytes, 1, 1, 1, refusal 13 0)
    ∷ (sheet_7.bytes, 1, 0, 1, refusal 8 0)
    -- a ← not not a; b ← K a, guess 0, from "other", where ∅ and {a, b} find "not K a": {a, b} by itself is "verified", ∅ by itself is not,
    -- and no set has a without b
    ∷ (choice, 0, 0, 0, accepted (other 1))
    ∷ (choice, 1, 0, 0, accepted (verified 3 3 1))
    ∷ (choice, 2, 0, 0, accepted (verified 3 3 1))
    ∷ (choice, 0, 1, 0, accepted (other 1))
    ∷ (choice, 1, 2, 0, accepted empty)
    -- guess 1, from "verified", where ∅ and {a} find it: {a} by itself finds guess 0, no set has b, ∅ by itself is "verified", and neither has b
    ∷ (choice, 0, 0, 1, accepted (verified 0 1 2))
    ∷ (choice, 1, 0, 1, accepted (other 0))
    ∷ (choice, 2, 0, 1, accepted empty)
    ∷ (choice, 0, 1, 1, accepted (verified 0 0 1))
    ∷ (choice, 0, 2, 1, accepted (verified 0 1 2))
    -- a ← not K b; b ← not K a, guess 0: {a} and {b} find both negations, {a} by itself finds "not K b"
    ∷ (sheet_6.bytes, 0, 0, 0, accepted (other 3))
    ∷ (sheet_6.bytes, 1, 0, 0, accepted (other 2))
    -- a ← K a, guess 0: the reduct is a ← a, and its one stable set, ∅, has not the in-atom
    ∷ (sheet_2.bytes, 0, 0, 0, accepted (other 1))
    ∷ (sheet_2.bytes, 1, 0, 0, accepted empty)
    ∷ []

-- ---- belief sets
-- a sheet, the masks, a guess, the number of words lent, and the belief sets
abbrev pub day_sets : List (List ℕ × ℕ × ℕ × ℕ × ℕ × Returned (List ℕ))
day_sets =
    -- a ← not not a: an in-atom keeps the one set, an out-atom the other
    (sheet_7.bytes, 0, 0, 0, 2, accepted (0 ∷ 1 ∷ []))
    ∷ (sheet_7.bytes, 1, 0, 0, 2, accepted (1 ∷ []))
    ∷ (sheet_7.bytes, 0, 1, 0, 2, accepted (0 ∷ []))
    -- "every "in" atom, no "out" atom", of eight sets
    ∷ (free, 1, 0, 0, 8, accepted (1 ∷ 3 ∷ 5 ∷ 7 ∷ []))
    ∷ (free, 5, 0, 0, 8, accepted (5 ∷ 7 ∷ []))
    ∷ (free, 0, 5, 0, 8, accepted (0 ∷ 2 ∷ []))
    ∷ (free, 1, 4, 0, 8, accepted (1 ∷ 3 ∷ []))
    ∷ (free, 2, 5, 0, 8, accepted (2 ∷ []))
    -- the number of sets is the one under the masks
    ∷ (free, 1, 4, 0, 2, accepted (1 ∷ 3 ∷ []))
    ∷ (free, 1, 4, 0, 1, refusal 9 2)
    -- a or b. "and is stable as before": {a, b} has smaller models, {a} and {b}, and that they lack an in-atom does not make it stable
    ∷ (either, 1, 0, 0, 2, accepted (1 ∷ []))
    ∷ (either, 0, 1, 0, 2, accepted (2 ∷ []))
    ∷ (either, 3, 0, 0, 0, accepted [])
    ∷ (either, 0, 3, 0, 0, accepted [])
    -- a ← b; b ← a: {a, b} has the smaller model ∅, though that lacks the in-atom
    ∷ (circle, 0, 0, 0, 1, accepted (0 ∷ []))
    ∷ (circle, 1, 0, 0, 0, accepted [])
    ∷ (circle, 3, 0, 0, 0, accepted [])
    ∷ (circle, 0, 1, 0, 1, accepted (0 ∷ []))
    -- a ← not not b; b ← not not a: here {a, b} is stable
    ∷ (together, 0, 0, 0, 2, accepted (0 ∷ 3 ∷ []))
    ∷ (together, 1, 0, 0, 1, accepted (3 ∷ []))
    ∷ (together, 0, 2, 0, 1, accepted (0 ∷ []))
    ∷ (together, 1, 2, 0, 0, accepted [])
    -- the masks before the guess and before 9
    ∷ (sheet_7.bytes, 2, 0, 1, 0, refusal 13 0)
    ∷ (sheet_7.bytes, 2, 0, 0, 0, refusal 13 0)
    ∷ (sheet_7.bytes, 1, 0, 0, 0, refusal 9 1)
    ∷ []

-- ---- ruling out
-- a sheet, the masks, a guess, and whether it is contradicted
abbrev pub day_contradicted : List (List ℕ × ℕ × ℕ × ℕ × Bool)
day_contradicted =
    -- no rule: F is {a}. The fact a: T is {a}
    (bare, 1, 0, 0, true)
    ∷ (bare, 0, 1, 0, false)
    ∷ (fact, 1, 0, 0, false)
    ∷ (fact, 0, 1, 0, true)
    -- a ← not not a: a is in neither
    ∷ (sheet_7.bytes, 1, 0, 0, false)
    ∷ (sheet_7.bytes, 0, 1, 0, false)
    -- a ← not K b; b ← not K a, guess 1: b is a fact, T is {b} and F is {a}
    ∷ (sheet_6.bytes, 0, 0, 1, false)
    ∷ (sheet_6.bytes, 1, 0, 1, true)
    ∷ (sheet_6.bytes, 0, 2, 1, true)
    ∷ (sheet_6.bytes, 2, 1, 1, false)
    -- guess 3: a is a fact, and "not K a" in the guess, with masks and without
    ∷ (sheet_6.bytes, 0, 0, 3, true)
    ∷ (sheet_6.bytes, 1, 0, 3, true)
    -- a ← not not a; b ← a; ← b: an in-atom does not enter T, or b would too, and ← b be sure
    ∷ (chosen, 1, 0, 0, false)
    -- a or b; ← b: an out-atom does not enter F, or b would enter T
    ∷ (forced, 0, 1, 0, false)
    ∷ []

-- ---- listings
-- ← not not c, M b; c ← not K a, not K b; a ← not K b, not K c; b ← not a, not c: one of our own sheets, with the views 13, 3 and 10
abbrev three : List ℕ
three = sheet (a ∷ b ∷ c ∷ []) (rule 0 0 0 4 0 0 2 0 ∷ rule 4 0 0 0 0 3 0 0 ∷ rule 1 0 0 0 0 6 0 0 ∷ rule 2 0 5 0 0 0 0 0 ∷ [])

-- a sheet, the masks, the number of words lent, and the result
abbrev pub day_listings : List (List ℕ × ℕ × ℕ × ℕ × Returned Result)
day_listings =
    -- "with both masks zero they give today's answers"
    (sheet_6.bytes, 0, 0, 8, accepted (result (tallied 2 1 1 2 0 0) (view 1 2 2 1 ∷ view 2 1 1 1 ∷ [])))
    ∷ (kiln.bytes, 0, 0, 4, accepted (result (tallied 1 0 1 1 0 0) (view 0 1 1 1 ∷ [])))
    ∷ (choice, 0, 0, 4, accepted (result (tallied 1 1 0 1 0 0) (view 1 0 1 2 ∷ [])))
    -- a ← not K b; b ← not K a: by guess 1 T is {b} and F is {a}, by guess 2 the other way round; guess 3 is ruled as before
    ∷ (sheet_6.bytes, 1, 0, 4, accepted (result (tallied 1 1 2 1 0 0) (view 2 1 1 1 ∷ [])))
    ∷ (sheet_6.bytes, 0, 1, 4, accepted (result (tallied 1 1 2 1 0 0) (view 1 2 2 1 ∷ [])))
    ∷ (sheet_6.bytes, 1, 2, 4, accepted (result (tallied 1 1 2 1 0 0) (view 2 1 1 1 ∷ [])))
    -- no view is left to cover guess 0, whose sets are {a} and {b}
    ∷ (sheet_6.bytes, 3, 0, 0, accepted (result (tallied 0 0 3 1 1 0) []))
    ∷ (sheet_6.bytes, 0, 3, 0, accepted (result (tallied 0 0 3 1 1 0) []))
    -- glaze or bisque; ← not K glaze: by guess 0 T and F are ∅, so it is tested, and W is {glaze} or empty
    ∷ (kiln.bytes, 1, 2, 4, accepted (result (tallied 1 0 1 1 0 0) (view 0 1 1 1 ∷ [])))
    ∷ (kiln.bytes, 2, 0, 0, accepted (result (tallied 0 0 1 1 1 0) []))
    ∷ (kiln.bytes, 0, 1, 0, accepted (result (tallied 0 0 1 1 1 0) []))
    -- a ← not not a; b ← K a: the verdicts above, where T is ∅, and F is ∅ by guess 0 and {b} by guess 1
    ∷ (choice, 1, 0, 4, accepted (result (tallied 1 0 0 2 0 1) (view 0 3 3 1 ∷ [])))
    ∷ (choice, 2, 0, 4, accepted (result (tallied 1 0 1 1 0 0) (view 0 3 3 1 ∷ [])))
    ∷ (choice, 0, 1, 4, accepted (result (tallied 1 1 0 1 0 0) (view 1 0 0 1 ∷ [])))
    ∷ (choice, 0, 2, 4, accepted (result (tallied 1 1 0 1 0 0) (view 1 0 1 2 ∷ [])))
    ∷ (choice, 1, 2, 0, accepted (result (tallied 0 0 0 2 1 1) []))
    -- tested and empty, not ruled: T and F are ∅, as above
    ∷ (chosen, 1, 0, 0, accepted (result (tallied 0 0 0 1 1 0) []))
    ∷ (forced, 0, 1, 0, accepted (result (tallied 0 0 0 1 1 0) []))
    -- three views, and the in-atom b: 13, with {b}, stays and covers its seven proper subsets. Of the other eight, all with "not K b", 3 and 10,
    -- whose facts are c and a, have b in F; 7, 11, 14 and 15 are ruled as before; 2, no longer covered, and 6 are tested: T and F are ∅, and no set has b
    ∷ (three, 2, 0, 4, accepted (result (tallied 1 7 6 3 2 0) (view 13 2 2 1 ∷ [])))
    -- 9 with the number of views under the masks; 13 before it, and the sheet before both
    ∷ (sheet_6.bytes, 1, 0, 3, refusal 9 1)
    ∷ (sheet_6.bytes, 4, 0, 0, refusal 13 0)
    ∷ (sheet_6.bytes, 1, 1, 0, refusal 13 0)
    ∷ (zeros 4, 1, 1, 0, refusal 6 3)
    ∷ (sheet (a ∷ []) (rule 2 0 0 0 0 0 0 0 ∷ []), 2, 0, 0, refusal 5 4)
    ∷ []

-- a sheet, the masks, the bytes lent to the desk call, the number that it returns, and the bytes then
abbrev pub day_desk : List (List ℕ × ℕ × ℕ × List ℕ × ℕ × List ℕ)
day_desk =
    -- 1 1 2 1 0 0, and the record 2 1 1 1
    (sheet_6.bytes, 1, 0, zeros 21, 0, 1 ∷ 0 ∷ 1 ∷ 0 ∷ 2 ∷ 0 ∷ 1 ∷ 0 ∷ 0 ∷ 0 ∷ 0 ∷ 0 ∷ 2 ∷ 0 ∷ 1 ∷ 0 ∷ 1 ∷ 0 ∷ 1 ∷ 0 ∷ 0 ∷ [])
    ∷ (sheet_6.bytes, 1, 0, zeros 19, 9 * 65536 + 1, zeros 19)
    ∷ (sheet_6.bytes, 4, 0, zeros 19, 13 * 65536, zeros 19)
    ∷ (zeros 4, 1, 0, [], 6 * 65536 + 3, [])
    ∷ []

-- ---- queries
-- a sheet, the masks, an atom, and the answer
abbrev pub day_queries : List (List ℕ × ℕ × ℕ × ℕ × Returned Answer)
day_queries =
    (sheet_6.bytes, 0, 0, 0, accepted Open)
    ∷ (sheet_6.bytes, 1, 0, 0, accepted Yes)
    ∷ (sheet_6.bytes, 1, 0, 1, accepted No)
    ∷ (sheet_6.bytes, 3, 0, 0, accepted None)
    ∷ (choice, 2, 0, 0, accepted Yes)
    ∷ (choice, 0, 1, 0, accepted No)
    ∷ (choice, 0, 2, 0, accepted Open)
    ∷ (choice, 1, 2, 0, accepted None)
    -- the sheet, the masks, the atom
    ∷ (thirteen, 1, 1, 7, refusal 7 0)
    ∷ (kiln.bytes, 4, 0, 2, refusal 13 0)
    ∷ (kiln.bytes, 1, 1, 2, refusal 13 0)
    ∷ (kiln.bytes, 1, 0, 2, refusal 10 0)
    ∷ []
