-- Document 02, K7, "Opposites on the sheet": what the check answers to a third section, and what pairs do to the other calls, worked out by
-- hand. {dry} is 1 and {wet} is 2; {a}, {b}, {c} and {d} are 1, 2, 4 and 8.
use Rattle.std.specs.Prelude.{ℕ, ◌+◌, ◌*◌, ◌-◌, Bool, true, false, List, [], ◌∷◌, ◌++◌, length, take}
use Rattle.sets.specs.Lists.{up_to}
use Rattle.semantics.specs.Definitions.Rules.{Rule}
use Rattle.semantics.specs.Definitions.Check.{Numbers, numbers}
use Rattle.semantics.specs.Definitions.Returned.{Returned, accepted, refusal}
use Rattle.semantics.specs.Definitions.Verdict.{Verdict, empty, other, verified}
use Rattle.semantics.specs.Definitions.Listing.{tallied}
use Rattle.semantics.specs.Definitions.Calls.{Result}
use Rattle.semantics.specs.Definitions.Query.{Answer, Yes, No, Open, None}
use Rattle.semantics.specs.Definitions.Program.{bytes}
use Rattle.semantics.specs.Definitions.Pass.{Gathered, having}
use Rattle.semantics.specs.Examples.Sheets.{zeros, a, b, c, d, rule, pair, two_section_sheet, sheet_with, sheet, view, Listed, ten, kiln}
use Rattle.semantics.specs.Examples.Limits.{letters}
use Rattle.semantics.specs.Examples.Listings.{result}
use Rattle.semantics.specs.Examples.Calendars.{hours}
use Rattle.semantics.specs.Examples.Minutes.{calendar}
use Rattle.semantics.specs.Examples.LeastModels.{objective}

-- ---- the third section
-- "a two-section sheet gives 1": the ten known sheets and the kiln example without the last byte, and how many bytes each then has
abbrev pub old : Listed → List ℕ
old e = take (length e.bytes - 1) e.bytes

abbrev pub known_sheets : List Listed
known_sheets = ten ++ kiln ∷ []

abbrev pub old_lengths : List ℕ
old_lengths = 2 ∷ 20 ∷ 20 ∷ 20 ∷ 20 ∷ 38 ∷ 20 ∷ 22 ∷ 36 ∷ 56 ∷ 47 ∷ []

-- four atoms, no rule, and a third section: its count is at place 10, its pairs at 11, 13 and so on
abbrev four : (third : List ℕ) → List ℕ
four third = letters 4 ++ 0 ∷ third

-- fifteen atoms, no rule: the count at 32, the pairs at 33, 35 and so on
abbrev fifteen : (third : List ℕ) → List ℕ
fifteen third = letters 15 ++ 0 ∷ third

-- seven atoms, and a rule with twelve or thirteen negations: the count at 32, the pairs at 33, 35 and so on
abbrev twelve : (third : List ℕ) → List ℕ
twelve third = letters 7 ++ 1 ∷ rule 0 0 0 0 63 0 63 0 ++ third

abbrev thirteen : (third : List ℕ) → List ℕ
thirteen third = letters 7 ++ 1 ∷ rule 0 0 0 0 127 0 63 0 ++ third

-- a sheet, and what the check answers
abbrev pub pair_answers : List (List ℕ × Returned Numbers)
pair_answers =
    -- "a count byte 0 to 7": none, 0, 7 of which none is there; "A count over 7 gives 2", whatever follows
    (four [], refusal 1 10)
    ∷ (four (0 ∷ []), accepted (numbers 4 0 0))
    ∷ (four (7 ∷ []), refusal 1 11)
    ∷ (four (8 ∷ []), refusal 2 10)
    ∷ (four (255 ∷ []), refusal 2 10)
    ∷ (fifteen (8 ∷ up_to 16), refusal 2 32)
    -- seven pairs
    ∷ (fifteen (7 ∷ up_to 14), accepted (numbers 15 0 0))
    -- "after its bytes are present": of the first pair none, one; of the second none, one
    ∷ (four (1 ∷ []), refusal 1 11)
    ∷ (four (1 ∷ 0 ∷ []), refusal 1 12)
    ∷ (four (1 ∷ 4 ∷ []), refusal 1 12)
    ∷ (four (2 ∷ pair 0 1), refusal 1 13)
    ∷ (four (2 ∷ pair 0 1 ++ 2 ∷ []), refusal 1 14)
    ∷ (four (2 ∷ pair 0 1 ++ 0 ∷ []), refusal 1 14)
    -- "an atom number not below the atom count": the count, first and second; one below it; the count of fifteen; any where there is no atom
    ∷ (four (1 ∷ pair 4 0), refusal 15 11)
    ∷ (four (1 ∷ pair 0 4), refusal 15 11)
    ∷ (four (1 ∷ pair 255 0), refusal 15 11)
    ∷ (four (1 ∷ pair 0 255), refusal 15 11)
    ∷ (four (1 ∷ pair 3 0), accepted (numbers 4 0 0))
    ∷ (four (1 ∷ pair 0 3), accepted (numbers 4 0 0))
    ∷ (fifteen (1 ∷ pair 14 0), accepted (numbers 15 0 0))
    ∷ (fifteen (1 ∷ pair 0 15), refusal 15 33)
    ∷ (0 ∷ 0 ∷ 1 ∷ pair 0 1, refusal 15 3)
    -- "one atom twice in a pair": the first atom, the last, and the only one
    ∷ (four (1 ∷ pair 0 0), refusal 15 11)
    ∷ (four (1 ∷ pair 3 3), refusal 15 11)
    ∷ (letters 1 ++ 0 ∷ 1 ∷ pair 0 0, refusal 15 5)
    -- "or an atom of an earlier pair": the first or the second of it, as the first or the second of this one; the same pair again
    ∷ (four (2 ∷ pair 0 1 ++ pair 0 2), refusal 15 13)
    ∷ (four (2 ∷ pair 0 1 ++ pair 2 0), refusal 15 13)
    ∷ (four (2 ∷ pair 0 1 ++ pair 1 2), refusal 15 13)
    ∷ (four (2 ∷ pair 0 1 ++ pair 2 1), refusal 15 13)
    ∷ (four (2 ∷ pair 0 1 ++ pair 0 1), refusal 15 13)
    ∷ (four (2 ∷ pair 0 1 ++ pair 1 0), refusal 15 13)
    ∷ (four (2 ∷ pair 0 1 ++ pair 2 3), accepted (numbers 4 0 0))
    ∷ (four (2 ∷ pair 3 0 ++ pair 2 1), accepted (numbers 4 0 0))
    -- of one before the last
    ∷ (fifteen (3 ∷ pair 0 1 ++ pair 2 3 ++ pair 4 0), refusal 15 37)
    ∷ (fifteen (3 ∷ pair 0 1 ++ pair 2 3 ++ pair 1 4), refusal 15 37)
    ∷ (fifteen (3 ∷ pair 0 1 ++ pair 2 3 ++ pair 4 5), accepted (numbers 15 0 0))
    ∷ (fifteen (7 ∷ up_to 12 ++ pair 14 0), refusal 15 45)
    -- "pair by pair after its bytes are present": the first is judged before the second is missing; the second has a place of its own; of two bad
    -- ones the first
    ∷ (four (2 ∷ pair 0 0), refusal 15 11)
    ∷ (four (2 ∷ pair 0 0 ++ 1 ∷ []), refusal 15 11)
    ∷ (four (2 ∷ pair 0 1 ++ pair 4 2), refusal 15 13)
    ∷ (four (2 ∷ pair 0 1 ++ pair 3 3), refusal 15 13)
    ∷ (four (2 ∷ pair 4 0 ++ pair 1 1), refusal 15 11)
    -- "extra bytes are those after the last pair", one or as many as a pair has; 15 comes "before 6"
    ∷ (four (0 ∷ 7 ∷ []), refusal 6 11)
    ∷ (four (0 ∷ pair 0 1), refusal 6 11)
    ∷ (four (1 ∷ pair 0 1 ++ 7 ∷ []), refusal 6 13)
    ∷ (four (1 ∷ pair 0 1 ++ pair 2 3), refusal 6 13)
    ∷ (four (1 ∷ pair 0 0 ++ 7 ∷ []), refusal 15 11)
    ∷ (four (2 ∷ pair 0 1 ++ pair 1 2 ++ 7 ∷ []), refusal 15 13)
    -- the rules come before the pairs: mask 0 has a bit at the atom count
    ∷ (letters 1 ++ 1 ∷ rule 2 0 0 0 0 0 0 0 ++ 8 ∷ [], refusal 5 4)
    -- 7 comes after all of it; pairs are no rules, and no negations
    ∷ (thirteen [], refusal 1 32)
    ∷ (thirteen (8 ∷ []), refusal 2 32)
    ∷ (thirteen (1 ∷ pair 0 7), refusal 15 33)
    ∷ (thirteen (1 ∷ pair 0 1 ++ 7 ∷ []), refusal 6 35)
    ∷ (thirteen (1 ∷ pair 0 1), refusal 7 0)
    ∷ (twelve (3 ∷ up_to 6), accepted (numbers 7 1 12))
    ∷ []

-- ---- sheets with the atoms dry and wet
abbrev names : List (List ℕ)
names = (3 ∷ bytes "dry") ∷ (3 ∷ bytes "wet") ∷ []

-- some rules and the pair; the same pair the other way round; the rule "← dry, wet" in its place; neither
abbrev pub with_pair : (rules : List (List ℕ)) → List ℕ
with_pair rules = sheet_with names rules (pair 0 1 ∷ [])

abbrev pub turned : (rules : List (List ℕ)) → List ℕ
turned rules = sheet_with names rules (pair 1 0 ∷ [])

abbrev pub as_rule : (rules : List (List ℕ)) → List ℕ
as_rule rules = sheet names (rules ++ rule 0 3 0 0 0 0 0 0 ∷ [])

abbrev pub without_pair : (rules : List (List ℕ)) → List ℕ
without_pair rules = sheet names rules

-- dry with itself, no rule: the count of pairs is at place 10, the pair at 11
abbrev pub bad : List ℕ
bad = sheet_with names [] (pair 0 0 ∷ [])

-- ---- their rules
-- dry ← not not dry; wet ← not not wet
abbrev pub choices : List (List ℕ)
choices = rule 1 0 0 1 0 0 0 0 ∷ rule 2 0 0 2 0 0 0 0 ∷ []

-- dry; wet
abbrev pub facts : List (List ℕ)
facts = rule 1 0 0 0 0 0 0 0 ∷ rule 2 0 0 0 0 0 0 0 ∷ []

-- dry
abbrev fact : List (List ℕ)
fact = rule 1 0 0 0 0 0 0 0 ∷ []

-- dry; wet ← dry
abbrev followed : List (List ℕ)
followed = rule 1 0 0 0 0 0 0 0 ∷ rule 2 1 0 0 0 0 0 0 ∷ []

-- dry; wet ← not not wet
abbrev half : List (List ℕ)
half = rule 1 0 0 0 0 0 0 0 ∷ rule 2 0 0 2 0 0 0 0 ∷ []

-- dry; wet ← not not wet; ← not wet
abbrev needed : List (List ℕ)
needed = half ++ rule 0 0 2 0 0 0 0 0 ∷ []

-- dry or wet
abbrev either : List (List ℕ)
either = rule 3 0 0 0 0 0 0 0 ∷ []

-- dry or wet; dry ← wet; wet ← dry
abbrev bound : List (List ℕ)
bound = either ++ rule 1 2 0 0 0 0 0 0 ∷ rule 2 1 0 0 0 0 0 0 ∷ []

-- dry; wet ← M wet. The negation is "M wet"
abbrev maybe_rules : List (List ℕ)
maybe_rules = rule 1 0 0 0 0 0 0 0 ∷ rule 2 0 0 0 0 0 2 0 ∷ []

-- dry ← M wet; wet ← not not wet. The negation is "M wet"
abbrev waiting : List (List ℕ)
waiting = rule 1 0 0 0 0 0 2 0 ∷ rule 2 0 0 2 0 0 0 0 ∷ []

-- dry ← not K wet; wet ← not not wet. The negation is "not K wet"
abbrev unless : List (List ℕ)
unless = rule 1 0 0 0 0 2 0 0 ∷ rule 2 0 0 2 0 0 0 0 ∷ []

-- dry ← not not dry; wet ← not not wet; ← not K dry. The negation is "not K dry"
abbrev certain : List (List ℕ)
certain = choices ++ rule 0 0 0 0 0 1 0 0 ∷ []

-- dry ← M wet; wet ← M dry. The negations are "M dry" and "M wet", 1 and 2
abbrev two_way : List (List ℕ)
two_way = rule 1 0 0 0 0 0 2 0 ∷ rule 2 0 0 0 0 0 1 0 ∷ []

-- dry ← not K wet; wet ← not K dry: sheet 6
abbrev cross : List (List ℕ)
cross = rule 1 0 0 0 0 2 0 0 ∷ rule 2 0 0 0 0 1 0 0 ∷ []

-- ---- listings
-- Some rules, and k; the result with the pair, either way round, or with the rule in its place; the result with neither. The sets named are the
-- stable ones with neither.
abbrev pub pair_listings : List (List (List ℕ) × ℕ × Result × Result)
pair_listings =
    -- no rule
    ([], 0, result (tallied 1 0 0 1 0 0) (view 0 0 0 1 ∷ []), result (tallied 1 0 0 1 0 0) (view 0 0 0 1 ∷ []))
    -- all four sets; the pair takes {dry, wet}
    ∷ (choices, 0, result (tallied 1 0 0 1 0 0) (view 0 0 3 3 ∷ []), result (tallied 1 0 0 1 0 0) (view 0 0 3 4 ∷ []))
    -- {dry, wet} is the only one. "including ruling out": T is {dry, wet}, so the pair is sure
    ∷ (facts, 0, result (tallied 0 0 1 0 0 0) [], result (tallied 1 0 0 1 0 0) (view 0 3 3 1 ∷ []))
    ∷ (followed, 0, result (tallied 0 0 1 0 0 0) [], result (tallied 1 0 0 1 0 0) (view 0 3 3 1 ∷ []))
    -- here it is too, but T is ∅: tested, and empty
    ∷ (bound, 0, result (tallied 0 0 0 1 1 0) [], result (tallied 1 0 0 1 0 0) (view 0 3 3 1 ∷ []))
    -- and here, where T is {dry}. The opposite of an atom in T does not enter F, or ← not wet would be sure
    ∷ (needed, 0, result (tallied 0 0 0 1 1 0) [], result (tallied 1 0 0 1 0 0) (view 0 3 3 1 ∷ []))
    -- {dry} and {dry, wet}
    ∷ (half, 0, result (tallied 1 0 0 1 0 0) (view 0 1 1 1 ∷ []), result (tallied 1 0 0 1 0 0) (view 0 1 3 2 ∷ []))
    -- {dry} and {wet}; {dry}: the pair takes none
    ∷ (either, 0, result (tallied 1 0 0 1 0 0) (view 0 0 3 2 ∷ []), result (tallied 1 0 0 1 0 0) (view 0 0 3 2 ∷ []))
    ∷ (fact, 0, result (tallied 1 0 0 1 0 0) (view 0 1 1 1 ∷ []), result (tallied 1 0 0 1 0 0) (view 0 1 1 1 ∷ []))
    -- with "M wet" {dry, wet}, which the pair takes, and T is {dry, wet}; without it {dry} and {dry, wet}, of which {dry} by itself is a view
    ∷ (maybe_rules, 1, result (tallied 1 0 1 1 0 0) (view 0 1 1 1 ∷ []), result (tallied 1 1 0 1 0 0) (view 1 3 3 1 ∷ []))
    -- with "M wet" {dry} and {dry, wet}, of which {dry} by itself is "other"; without it ∅ and {dry, wet}, of which ∅ by itself is a view
    ∷ (waiting, 1, result (tallied 1 0 0 2 0 1) (view 0 0 0 1 ∷ []), result (tallied 1 1 0 1 0 0) (view 1 1 3 2 ∷ []))
    -- with "not K wet" {dry} and {dry, wet}; guess 0 is covered
    ∷ (unless, 1, result (tallied 1 1 0 1 0 0) (view 1 1 1 1 ∷ []), result (tallied 1 1 0 1 0 0) (view 1 1 3 2 ∷ []))
    -- with "not K dry" the third rule is ←, without it ← not dry
    ∷ (certain, 1, result (tallied 1 0 1 1 0 0) (view 0 1 1 1 ∷ []), result (tallied 1 0 1 1 0 0) (view 0 1 3 2 ∷ []))
    -- with "M dry" or "M wet" or both T is {dry, wet}; without them ∅ and {dry, wet}, of which ∅ by itself is a view
    ∷ (two_way, 2, result (tallied 1 0 3 1 0 0) (view 0 0 0 1 ∷ []), result (tallied 1 3 0 1 0 0) (view 3 3 3 1 ∷ []))
    -- by guess 3 dry and wet are facts, and that guess is ruled out without the pair
    ∷ (cross, 2, result (tallied 2 1 1 2 0 0) (view 1 2 2 1 ∷ view 2 1 1 1 ∷ []), result (tallied 2 1 1 2 0 0) (view 1 2 2 1 ∷ view 2 1 1 1 ∷ []))
    ∷ []

-- a; d; b ← M b; c ← M c, with some pairs. The negations are "M b" and "M c", 1 and 2. By guess 3 the one stable set is {a, b, c, d}. By guess 1
-- c ← M c is c ← not not c, and they are {a, b, d} and {a, b, c, d}; by guess 2 {a, c, d} and {a, b, c, d}; by guess 0 {a, d}, {a, b, d},
-- {a, c, d} and {a, b, c, d}. T has a and d, and b or c where it is a fact.
abbrev some_pairs : (pairs : List (List ℕ)) → List ℕ
some_pairs = sheet_with (a ∷ b ∷ c ∷ d ∷ []) (rule 1 0 0 0 0 0 0 0 ∷ rule 8 0 0 0 0 0 0 0 ∷ rule 2 0 0 0 0 0 2 0 ∷ rule 4 0 0 0 0 0 4 0 ∷ [])

-- a sheet, and its result
abbrev pub many_pairs : List (List ℕ × Result)
many_pairs =
    (some_pairs [], result (tallied 1 3 0 1 0 0) (view 3 15 15 1 ∷ []))
    -- no b; no c; neither
    ∷ (some_pairs (pair 0 1 ∷ []), result (tallied 1 1 2 1 0 0) (view 2 13 13 1 ∷ []))
    ∷ (some_pairs (pair 2 3 ∷ []), result (tallied 1 1 2 1 0 0) (view 1 11 11 1 ∷ []))
    ∷ (some_pairs (pair 0 1 ∷ pair 2 3 ∷ []), result (tallied 1 0 3 1 0 0) (view 0 9 9 1 ∷ []))
    ∷ (some_pairs (pair 3 2 ∷ pair 1 0 ∷ []), result (tallied 1 0 3 1 0 0) (view 0 9 9 1 ∷ []))
    ∷ (some_pairs (pair 0 2 ∷ pair 1 3 ∷ []), result (tallied 1 0 3 1 0 0) (view 0 9 9 1 ∷ []))
    -- not both b and c
    ∷ (some_pairs (pair 1 2 ∷ []), result (tallied 2 1 1 2 0 0) (view 1 11 11 1 ∷ view 2 13 13 1 ∷ []))
    -- not both a and d, which are facts
    ∷ (some_pairs (pair 0 3 ∷ []), result (tallied 0 0 4 0 0 0) [])
    ∷ (some_pairs (pair 1 2 ∷ pair 0 3 ∷ []), result (tallied 0 0 4 0 0 0) [])
    ∷ []

-- ---- programs
-- "A pair acts as a constraint with both atoms plain"
abbrev constraint : (plain : ℕ) → Rule
constraint plain = objective 0 plain 0 0

-- a sheet, a guess, and the program
abbrev pub pair_programs : List (List ℕ × ℕ × List Rule)
pair_programs =
    (with_pair [], 0, constraint 3 ∷ [])
    ∷ (turned [], 0, constraint 3 ∷ [])
    -- by any guess, after the reduct: dry; wet ← M wet
    ∷ (with_pair maybe_rules, 1, objective 1 0 0 0 ∷ objective 2 0 0 0 ∷ constraint 3 ∷ [])
    ∷ (with_pair maybe_rules, 0, objective 1 0 0 0 ∷ objective 2 0 0 2 ∷ constraint 3 ∷ [])
    -- two pairs, in their order
    ∷ (sheet_with (a ∷ b ∷ c ∷ d ∷ []) [] (pair 3 0 ∷ pair 2 1 ∷ []), 0, constraint 9 ∷ constraint 6 ∷ [])
    ∷ []

-- dry from 100 to 300; wet from 200 to 400
abbrev overlap : List ℕ
overlap = calendar (hours 0 100 300 ∷ hours 1 200 400 ∷ [])

-- a sheet, a calendar, a minute, and the program of guess 0: "at every minute", also where no rule is in force
abbrev pub minute_programs : List (List ℕ × List ℕ × ℕ × List Rule)
minute_programs =
    (with_pair facts, overlap, 99, constraint 3 ∷ [])
    ∷ (with_pair facts, overlap, 100, objective 1 0 0 0 ∷ constraint 3 ∷ [])
    ∷ (with_pair facts, overlap, 200, objective 1 0 0 0 ∷ objective 2 0 0 0 ∷ constraint 3 ∷ [])
    ∷ []

-- ---- verdicts
-- a sheet, the masks, a guess, and the verdict
abbrev pub pair_verdicts : List (List ℕ × ℕ × ℕ × ℕ × Returned Verdict)
pair_verdicts =
    -- dry; wet
    (without_pair facts, 0, 0, 0, accepted (verified 3 3 1))
    ∷ (with_pair facts, 0, 0, 0, accepted empty)
    -- dry ← M wet; wet ← M dry
    ∷ (without_pair two_way, 0, 0, 3, accepted (verified 3 3 1))
    ∷ (with_pair two_way, 0, 0, 3, accepted empty)
    ∷ (without_pair two_way, 0, 0, 1, accepted (other 3))
    ∷ (with_pair two_way, 0, 0, 1, accepted empty)
    ∷ (without_pair two_way, 0, 0, 0, accepted (other 3))
    ∷ (with_pair two_way, 0, 0, 0, accepted (verified 0 0 1))
    -- dry ← M wet; wet ← not not wet
    ∷ (without_pair waiting, 0, 0, 1, accepted (verified 1 3 2))
    ∷ (with_pair waiting, 0, 0, 1, accepted (other 0))
    -- dry ← not K wet; wet ← not K dry
    ∷ (without_pair cross, 0, 0, 3, accepted (other 0))
    ∷ (with_pair cross, 0, 0, 3, accepted empty)
    ∷ (with_pair cross, 0, 0, 0, accepted (other 3))
    -- dry ← not not dry; wet ← not not wet, with masks: of ∅, {dry} and {wet}
    ∷ (with_pair choices, 0, 0, 0, accepted (verified 0 3 3))
    ∷ (with_pair choices, 1, 0, 0, accepted (verified 1 1 1))
    ∷ (with_pair choices, 0, 1, 0, accepted (verified 0 2 2))
    ∷ (with_pair choices, 2, 1, 0, accepted (verified 2 2 1))
    ∷ (with_pair choices, 3, 0, 0, accepted empty)
    ∷ (with_pair choices, 0, 3, 0, accepted (verified 0 0 1))
    -- dry; wet ← M wet, wet in or out
    ∷ (with_pair maybe_rules, 2, 0, 0, accepted empty)
    ∷ (with_pair maybe_rules, 0, 2, 0, accepted (verified 1 1 1))
    ∷ (with_pair maybe_rules, 0, 2, 1, accepted empty)
    -- the sheet, the masks, the guess
    ∷ (bad, 4, 4, 1, refusal 15 11)
    ∷ (two_section_sheet names [], 4, 4, 1, refusal 1 10)
    ∷ (with_pair choices, 4, 4, 1, refusal 13 0)
    ∷ (with_pair choices, 1, 0, 1, refusal 8 0)
    ∷ []

-- ---- belief sets
-- a ← not not a; b ← not not b; c ← not not c; d ← not not d, with some pairs
abbrev four_choices : (pairs : List (List ℕ)) → List ℕ
four_choices = sheet_with (a ∷ b ∷ c ∷ d ∷ []) (rule 1 0 0 1 0 0 0 0 ∷ rule 2 0 0 2 0 0 0 0 ∷ rule 4 0 0 4 0 0 0 0 ∷ rule 8 0 0 8 0 0 0 0 ∷ [])

-- a sheet, the masks, a guess, the number of words lent, and the belief sets
abbrev pub pair_sets : List (List ℕ × ℕ × ℕ × ℕ × ℕ × Returned (List ℕ))
pair_sets =
    -- dry ← not not dry; wet ← not not wet: the number of sets is the one with the pair
    (without_pair choices, 0, 0, 0, 4, accepted (0 ∷ 1 ∷ 2 ∷ 3 ∷ []))
    ∷ (with_pair choices, 0, 0, 0, 4, accepted (0 ∷ 1 ∷ 2 ∷ []))
    ∷ (turned choices, 0, 0, 0, 3, accepted (0 ∷ 1 ∷ 2 ∷ []))
    ∷ (as_rule choices, 0, 0, 0, 3, accepted (0 ∷ 1 ∷ 2 ∷ []))
    ∷ (with_pair choices, 0, 0, 0, 2, refusal 9 3)
    -- with masks
    ∷ (with_pair choices, 1, 0, 0, 1, accepted (1 ∷ []))
    ∷ (with_pair choices, 2, 1, 0, 1, accepted (2 ∷ []))
    ∷ (with_pair choices, 0, 1, 0, 2, accepted (0 ∷ 2 ∷ []))
    ∷ (with_pair choices, 3, 0, 0, 0, accepted [])
    ∷ (with_pair choices, 0, 3, 0, 1, accepted (0 ∷ []))
    -- dry; wet. dry or wet. dry or wet; dry ← wet; wet ← dry: that {dry} and {wet} have no opposites does not make them models
    ∷ (with_pair facts, 0, 0, 0, 0, accepted [])
    ∷ (with_pair either, 0, 0, 0, 2, accepted (1 ∷ 2 ∷ []))
    ∷ (with_pair bound, 0, 0, 0, 0, accepted [])
    -- two pairs of four choices: not {a, b} and not {c, d}; the same with a in, and with c out; not {a, c} and not {b, d}
    ∷ (four_choices (pair 0 1 ∷ pair 2 3 ∷ []), 0, 0, 0, 9, accepted (0 ∷ 1 ∷ 2 ∷ 4 ∷ 5 ∷ 6 ∷ 8 ∷ 9 ∷ 10 ∷ []))
    ∷ (four_choices (pair 0 1 ∷ pair 2 3 ∷ []), 1, 0, 0, 9, accepted (1 ∷ 5 ∷ 9 ∷ []))
    ∷ (four_choices (pair 0 1 ∷ pair 2 3 ∷ []), 0, 4, 0, 9, accepted (0 ∷ 1 ∷ 2 ∷ 8 ∷ 9 ∷ 10 ∷ []))
    ∷ (four_choices (pair 0 2 ∷ pair 3 1 ∷ []), 0, 0, 0, 9, accepted (0 ∷ 1 ∷ 2 ∷ 3 ∷ 4 ∷ 6 ∷ 8 ∷ 9 ∷ 12 ∷ []))
    -- the sheet comes first
    ∷ (bad, 4, 4, 1, 0, refusal 15 11)
    ∷ []

-- ---- ruling out
-- a; c, and d or not, with the pairs of a and b, and of c and d
abbrev two_pairs : (rules : List (List ℕ)) → List ℕ
two_pairs rules = sheet_with (a ∷ b ∷ c ∷ d ∷ []) (rule 1 0 0 0 0 0 0 0 ∷ rule 4 0 0 0 0 0 0 0 ∷ rules) (pair 0 1 ∷ pair 2 3 ∷ [])

-- a sheet, the masks, a guess, and whether it is contradicted
abbrev pub pair_contradicted : List (List ℕ × ℕ × ℕ × ℕ × Bool)
pair_contradicted =
    -- dry; wet. dry; wet ← dry: T has both
    (without_pair facts, 0, 0, 0, false)
    ∷ (with_pair facts, 0, 0, 0, true)
    ∷ (turned facts, 0, 0, 0, true)
    ∷ (as_rule facts, 0, 0, 0, true)
    ∷ (with_pair followed, 0, 0, 0, true)
    -- dry, where wet is in F; dry; wet ← not not wet, where it is in neither, with ← not wet and without
    ∷ (with_pair fact, 0, 0, 0, false)
    ∷ (with_pair half, 0, 0, 0, false)
    ∷ (with_pair needed, 0, 0, 0, false)
    -- T has neither
    ∷ (with_pair [], 0, 0, 0, false)
    ∷ (with_pair choices, 0, 0, 0, false)
    ∷ (with_pair either, 0, 0, 0, false)
    ∷ (with_pair bound, 0, 0, 0, false)
    -- dry; wet ← M wet, by both guesses
    ∷ (without_pair maybe_rules, 0, 0, 1, false)
    ∷ (with_pair maybe_rules, 0, 0, 1, true)
    ∷ (with_pair maybe_rules, 0, 0, 0, false)
    -- dry ← M wet; wet ← M dry. By guess 1 "M wet" is left out, and wet in T
    ∷ (without_pair two_way, 0, 0, 3, false)
    ∷ (with_pair two_way, 0, 0, 3, true)
    ∷ (without_pair two_way, 0, 0, 1, true)
    ∷ (with_pair two_way, 0, 0, 0, false)
    -- of two pairs one has both atoms in T, or each has one
    ∷ (two_pairs (rule 8 0 0 0 0 0 0 0 ∷ []), 0, 0, 0, true)
    ∷ (two_pairs [], 0, 0, 0, false)
    -- an in-atom does not enter T: dry ← not not dry; wet ← not not wet, both in; dry; wet ← not not wet, wet in, and then dry out
    ∷ (with_pair choices, 3, 0, 0, false)
    ∷ (with_pair half, 2, 0, 0, false)
    ∷ (with_pair half, 0, 1, 0, true)
    -- dry, with wet, which is in F, in and out
    ∷ (with_pair fact, 2, 0, 0, true)
    ∷ (with_pair fact, 0, 2, 0, false)
    ∷ []

-- ---- listings under the day's masks
-- a sheet, the masks, the number of words lent, and the result
abbrev pub pair_day_listings : List (List ℕ × ℕ × ℕ × ℕ × Returned Result)
pair_day_listings =
    -- dry ← not not dry; wet ← not not wet: of ∅, {dry} and {wet}. T and F are ∅
    (with_pair choices, 0, 0, 4, accepted (result (tallied 1 0 0 1 0 0) (view 0 0 3 3 ∷ [])))
    ∷ (with_pair choices, 1, 0, 4, accepted (result (tallied 1 0 0 1 0 0) (view 0 1 1 1 ∷ [])))
    ∷ (with_pair choices, 0, 2, 4, accepted (result (tallied 1 0 0 1 0 0) (view 0 0 1 2 ∷ [])))
    ∷ (with_pair choices, 3, 0, 0, accepted (result (tallied 0 0 0 1 1 0) []))
    -- dry ← M wet; wet ← M dry: by guess 0 T and F are ∅, and W is ∅ alone; the other guesses are ruled as before
    ∷ (with_pair two_way, 1, 0, 0, accepted (result (tallied 0 0 3 1 1 0) []))
    ∷ (with_pair two_way, 0, 1, 4, accepted (result (tallied 1 0 3 1 0 0) (view 0 0 0 1 ∷ [])))
    ∷ (without_pair two_way, 1, 0, 4, accepted (result (tallied 1 3 0 1 0 0) (view 3 3 3 1 ∷ [])))
    -- dry; wet ← M wet: by guess 0 T is {dry}, F is ∅, and W is {dry} alone
    ∷ (with_pair maybe_rules, 2, 0, 0, accepted (result (tallied 0 0 1 1 1 0) []))
    ∷ (with_pair maybe_rules, 0, 2, 4, accepted (result (tallied 1 0 1 1 0 0) (view 0 1 1 1 ∷ [])))
    -- the sheet, the masks, the words
    ∷ (bad, 4, 4, 0, refusal 15 11)
    ∷ (with_pair choices, 4, 4, 0, refusal 13 0)
    ∷ (with_pair choices, 1, 0, 3, refusal 9 1)
    ∷ []

-- a sheet, the masks, the bytes lent to the desk call, the number that it returns, and the bytes then
abbrev pub pair_desk : List (List ℕ × ℕ × ℕ × List ℕ × ℕ × List ℕ)
pair_desk =
    -- 1 0 0 1 0 0, and the record 0 0 3 3
    (with_pair choices, 0, 0, zeros 21, 0, 1 ∷ 0 ∷ 0 ∷ 0 ∷ 0 ∷ 0 ∷ 1 ∷ 0 ∷ 0 ∷ 0 ∷ 0 ∷ 0 ∷ 0 ∷ 0 ∷ 0 ∷ 0 ∷ 3 ∷ 0 ∷ 3 ∷ 0 ∷ 0 ∷ [])
    -- 0 0 1 0 0 0
    ∷ (with_pair facts, 0, 0, zeros 12, 0, 0 ∷ 0 ∷ 0 ∷ 0 ∷ 1 ∷ 0 ∷ 0 ∷ 0 ∷ 0 ∷ 0 ∷ 0 ∷ 0 ∷ [])
    ∷ (bad, 4, 4, 7 ∷ [], 15 * 65536 + 11, 7 ∷ [])
    ∷ (old kiln, 0, 0, 7 ∷ [], 65536 + 47, 7 ∷ [])
    ∷ []

-- ---- queries
-- a sheet, the masks, an atom, and the answer
abbrev pub pair_queries : List (List ℕ × ℕ × ℕ × ℕ × Returned Answer)
pair_queries =
    (with_pair choices, 0, 0, 0, accepted Open)
    ∷ (with_pair choices, 1, 0, 0, accepted Yes)
    ∷ (with_pair choices, 1, 0, 1, accepted No)
    ∷ (with_pair choices, 3, 0, 1, accepted None)
    ∷ (without_pair facts, 0, 0, 0, accepted Yes)
    ∷ (with_pair facts, 0, 0, 0, accepted None)
    ∷ (without_pair half, 0, 0, 1, accepted Open)
    ∷ (with_pair half, 0, 0, 1, accepted No)
    ∷ (with_pair half, 0, 0, 0, accepted Yes)
    ∷ (without_pair maybe_rules, 0, 0, 1, accepted Yes)
    ∷ (with_pair maybe_rules, 0, 0, 1, accepted No)
    -- the sheet, the masks, the atom
    ∷ (bad, 4, 4, 2, refusal 15 11)
    ∷ (with_pair choices, 4, 4, 2, refusal 13 0)
    ∷ (with_pair choices, 1, 0, 2, refusal 10 0)
    ∷ []

-- ---- listings at a minute
-- a sheet, a calendar, a minute, the number of words lent, and the result
abbrev pub pair_minutes : List (List ℕ × List ℕ × ℕ × ℕ × Returned Result)
pair_minutes =
    -- dry from 100 to 300; wet from 200 to 400: neither, dry, both, wet, neither
    (with_pair facts, overlap, 99, 4, accepted (result (tallied 1 0 0 1 0 0) (view 0 0 0 1 ∷ [])))
    ∷ (with_pair facts, overlap, 199, 4, accepted (result (tallied 1 0 0 1 0 0) (view 0 1 1 1 ∷ [])))
    ∷ (with_pair facts, overlap, 200, 4, accepted (result (tallied 0 0 1 0 0 0) []))
    ∷ (with_pair facts, overlap, 299, 4, accepted (result (tallied 0 0 1 0 0 0) []))
    ∷ (with_pair facts, overlap, 300, 4, accepted (result (tallied 1 0 0 1 0 0) (view 0 2 2 1 ∷ [])))
    ∷ (with_pair facts, overlap, 400, 4, accepted (result (tallied 1 0 0 1 0 0) (view 0 0 0 1 ∷ [])))
    -- dry ← not not dry; wet ← not not wet, the second from 600 to 1200
    ∷ (with_pair choices, calendar (hours 1 600 1200 ∷ []), 599, 4, accepted (result (tallied 1 0 0 1 0 0) (view 0 0 1 2 ∷ [])))
    ∷ (with_pair choices, calendar (hours 1 600 1200 ∷ []), 600, 4, accepted (result (tallied 1 0 0 1 0 0) (view 0 0 3 3 ∷ [])))
    -- dry; wet ← M wet, the first from 600 to 1200
    ∷ (with_pair maybe_rules, calendar (hours 0 600 1200 ∷ []), 599, 4, accepted (result (tallied 1 1 0 1 0 0) (view 1 2 2 1 ∷ [])))
    ∷ (with_pair maybe_rules, calendar (hours 0 600 1200 ∷ []), 600, 4, accepted (result (tallied 1 0 1 1 0 0) (view 0 1 1 1 ∷ [])))
    -- dry; wet; ← dry, wet: a rule has hours, from 100 to 200, a pair has none
    ∷ (as_rule facts, calendar (hours 2 100 200 ∷ []), 199, 4, accepted (result (tallied 0 0 1 0 0 0) []))
    ∷ (as_rule facts, calendar (hours 2 100 200 ∷ []), 200, 4, accepted (result (tallied 1 0 0 1 0 0) (view 0 3 3 1 ∷ [])))
    ∷ (with_pair facts, calendar (hours 2 100 200 ∷ []), 200, 4, refusal 11 1)
    -- the sheet comes first
    ∷ (bad, 65 ∷ [], 10080, 0, refusal 15 11)
    ∷ (two_section_sheet names [], 65 ∷ [], 10080, 0, refusal 1 10)
    ∷ []

-- ---- what is gathered, and least models
-- a sheet, a guess, and what is gathered (K2)
abbrev pub pair_passes : List (List ℕ × ℕ × Gathered)
pair_passes =
    (with_pair choices, 0, having 0 3 3 4)
    -- a set that the pair takes is a test all the same
    ∷ (with_pair facts, 0, having 3 0 0 4)
    ∷ (with_pair two_way, 3, having 3 0 0 4)
    ∷ (with_pair two_way, 0, having 0 0 1 4)
    ∷ (four_choices (pair 0 1 ∷ pair 2 3 ∷ []), 0, having 0 15 9 16)
    ∷ []

-- K6, "at most one head atom in each rule": a pair has none
abbrev pub pair_singles : List (List ℕ × Bool)
pair_singles =
    (with_pair choices, true)
    ∷ (with_pair either, false)
    ∷ []

-- a sheet of single heads, the masks, a guess, and the sets that pass by the least model: "constraints included"
abbrev pub pair_beliefs : List (List ℕ × ℕ × ℕ × ℕ × List ℕ)
pair_beliefs =
    (with_pair choices, 0, 0, 0, 0 ∷ 1 ∷ 2 ∷ [])
    ∷ (with_pair choices, 0, 1, 0, 0 ∷ 2 ∷ [])
    ∷ (with_pair facts, 0, 0, 0, [])
    ∷ (with_pair half, 0, 0, 0, 1 ∷ [])
    ∷ (with_pair half, 2, 0, 0, [])
    ∷ (with_pair two_way, 0, 0, 0, 0 ∷ [])
    ∷ (with_pair two_way, 0, 0, 3, [])
    ∷ (with_pair cross, 0, 0, 0, 1 ∷ 2 ∷ [])
    ∷ []
