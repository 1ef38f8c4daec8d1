-- Document 01, "Verdict on a guess" and "Turned back at the door": verdicts and belief sets of guesses of the known sheets, and refusals.
use Rattle.std.specs.Prelude.{ℕ, List, [], ◌∷◌}
use Rattle.semantics.specs.Definitions.Returned.{Returned, accepted, refusal}
use Rattle.semantics.specs.Definitions.Verdict.{Verdict, empty, other, verified}
use Rattle.semantics.specs.Examples.Sheets.{zeros, a, b, sheet, rule, kiln, sheet_2, sheet_3, sheet_6, sheet_7}

-- a sheet, a guess, and the verdict
abbrev pub verdicts : List (List ℕ × ℕ × Returned Verdict)
verdicts =
    -- "putting truth in place of K a, so that guess 0 of sheet 2 comes out verified where it is "other" (found 1)"
    (sheet_2.bytes, 0, accepted (other 1))
    ∷ (sheet_2.bytes, 1, accepted (verified 0 0 1))
    -- "taking an empty W as verified, since everything is known in it"
    ∷ (sheet_3.bytes, 0, accepted empty)
    ∷ (sheet_3.bytes, 1, accepted (other 0))
    ∷ (sheet_6.bytes, 0, accepted (other 3))
    ∷ (sheet_6.bytes, 3, accepted (other 0))
    ∷ (kiln.bytes, 0, accepted (verified 1 1 1))
    ∷ (kiln.bytes, 1, accepted empty)
    -- "guess not below 2^k", k being 0, 1 and 2
    ∷ (sheet_7.bytes, 0, accepted (verified 0 1 2))
    ∷ (sheet_7.bytes, 1, refusal 8 0)
    ∷ (sheet_2.bytes, 2, refusal 8 0)
    ∷ (sheet_6.bytes, 4, refusal 8 0)
    -- the sheet is judged before the guess
    ∷ (zeros 4, 1, refusal 6 3)
    ∷ []

-- a sheet, a guess, the number of words lent, and the belief sets
abbrev pub sets : List (List ℕ × ℕ × ℕ × Returned (List ℕ))
sets =
    -- "W by rising number"; "reading "not not a" as a, which loses a set in 7"; more words than sets, as many, and too few
    (sheet_7.bytes, 0, 3, accepted (0 ∷ 1 ∷ []))
    ∷ (sheet_7.bytes, 0, 2, accepted (0 ∷ 1 ∷ []))
    ∷ (sheet_7.bytes, 0, 1, refusal 9 2)
    -- a or b; ← not a
    ∷ (sheet (a ∷ b ∷ []) (rule 3 0 0 0 0 0 0 0 ∷ rule 0 0 1 0 0 0 0 0 ∷ []), 0, 1, accepted (1 ∷ []))
    -- "an empty W gives count 0"
    ∷ (sheet_3.bytes, 0, 0, accepted [])
    -- the guess is judged before the number of words, and the sheet before both
    ∷ (sheet_7.bytes, 1, 0, refusal 8 0)
    ∷ (sheet_6.bytes, 4, 0, refusal 8 0)
    ∷ (0 ∷ 1 ∷ zeros 15, 1, 0, refusal 1 17)
    ∷ []
