-- Document 01, "Query and program", and document 02, K5: what the query returns for known sheets and atoms.
use Rattle.std.specs.Prelude.{ℕ, List, [], ◌∷◌, ◌++◌}
use Rattle.semantics.specs.Definitions.Returned.{Returned, accepted, refusal}
use Rattle.semantics.specs.Definitions.Query.{Answer, Yes, No, Open, None}
use Rattle.semantics.specs.Examples.Sheets.{zeros, a, b, sheet, rule, kiln, sheet_2, sheet_3, sheet_5, sheet_6, sheet_7, sheet_9}
use Rattle.semantics.specs.Examples.Limits.{letters}

-- a sheet, an atom, and the answer
abbrev pub queries : List (List ℕ × ℕ × Returned Answer)
queries =
    -- known in the one view; possible in none
    (kiln.bytes, 0, accepted Yes)
    ∷ (kiln.bytes, 1, accepted No)
    ∷ (sheet_2.bytes, 0, accepted No)
    -- known in one of two views
    ∷ (sheet_6.bytes, 0, accepted Open)
    -- in one of two sets of the one view
    ∷ (sheet_7.bytes, 0, accepted Open)
    -- ""none", given exactly when there is no world view": one guess tested and empty
    ∷ (sheet_3.bytes, 0, accepted None)
    ∷ (sheet_5.bytes, 0, accepted None)
    -- no guess tested
    ∷ (sheet_9.bytes, 0, accepted None)
    -- a ← M a; ← K a: both guesses tested find another
    ∷ (sheet (a ∷ []) (rule 1 0 0 0 0 0 1 0 ∷ rule 0 0 0 0 1 0 0 0 ∷ []), 0, accepted None)
    -- a; b ← not b: for the fact a too
    ∷ (sheet (a ∷ b ∷ []) (rule 1 0 0 0 0 0 0 0 ∷ rule 2 0 2 0 0 0 0 0 ∷ []), 0, accepted None)
    ∷ (sheet (a ∷ b ∷ []) (rule 1 0 0 0 0 0 0 0 ∷ rule 2 0 2 0 0 0 0 0 ∷ []), 1, accepted None)
    -- "queried atom number not below the atom count"
    ∷ (kiln.bytes, 2, refusal 10 0)
    ∷ (sheet_3.bytes, 1, refusal 10 0)
    ∷ (sheet_9.bytes, 1, refusal 10 0)
    ∷ (zeros 3, 0, refusal 10 0)
    -- ←, of no atom
    ∷ (sheet [] (rule 0 0 0 0 0 0 0 0 ∷ []), 0, refusal 10 0)
    -- the sheet is judged before the atom
    ∷ (zeros 4, 0, refusal 6 3)
    ∷ (sheet (a ∷ []) (rule 2 0 0 0 0 0 0 0 ∷ []), 7, refusal 5 4)
    ∷ (letters 7 ++ 1 ∷ rule 0 0 0 0 127 0 63 0 ++ 0 ∷ [], 7, refusal 7 0)
    ∷ []
