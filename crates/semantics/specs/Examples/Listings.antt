-- Document 01, "Order and listing" and "Turned back at the door": what the listing returns for known sheets and so many words, and
-- the desk call for so many bytes.
use Rattle.std.specs.Prelude.{ℕ, ◌+◌, ◌*◌, List, [], ◌∷◌, ◌++◌, map}
use Rattle.semantics.specs.Definitions.Returned.{Returned, accepted, refusal}
use Rattle.semantics.specs.Definitions.Listing.{Tally, tallied, View}
use Rattle.semantics.specs.Definitions.Calls.{Result}
use Rattle.semantics.specs.Examples.Sheets.{zeros, a, sheet, rule, view, kiln, sheet_3, sheet_6}

abbrev pub result : Tally → List View → Result
result t vs = record { tally = t; views = vs }

-- a sheet, the number of words lent, and the result
abbrev pub listings : List (List ℕ × ℕ × Returned Result)
listings =
    -- two views: more words than they need, as many, and one fewer; "4 times views [..] over the words", with the number of views
    (sheet_6.bytes, 9, accepted (result (tallied 2 1 1 2 0 0) (view 1 2 2 1 ∷ view 2 1 1 1 ∷ [])))
    ∷ (sheet_6.bytes, 8, accepted (result (tallied 2 1 1 2 0 0) (view 1 2 2 1 ∷ view 2 1 1 1 ∷ [])))
    ∷ (sheet_6.bytes, 7, refusal 9 2)
    ∷ (kiln.bytes, 4, accepted (result (tallied 1 0 1 1 0 0) (view 0 1 1 1 ∷ [])))
    ∷ (kiln.bytes, 3, refusal 9 1)
    -- no view needs no word, whatever the number of guesses
    ∷ (sheet_3.bytes, 0, accepted (result (tallied 0 0 1 1 1 0) []))
    -- the sheet is judged before the words
    ∷ (zeros 4, 0, refusal 6 3)
    ∷ (sheet (a ∷ []) (rule 2 0 0 0 0 0 0 0 ∷ []), 0, refusal 5 4)
    ∷ (0 ∷ 1 ∷ zeros 15, 4, refusal 1 17)
    ∷ []

-- a sheet, the bytes lent to the desk call, the number that it returns, and the bytes then
abbrev pub desk_calls : List (List ℕ × List ℕ × ℕ × List ℕ)
desk_calls =
    -- 6 + 4 words for one view: as many, an odd byte more, one byte fewer
    (kiln.bytes, zeros 20, 0, kiln_bytes)
    ∷ (kiln.bytes, zeros 20 ++ 7 ∷ [], 0, kiln_bytes ++ 7 ∷ [])
    ∷ (kiln.bytes, zeros 19, 9 * 65536 + 1, zeros 19)
    -- two views, with bytes to spare and one byte too few; what is not written is kept
    ∷ (sheet_6.bytes, sevens 31, 0, pair_bytes ++ sevens 3)
    ∷ (sheet_6.bytes, sevens 27, 9 * 65536 + 2, sevens 27)
    -- no view: six words
    ∷ (sheet_3.bytes, zeros 12, 0, 0 ∷ 0 ∷ 0 ∷ 0 ∷ 1 ∷ 0 ∷ 1 ∷ 0 ∷ 1 ∷ 0 ∷ 0 ∷ 0 ∷ [])
    ∷ (sheet_3.bytes, zeros 11, 9 * 65536, zeros 11)
    -- the sheet is judged before the words
    ∷ (zeros 4, [], 6 * 65536 + 3, [])
    ∷ []
  where
    -- 1 0 1 1 0 0, and the record 0 1 1 1
    kiln_bytes : List ℕ
    kiln_bytes = 1 ∷ 0 ∷ 0 ∷ 0 ∷ 1 ∷ 0 ∷ 1 ∷ 0 ∷ 0 ∷ 0 ∷ 0 ∷ 0 ∷ 0 ∷ 0 ∷ 1 ∷ 0 ∷ 1 ∷ 0 ∷ 1 ∷ 0 ∷ []

    -- 2 1 1 2 0 0, and the records 1 2 2 1 and 2 1 1 1
    pair_bytes : List ℕ
    pair_bytes =
        2 ∷ 0 ∷ 1 ∷ 0 ∷ 1 ∷ 0 ∷ 2 ∷ 0 ∷ 0 ∷ 0 ∷ 0 ∷ 0
        ∷ 1 ∷ 0 ∷ 2 ∷ 0 ∷ 2 ∷ 0 ∷ 1 ∷ 0
        ∷ 2 ∷ 0 ∷ 1 ∷ 0 ∷ 1 ∷ 0 ∷ 1 ∷ 0 ∷ []

    sevens : ℕ → List ℕ
    sevens n = map (λ _. 7) (zeros n)
