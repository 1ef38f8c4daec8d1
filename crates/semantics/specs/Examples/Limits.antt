-- Document 01, "Turned back at the door": limit cases of the sheet, refused and accepted, and what the check answers to each.
use Rattle.std.specs.Prelude.{ℕ, ◌+◌, List, [], ◌∷◌, ◌++◌}
use Rattle.sets.specs.Lists.{flat, up_to}
use Rattle.semantics.specs.Definitions.Check.{Numbers, numbers}
use Rattle.semantics.specs.Definitions.Returned.{Returned, accepted, refusal}
use Rattle.semantics.specs.Definitions.Program.{bytes}
use Rattle.semantics.specs.Examples.Sheets.{zeros, rule}

-- the number of atoms, n, and the names a, b, c and so on
abbrev pub letters : ℕ → List ℕ
letters n = n ∷ flat (λ i. 1 ∷ (97 + i) ∷ []) (up_to n)

-- K7: "the longest sheet is 1,236": fifteen names of twelve bytes, 64 rules, and the seven pairs of atoms 0 and 1, 2 and 3, up to 12 and 13
abbrev pub longest : List ℕ
longest = 15 ∷ flat (λ i. 12 ∷ bytes "abcdefghijk" ++ (97 + i) ∷ []) (up_to 15) ++ 64 ∷ zeros 1024 ++ 7 ∷ up_to 14

abbrev pub answers : List (List ℕ × Returned Numbers)
answers =
    -- "the bytes end too soon": no count of atoms; no count of rules; no count of pairs
    ([], refusal 1 0)
    ∷ (0 ∷ [], refusal 1 1)
    ∷ (0 ∷ 0 ∷ [], refusal 1 2)
    -- the shortest sheet, three counts of 0
    ∷ (0 ∷ 0 ∷ 0 ∷ [], accepted (numbers 0 0 0))
    -- "15 atoms pass, 16 give 2 at place 0"
    ∷ (letters 15 ++ 0 ∷ 0 ∷ [], accepted (numbers 15 0 0))
    ∷ (16 ∷ [], refusal 2 0)
    -- "over 15 atoms or 64 rules": 64 rules may be announced, and then they are missing
    ∷ (0 ∷ 64 ∷ [], refusal 1 2)
    ∷ (0 ∷ 65 ∷ [], refusal 2 1)
    -- K7: "extra bytes are those after the last pair"; where there is none, those after the count
    ∷ (0 ∷ 0 ∷ 0 ∷ 7 ∷ [], refusal 6 3)
    -- "a length byte 1 to 12"
    ∷ (1 ∷ 0 ∷ [], refusal 3 1)
    ∷ (1 ∷ 12 ∷ 97 ∷ 97 ∷ 97 ∷ 97 ∷ 97 ∷ 97 ∷ 97 ∷ 97 ∷ 97 ∷ 97 ∷ 97 ∷ 97 ∷ 0 ∷ 0 ∷ [], accepted (numbers 1 0 0))
    ∷ (1 ∷ 13 ∷ [], refusal 3 1)
    -- "a name's bytes are all present before any is judged"
    ∷ (1 ∷ 2 ∷ 65 ∷ [], refusal 1 3)
    ∷ (1 ∷ 2 ∷ 97 ∷ [], refusal 1 3)
    ∷ (1 ∷ 2 ∷ 97 ∷ 65 ∷ [], refusal 3 3)
    -- "bytes from a-z, 0-9 and `_`, the first from a-z"
    ∷ (1 ∷ 1 ∷ 95 ∷ [], refusal 3 2)
    ∷ (1 ∷ 2 ∷ 97 ∷ 95 ∷ 0 ∷ 0 ∷ [], accepted (numbers 1 0 0))
    -- "a name equal to an earlier one"; one that only begins like it is another
    ∷ (2 ∷ 1 ∷ 97 ∷ 1 ∷ 97 ∷ [], refusal 4 3)
    ∷ (2 ∷ 1 ∷ 97 ∷ 2 ∷ 97 ∷ 98 ∷ 0 ∷ 0 ∷ [], accepted (numbers 2 0 0))
    -- "a whole rule before its masks": mask 0 has a bit at the atom count, but the rule ends too soon
    ∷ (1 ∷ 1 ∷ 97 ∷ 1 ∷ 2 ∷ 0 ∷ [], refusal 1 6)
    -- "a bit at or above the atom count": in mask 0, in its high byte; in mask 7; in the first rule, where the second is missing
    ∷ (1 ∷ 1 ∷ 97 ∷ 1 ∷ 0 ∷ 2 ∷ zeros 14, refusal 5 4)
    ∷ (0 ∷ 1 ∷ zeros 14 ++ 1 ∷ 0 ∷ [], refusal 5 16)
    ∷ (0 ∷ 2 ∷ 1 ∷ zeros 15, refusal 5 2)
    -- all fifteen atoms; the sixteenth bit
    ∷ (letters 15 ++ 1 ∷ 255 ∷ 127 ∷ zeros 14 ++ 0 ∷ [], accepted (numbers 15 1 0))
    ∷ (letters 15 ++ 1 ∷ 0 ∷ 128 ∷ zeros 14, refusal 5 32)
    -- "k of 12 passes, 13 gives 7": six or seven atoms under K and six under M; the bytes after the last section come first
    ∷ (letters 7 ++ 1 ∷ rule 0 0 0 0 63 0 63 0 ++ 0 ∷ [], accepted (numbers 7 1 12))
    ∷ (letters 7 ++ 1 ∷ rule 0 0 0 0 127 0 63 0 ++ 0 ∷ [], refusal 7 0)
    ∷ (letters 7 ++ 1 ∷ rule 0 0 0 0 127 0 63 0 ++ 0 ∷ 0 ∷ [], refusal 6 33)
    ∷ []
