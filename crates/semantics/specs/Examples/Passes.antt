-- Document 02, K2: what is gathered of guesses, worked out by hand, and in how many tests.
use Rattle.std.specs.Prelude.{ℕ, List, [], ◌∷◌}
use Rattle.semantics.specs.Definitions.Pass.{Gathered, having}
use Rattle.semantics.specs.Examples.Sheets.{a, b, c, sheet, rule, kiln, sheet_3, sheet_6}

-- a sheet, a guess, and what is gathered
abbrev pub passes : List (List ℕ × ℕ × Gathered)
passes =
    -- "many free choices": a ← not not a; b ← not not b; c ← not not c. Each of the eight sets is stable
    (sheet (a ∷ b ∷ c ∷ []) (rule 1 0 0 1 0 0 0 0 ∷ rule 2 0 0 2 0 0 0 0 ∷ rule 4 0 0 4 0 0 0 0 ∷ []), 0, having 0 7 8 8)
    -- a; b or c ← a. Stable are {a, b} and {a, c}
    ∷ (sheet (a ∷ b ∷ c ∷ []) (rule 1 0 0 0 0 0 0 0 ∷ rule 6 1 0 0 0 0 0 0 ∷ []), 0, having 1 7 2 8)
    -- the same and ← not c: {a, c} alone
    ∷ (sheet (a ∷ b ∷ c ∷ []) (rule 1 0 0 0 0 0 0 0 ∷ rule 6 1 0 0 0 0 0 0 ∷ rule 0 0 4 0 0 0 0 0 ∷ []), 0, having 5 5 1 8)
    -- nothing is stable, and each set is a test all the same: a ← not a; sheet 3, a ← not K a, whose reduct by guess 0 it is
    ∷ (sheet (a ∷ []) (rule 1 0 1 0 0 0 0 0 ∷ []), 0, having 1 0 0 2)
    ∷ (sheet_3.bytes, 0, having 1 0 0 2)
    -- the empty set is tested too: two atoms and no rule, and no atom at all
    ∷ (sheet (a ∷ b ∷ []) [], 0, having 0 0 1 4)
    ∷ (sheet [] [], 0, having 0 0 1 1)
    -- guesses of sheet 6 and of the kiln example
    ∷ (sheet_6.bytes, 1, having 2 2 1 4)
    ∷ (sheet_6.bytes, 3, having 3 3 1 4)
    ∷ (kiln.bytes, 0, having 1 1 1 4)
    ∷ (kiln.bytes, 1, having 3 0 0 4)
    ∷ []
