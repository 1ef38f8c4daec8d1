-- Document 01, "Query and program": what `views` prints for known sheets.
use Rattle.std.specs.Prelude.{ℕ, List, [], ◌∷◌}
use Rattle.semantics.specs.Definitions.Program.{bytes}
use Rattle.semantics.specs.Examples.Sheets.{zeros, a, b, sheet, rule, kiln, sheet_3, sheet_6, sheet_7}
use Rattle.semantics.specs.Examples.Opposites.{old, with_pair, bad, choices, facts}

-- the input, and the text printed
abbrev pub texts : List (List ℕ × List ℕ)
texts =
    (kiln.bytes, bytes "sheet 2 2 1\nview 0 1 glaze\nset glaze\ntally 1 0 1 1 0 0\n")
    -- no view; two views; two belief sets, the first without an atom; two names on a line
    ∷ (sheet_3.bytes, bytes "sheet 1 1 1\ntally 0 0 1 1 1 0\n")
    ∷ (sheet_6.bytes, bytes "sheet 2 2 2\nview 1 1 b\nset b\nview 2 1 a\nset a\ntally 2 1 1 2 0 0\n")
    ∷ (sheet_7.bytes, bytes "sheet 1 1 0\nview 0 2\nset\nset a\ntally 1 0 0 1 0 0\n")
    ∷ (sheet (a ∷ b ∷ []) (rule 1 0 0 0 0 0 0 0 ∷ rule 2 0 0 0 0 0 0 0 ∷ []), bytes "sheet 2 2 0\nview 0 1 a b\nset a b\ntally 1 0 0 1 0 0\n")
    -- a rule that ends too soon; bytes after the last section
    ∷ (0 ∷ 1 ∷ zeros 15, bytes "refused 1 17\n")
    ∷ (zeros 4, bytes "refused 6 3\n")
    -- document 02, K7: dry ← not not dry; wet ← not not wet, and dry; wet, each with the pair; a bad pair; no third section
    ∷ (with_pair choices, bytes "sheet 2 2 0\nview 0 3\nset\nset dry\nset wet\ntally 1 0 0 1 0 0\n")
    ∷ (with_pair facts, bytes "sheet 2 2 0\ntally 0 0 1 0 0 0\n")
    ∷ (bad, bytes "refused 15 11\n")
    ∷ (old kiln, bytes "refused 1 47\n")
    ∷ []
