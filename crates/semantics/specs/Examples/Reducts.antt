-- 000, Definition 2: its table, cell by cell. The reducts of sheets that have "b ← L a" as their only rule, written by hand from the paper.
use Rattle.std.specs.Prelude.{ℕ, List, [], ◌∷◌}
use Rattle.semantics.specs.Definitions.Rules.{Rule}
use Rattle.semantics.specs.Examples.Sheets.{a, b, sheet, rule}

-- b ← L a, where L is K, not K, M or not M
abbrev one_rule : (K not_k M not_m : ℕ) → List ℕ
one_rule m4 m5 m6 m7 = sheet (a ∷ b ∷ []) (rule 2 0 0 0 m4 m5 m6 m7 ∷ [])

-- b ← a and the like
abbrev only : (plain nots not_nots : ℕ) → List Rule
only m1 m2 m3 = record { head = 2; plain = m1; nots = m2; not_nots = m3 } ∷ []

-- a sheet, a guess, and the reduct. The one negation is "not K a" or "M a"; guess 1 assumes it, guess 0 does not.
abbrev pub reducts : List (List ℕ × ℕ × List Rule)
reducts =
    -- "if W ⊨ φ then replace K ℓ with ℓ", "if W ⊭ φ then delete rule containing K ℓ"
    (one_rule 1 0 0 0, 0, only 1 0 0)
    ∷ (one_rule 1 0 0 0, 1, [])
    -- "remove not K ℓ", "replace not K ℓ with not ℓ"
    ∷ (one_rule 0 1 0 0, 1, only 0 0 0)
    ∷ (one_rule 0 1 0 0, 0, only 0 1 0)
    -- "remove M ℓ", "replace M ℓ with not not ℓ"
    ∷ (one_rule 0 0 1 0, 1, only 0 0 0)
    ∷ (one_rule 0 0 1 0, 0, only 0 0 1)
    -- "replace not M ℓ with not ℓ", "delete rule containing not M ℓ"
    ∷ (one_rule 0 0 0 1, 0, only 0 1 0)
    ∷ (one_rule 0 0 0 1, 1, [])
    ∷ []
