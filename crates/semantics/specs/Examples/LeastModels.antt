-- Document 02, K6: least models of the reduced rules, and the sets that pass by them, worked out by hand.
use Rattle.std.specs.Prelude.{ℕ, Bool, true, false, List, [], ◌∷◌, ◌++◌}
use Rattle.semantics.specs.Definitions.Rules.{Rule}
use Rattle.semantics.specs.Definitions.Day.{day_constraints}
use Rattle.semantics.specs.Examples.Sheets.{a, b, c, sheet, rule}

-- a rule without K and M
abbrev pub objective : (head plain nots not_nots : ℕ) → Rule
objective m0 m1 m2 m3 = record { head = m0; plain = m1; nots = m2; not_nots = m3 }

-- c ← b; b ← a; a: each rule waits for the next one, so each step adds one atom
abbrev pub chain : List Rule
chain = objective 4 2 0 0 ∷ objective 2 1 0 0 ∷ objective 1 0 0 0 ∷ []

-- after no step, one, two and so on
abbrev pub stages : List ℕ
stages = 0 ∷ 1 ∷ 3 ∷ 7 ∷ 7 ∷ []

-- a ← not b; b ← not a
abbrev even_cycle : List Rule
even_cycle = objective 1 0 2 0 ∷ objective 2 0 1 0 ∷ []

-- The number of atoms, and rules; at each set of atoms, rising, the least model of the rules reduced by it; the sets that pass by these; the
-- stable sets. The last two are the same where no rule has two head atoms.
abbrev pub least_models : List (ℕ × List Rule × List ℕ × List ℕ × List ℕ)
least_models =
    (3, chain, 7 ∷ 7 ∷ 7 ∷ 7 ∷ 7 ∷ 7 ∷ 7 ∷ 7 ∷ [], 7 ∷ [], 7 ∷ [])
    -- no rule
    ∷ (2, [], 0 ∷ 0 ∷ 0 ∷ 0 ∷ [], 0 ∷ [], 0 ∷ [])
    -- a ← b; b ← a: nothing to begin with
    ∷ (2, objective 1 2 0 0 ∷ objective 2 1 0 0 ∷ [], 0 ∷ 0 ∷ 0 ∷ 0 ∷ [], 0 ∷ [], 0 ∷ [])
    -- the same and b ← not c, which a set with c drops
    ∷ (3, objective 1 2 0 0 ∷ objective 2 1 0 0 ∷ objective 2 0 4 0 ∷ [], 3 ∷ 3 ∷ 3 ∷ 3 ∷ 0 ∷ 0 ∷ 0 ∷ 0 ∷ [], 3 ∷ [], 3 ∷ [])
    -- a ← not b; b ← not c; c ← not a
    ∷ (3, objective 1 0 2 0 ∷ objective 2 0 4 0 ∷ objective 4 0 1 0 ∷ [], 7 ∷ 3 ∷ 6 ∷ 2 ∷ 5 ∷ 1 ∷ 4 ∷ 0 ∷ [], [], [])
    ∷ (2, even_cycle, 3 ∷ 1 ∷ 2 ∷ 0 ∷ [], 1 ∷ 2 ∷ [], 1 ∷ 2 ∷ [])
    -- a ← not not a; b ← a
    ∷ (2, objective 1 0 0 1 ∷ objective 2 1 0 0 ∷ [], 0 ∷ 3 ∷ 0 ∷ 3 ∷ [], 0 ∷ 3 ∷ [], 0 ∷ 3 ∷ [])
    -- c ← a, b; a; b ← not not b: a alone does not bring c
    ∷ (3, objective 4 3 0 0 ∷ objective 1 0 0 0 ∷ objective 2 0 0 2 ∷ [], 1 ∷ 1 ∷ 7 ∷ 7 ∷ 1 ∷ 1 ∷ 7 ∷ 7 ∷ [], 1 ∷ 7 ∷ [], 1 ∷ 7 ∷ [])
    -- a; b ← b: {a, b} is a model and larger than what is grown
    ∷ (2, objective 1 0 0 0 ∷ objective 2 2 0 0 ∷ [], 1 ∷ 1 ∷ 1 ∷ 1 ∷ [], 1 ∷ [], 1 ∷ [])
    -- "constraints included": a; b ← a; ← a, b
    ∷ (2, objective 1 0 0 0 ∷ objective 2 1 0 0 ∷ objective 0 3 0 0 ∷ [], 3 ∷ 3 ∷ 3 ∷ 3 ∷ [], [], [])
    -- ←, with nothing in the body
    ∷ (2, objective 0 0 0 0 ∷ [], 0 ∷ 0 ∷ 0 ∷ 0 ∷ [], [], [])
    -- a ← not not a; ← not a: the constraint is dropped for {a} only
    ∷ (1, objective 1 0 0 1 ∷ objective 0 0 1 0 ∷ [], 0 ∷ 1 ∷ [], 1 ∷ [], 1 ∷ [])
    -- the day's constraints: b is in; a is out; both are in
    ∷ (2, even_cycle ++ day_constraints 2 0, 3 ∷ 1 ∷ 2 ∷ 0 ∷ [], 2 ∷ [], 2 ∷ [])
    ∷ (2, even_cycle ++ day_constraints 0 1, 3 ∷ 1 ∷ 2 ∷ 0 ∷ [], 2 ∷ [], 2 ∷ [])
    ∷ (2, even_cycle ++ day_constraints 3 0, 3 ∷ 1 ∷ 2 ∷ 0 ∷ [], [], [])
    -- a or b: two head atoms. Both enter, and neither {a} nor {b} passes, which are stable
    ∷ (2, objective 3 0 0 0 ∷ [], 3 ∷ 3 ∷ 3 ∷ 3 ∷ [], 3 ∷ [], 1 ∷ 2 ∷ [])
    ∷ []

-- a sheet, and whether each rule has at most one head atom
abbrev pub singles : List (List ℕ × Bool)
singles =
    (sheet [] [], true)
    -- c ← a; ← a, b
    ∷ (sheet (a ∷ b ∷ c ∷ []) (rule 4 1 0 0 0 0 0 0 ∷ rule 0 3 0 0 0 0 0 0 ∷ []), true)
    -- b; a or c ← K b
    ∷ (sheet (a ∷ b ∷ c ∷ []) (rule 2 0 0 0 0 0 0 0 ∷ rule 5 0 0 0 2 0 0 0 ∷ []), false)
    ∷ []

-- a ← not K b; b ← not K a. The guess 0 makes the even cycle of it, 1 leaves a ← not b and b, 2 leaves a and b ← not a, 3 leaves a and b
abbrev two_known : List ℕ
two_known = sheet (a ∷ b ∷ []) (rule 1 0 0 0 0 2 0 0 ∷ rule 2 0 0 0 0 1 0 0 ∷ [])

-- a sheet, in-atoms and out-atoms, a guess, and the sets that pass
abbrev pub least_beliefs : List (List ℕ × ℕ × ℕ × ℕ × List ℕ)
least_beliefs =
    (two_known, 0, 0, 0, 1 ∷ 2 ∷ [])
    ∷ (two_known, 0, 0, 1, 2 ∷ [])
    ∷ (two_known, 0, 0, 2, 1 ∷ [])
    ∷ (two_known, 0, 0, 3, 3 ∷ [])
    -- a is in
    ∷ (two_known, 1, 0, 0, 1 ∷ [])
    ∷ (two_known, 1, 0, 1, [])
    -- b is out
    ∷ (two_known, 0, 2, 0, 1 ∷ [])
    ∷ (two_known, 0, 2, 3, [])
    -- a is in, b is out
    ∷ (two_known, 1, 2, 2, 1 ∷ [])
    ∷ []
