-- Sheets of our own, whose lists tell apart readings of document 01 that its own sheets do not. After each sheet's rules stands the
-- reading that no other sheet here tells apart. docs/DECISIONS.md, "Known lists".
use Rattle.std.specs.Prelude.{List, [], ◌∷◌}
use Rattle.semantics.specs.Definitions.Check.{numbers}
use Rattle.semantics.specs.Definitions.Listing.{tallied}
use Rattle.semantics.specs.Examples.Sheets.{a, b, c, d, rule, sheet, view, Listed, entry}

abbrev pub own : List Listed
own =
    -- a ← M a, M b; c ← a, K c; ← not not b; b ← not M c
    -- dead "not not" atoms; T beyond the facts; K a becomes a, not "not not a"
    entry (sheet (a ∷ b ∷ c ∷ []) (rule 1 0 0 0 0 0 3 0 ∷ rule 4 1 0 0 4 0 0 0 ∷ rule 0 0 0 2 0 0 0 0 ∷ rule 2 0 0 0 0 0 0 4 ∷ []))
    (numbers 3 4 4) [] (tallied 0 0 12 4 4 0)
    -- a ← M a; ← K a
    -- M a that does not hold; the guess found is compared whole
    ∷ entry (sheet (a ∷ []) (rule 1 0 0 0 0 0 1 0 ∷ rule 0 0 0 0 1 0 0 0 ∷ [])) (numbers 1 2 2) [] (tallied 0 0 2 2 0 2)
    -- b ← not M a, not M b; a ← K a, K b
    -- one literal is enough to delete a rule; "not K a" left out and a in F
    ∷ entry (sheet (a ∷ b ∷ []) (rule 2 0 0 0 0 0 0 3 ∷ rule 1 0 0 0 3 0 0 0 ∷ [])) (numbers 2 2 4) [] (tallied 0 0 13 3 3 0)
    -- a or b; ← M b, not M c; b or c ← not K a
    -- minimality is among subsets only; known and possible in the guess found; a verified guess that is covered
    ∷ entry (sheet (a ∷ b ∷ c ∷ []) (rule 3 0 0 0 0 0 0 0 ∷ rule 0 0 0 0 0 0 2 4 ∷ rule 6 0 0 0 0 1 0 0 ∷ []))
    (numbers 3 3 3) (view 7 0 7 2 ∷ []) (tallied 1 7 0 1 0 0)
    -- a or b ← M b; b; a ← not b, M a
    -- "all of whose head rules are dead"; "M a" left out and a in T; covered before ruled
    ∷ entry (sheet (a ∷ b ∷ []) (rule 3 0 0 0 0 0 2 0 ∷ rule 2 0 0 0 0 0 0 0 ∷ rule 1 0 2 0 0 0 1 0 ∷ []))
    (numbers 2 3 2) (view 2 2 2 1 ∷ []) (tallied 1 1 1 2 0 1)
    -- ← not not c, M b; c ← not K a, not K b; a ← not K b, not K c; b ← not a, not c
    -- the numbering; dead "not" atoms; covered by any view, not by the first; size falling
    ∷ entry (sheet (a ∷ b ∷ c ∷ []) (rule 0 0 0 4 0 0 2 0 ∷ rule 4 0 0 0 0 3 0 0 ∷ rule 1 0 0 0 0 6 0 0 ∷ rule 2 0 5 0 0 0 0 0 ∷ []))
    (numbers 3 4 4) (view 13 2 2 1 ∷ view 3 4 4 1 ∷ view 10 1 1 1 ∷ []) (tallied 3 8 4 4 0 1)
    -- a ← b; b ← c; c ← d, M a
    -- F grows by one atom a step, four times: no fixed three steps
    ∷ entry (sheet (a ∷ b ∷ c ∷ d ∷ []) (rule 1 2 0 0 0 0 0 0 ∷ rule 2 4 0 0 0 0 0 0 ∷ rule 4 8 0 0 0 0 1 0 ∷ []))
    (numbers 4 3 1) (view 0 0 0 1 ∷ []) (tallied 1 0 1 1 0 0)
    ∷ []
