-- The minutes of change, looked for only where an entry begins or ends: the same list, which can be computed (Examples/Changed.antt). Assumes
-- nothing.
-- Here the definitions; the theorems are in proofs/Theorems/Ends.antt.
use Rattle.std.specs.Prelude.{ℕ, cond, List, [], ◌∷◌, ltb, eqb, length}
use Rattle.sets.specs.Lists.{keep}
use Rattle.semantics.specs.Definitions.Returned.{Returned, limited}
use Rattle.semantics.specs.Definitions.Calendar.{Entry, changes_at, with_calendar}

-- ---- numbers put in their place
-- x put into a rising list, unless it is there
unfoldable pub inserted : ℕ → List ℕ → List ℕ
inserted x [] = x ∷ []
inserted x (y ∷ l) = cond (ltb x y) (x ∷ y ∷ l) (cond (eqb x y) (y ∷ l) (y ∷ inserted x l))

-- ---- the first minutes and the ends of entries, rising
unfoldable pub ends_of : List Entry → List ℕ
ends_of [] = []
ends_of (e ∷ es) = inserted e.first (inserted e.end (ends_of es))

-- ---- the call, so
unfoldable pub changes_at_ends : (sheet calendar : List ℕ) (words : ℕ) → Returned (List ℕ)
changes_at_ends sheet calendar words =
    with_calendar sheet calendar λ x es.
    let minutes = keep (changes_at es (length x.rules)) (ends_of es) in
    limited (length minutes) words (length minutes) minutes
