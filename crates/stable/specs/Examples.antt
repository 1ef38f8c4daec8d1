-- What is grown in a set, worked out by hand and computed. Assumes nothing.
use Rattle.std.specs.Prelude.{ℕ, ◌≡◌, refl, List, [], ◌∷◌, map}
use Rattle.std.specs.Int.Count.{ones, ones_in}
use Rattle.sets.specs.Lists.{keep}
use Rattle.sets.specs.Sets.{∅}
use Rattle.semantics.specs.Definitions.Rules.{Rule}
use Rattle.semantics.specs.Definitions.LeastModel.{grown, least_model}
use Rattle.stable.specs.Growth.{narrowed}

-- "head ← plain"
abbrev from : (head plain : ℕ) → Rule
from head plain = record { head = head; plain = plain; nots = ∅; not_nots = ∅ }

-- Atoms a, b, c are 1, 2, 4. Each row: the set, the rules, what is grown.
abbrev rows : List (ℕ × List Rule × ℕ)
rows =
    -- a or b: of the two head atoms the set has one, and it enters
    (1, from 3 0 ∷ [], 1)
    -- it has both: neither enters
    ∷ (3, from 3 0 ∷ [], 0)
    -- c; a or b; a ← b; b ← a: the growth stops at {c}, and {c} is no model
    ∷ (7, from 4 0 ∷ from 3 0 ∷ from 1 2 ∷ from 2 1 ∷ [], 4)
    -- a or b; c ← a; b ← c, in {a, c}: a enters, then c; b is not in the set
    ∷ (5, from 3 0 ∷ from 4 1 ∷ from 2 4 ∷ [], 5)
    -- c ← b; b ← a; a or c, in {a, b}: a, then b
    ∷ (3, from 4 2 ∷ from 2 1 ∷ from 5 0 ∷ [], 3)
    -- a ← b; b ← a: nothing enters
    ∷ (3, from 1 2 ∷ from 2 1 ∷ [], 0)
    ∷ []

grown_are : map (λ r. least_model (narrowed r.0 r.1)) rows ≡ map (λ r. r.2) rows
unfolding narrowed grown keep ones ones_in
grown_are = refl
