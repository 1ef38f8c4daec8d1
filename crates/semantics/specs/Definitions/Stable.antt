-- Document 01, "Stable sets" (002).
use Rattle.std.specs.Prelude.{ℕ, ◌^◌, Bool, not, ◌&&◌, ◌||◌, List, map}
use Rattle.sets.specs.Lists.{every, some, keep, up_to}
use Rattle.sets.specs.Sets.{◌⊆?◌, ◌⊂?◌, ◌meets?◌, ∅}
use Rattle.semantics.specs.Definitions.Rules.{Rule}

-- the rule's "not" and "not not" literals hold in the set i
abbrev pub negations_hold : ℕ → Rule → Bool
negations_hold i r = not (r.nots meets? i) && r.not_nots ⊆? i

-- "A rule means: if all its body literals hold, some head atom holds." Here: in the set i.
abbrev pub satisfies : ℕ → Rule → Bool
satisfies i r = not (r.plain ⊆? i && negations_hold i r) || r.head meets? i

-- a "model of the program": every rule is satisfied
abbrev pub is_model : List Rule → ℕ → Bool
is_model p i = every (satisfies i) p

-- without its "not" and "not not" literals
abbrev pub positive : Rule → Rule
positive r = record { head = r.head; plain = r.plain; nots = ∅; not_nots = ∅ }

-- "the program got by dropping each rule with a "not" or "not not" literal false in I and then all such literals from the rest" (002: the
-- reduct of the program with respect to I)
unfoldable pub reduct_at : ℕ → List Rule → List Rule
reduct_at i p = map positive (keep (negations_hold i) p)

-- "The search over proper subsets of I": one of them is a model. (A proper subset of I is a smaller number.)
unfoldable pub smaller_model : List Rule → ℕ → Bool
smaller_model p i = some (λ j. j ⊂? i && is_model p j) (up_to i)

-- "A set I of atoms is stable when it is a subset-minimal model of" that program
unfoldable pub stable : List Rule → ℕ → Bool
stable p i = let q = reduct_at i p in is_model q i && not (smaller_model q i)

-- the stable ones of the sets of n atoms, by rising number
unfoldable pub stable_sets : ℕ → List Rule → List ℕ
stable_sets n p = keep (stable p) (up_to (2 ^ n))
