-- Document 01, "Verdict on a guess".
use Rattle.std.specs.Prelude.{ℕ, Bool, true, false, not, cond, List, eqb, length}
use Rattle.sets.specs.Lists.{null}
use Rattle.sets.specs.Sets.{◌∈?◌, set_of, ⋂, ⋃}
use Rattle.semantics.specs.Definitions.Guesses.{Negation, not_known, may_be}
use Rattle.semantics.specs.Definitions.Setting.{Setting, k, negation}
use Rattle.semantics.specs.Definitions.Stable.{stable_sets}

-- "Let W be the stable sets of the reduct"; "W by rising number"
unfoldable pub belief_sets : Setting → ℕ → List ℕ
belief_sets s g = stable_sets s.atoms (s.program g)

-- "known is their intersection, possible their union"
abbrev pub known_in : Setting → List ℕ → ℕ
known_in s w = ⋂ s.atoms w

abbrev pub possible_in : List ℕ → ℕ
possible_in w = ⋃ w

-- "the guess found has "not K a" where a is not known and "M a" where a is possible"
abbrev pub found_has : (known possible : ℕ) → Negation → Bool
found_has known possible (not_known a) = not (a ∈? known)
found_has known possible (may_be a) = a ∈? possible

-- (000: the negations that W satisfies)
unfoldable pub guess_found : Setting → List ℕ → ℕ
guess_found s w = set_of (λ j. found_has (known_in s w) (possible_in w) (negation s j)) (k s)

-- "empty"; "other", with the guess found; "verified", with known, possible and the number of sets
pub data Verdict : Type 0 where
  empty : Verdict
  other : (found : ℕ) → Verdict
  verified : (known possible sets : ℕ) → Verdict

-- "If W is empty: "empty". [..] If it differs from the guess given: "other", with the guess found. Else "verified", with known, possible
-- and the number of sets."
abbrev pub judge : (none differs : Bool) → (found known possible sets : ℕ) → Verdict
judge none differs found known possible sets = cond none empty (cond differs (other found) (verified known possible sets))

-- of a guess, by its W
abbrev pub verdict_by : Setting → List ℕ → ℕ → Verdict
verdict_by s w g = judge (null w) (not (eqb (guess_found s w) g)) (guess_found s w) (known_in s w) (possible_in w) (length w)

unfoldable pub verdict : Setting → ℕ → Verdict
verdict s g = verdict_by s (belief_sets s g) g

-- which of the three it is; 'verified' is 000's reduct-verifiable (Definition 5)
abbrev pub is_empty : Verdict → Bool
is_empty empty = true
is_empty (other found) = false
is_empty (verified known possible sets) = false

abbrev pub is_other : Verdict → Bool
is_other empty = false
is_other (other found) = true
is_other (verified known possible sets) = false

abbrev pub is_verified : Verdict → Bool
is_verified empty = false
is_verified (other found) = false
is_verified (verified known possible sets) = true
