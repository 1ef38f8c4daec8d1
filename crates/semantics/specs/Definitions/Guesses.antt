-- Document 01, "Guesses".
use Rattle.std.specs.Prelude.{ℕ, Bool, ◌&&◌, ◌||◌, List, ◌++◌, length, get_or}
use Rattle.std.proofs.Math.Decide.{ℕ_discrete}
use Rattle.sets.specs.Decides.{does}
use Rattle.sets.specs.Lists.{some, only, flat, up_to}
use Rattle.sets.specs.Sets.{◌∈?◌}
use Rattle.semantics.specs.Definitions.Rules.{EpistemicRule, Subjective, K, not_k, M, not_m}

-- The epistemic negations (000, Definition 3): `not_known a` is "not K a", `may_be a` is "M a".
pub data Negation : Type 0 where
  not_known may_be : ℕ → Negation
  deriving Discrete as same_negation

-- some rule has a in one of two masks
abbrev pub mentioned : List EpistemicRule → Subjective → Subjective → ℕ → Bool
mentioned rs m m' a = some (λ r. a ∈? r.mask m || a ∈? r.mask m') rs

-- "For each, first "not K a" if some rule has a in mask 4 or 5, then "M a" if some rule has a in mask 6 or 7."
abbrev pub negations_on : List EpistemicRule → ℕ → List Negation
negations_on rs a = only (mentioned rs K not_k a) (not_known a) ++ only (mentioned rs M not_m a) (may_be a)

-- "Go through the atoms by number."
abbrev pub negations_of : ℕ → List EpistemicRule → List Negation
negations_of n rs = flat (negations_on rs) (up_to n)

-- "These are the epistemic negations (000, Definition 3), numbered from 0": negation j. (At or above k the value is arbitrary and nothing
-- uses it.)
abbrev pub numbered : List Negation → ℕ → Negation
numbered es j = get_or es j (not_known 0)

-- "bit j set means that negation j is assumed to hold": the negation e is in the guess g. (`does (same_negation ℕ_discrete d e)` tests whether
-- d and e are the same negation; `ℕ_discrete` compares their atoms.)
abbrev pub assumed : List Negation → ℕ → Negation → Bool
assumed es g e = some (λ j. j ∈? g && does (same_negation ℕ_discrete (numbered es j) e)) (up_to (length es))
