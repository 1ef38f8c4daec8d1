-- The epistemic negations as the code numbers them: from the atoms under K or "not K" and those under M or "not M". Assumes nothing.
use Rattle.std.specs.Prelude.{ℕ, ◌≤◌, List, ◌++◌, length}
use Rattle.sets.specs.Lists.{only, flat, up_to}
use Rattle.sets.specs.Sets.{◌∈?◌, set_of}
use Rattle.semantics.specs.Definitions.Guesses.{Negation, not_known, may_be, numbered, assumed as assumedIn}
use Rattle.semantics.specs.Definitions.Sheet.{most_atoms}
use Rattle.semantics.specs.Definitions.Check.{most_negations}
use Rattle.semantics.specs.Definitions.Verdict.{found_has}
use Rattle.guess.specs.declared.outline.Outline.{Outline}
use Rattle.guess.specs.declared.negations.Assumptions.{Assumptions}

-- of the atoms below n, k those under K or "not K" and m those under M or "not M"
unfoldable pub negations_in : (n k m : ℕ) → List Negation
negations_in n k m = flat (λ a. only (a ∈? k) (not_known a) ++ only (a ∈? m) (may_be a)) (up_to n)

abbrev pub negations_by : Outline → List Negation
negations_by x = negations_in x.atoms x.k_atoms x.m_atoms

-- as many atoms and negations as a program within the limits has at most
abbrev pub Few : Outline → Type 0
Few x = (x.atoms ≤ most_atoms) × (length (negations_by x) ≤ most_negations)

-- the atoms whose negations are in the guess
abbrev pub assumed_by : Outline → (guess : ℕ) → Assumptions
assumed_by x g = record {
  unknown = set_of (λ a. assumedIn (negations_by x) g (not_known a)) x.atoms;
  maybe = set_of (λ a. assumedIn (negations_by x) g (may_be a)) x.atoms;
}

-- "the guess found"
abbrev pub found_by : Outline → (known possible : ℕ) → ℕ
found_by x known possible = set_of (λ j. found_has known possible (numbered (negations_by x) j)) (length (negations_by x))
