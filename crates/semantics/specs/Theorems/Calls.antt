-- What the calls that take a guess return. Refusals 8 and 9, exactly when; 'verified' exactly when the guess is reduct-verifiable (000,
-- Definition 5); and the belief sets, exactly the stable models of its reduct, each once, rising. Assumes nothing.
-- Here the definitions; the theorems are in proofs/Theorems/Calls.antt.
use Rattle.std.specs.Prelude.{ℕ, ◌^◌, ◌<◌, ◌≡◌}
use Rattle.std.proofs.Math.ListN.{length}
use Rattle.semantics.specs.Definitions.Setting.{Setting, k}
use Rattle.semantics.specs.Definitions.Returned.{Returned}
use Rattle.semantics.specs.Definitions.Verdict.{belief_sets}
use Rattle.semantics.specs.Theorems.Source.{BelowOf, NotBelow}

-- s is the setting of the source, and g is a guess of it
abbrev pub GuessOf : (from : Returned Setting) (g : ℕ) (s : Setting) → Type 0
GuessOf = BelowOf (λ s. 2 ^ k s)

-- g is not below 2^k, and the refusal is "8, 0"
abbrev pub NoGuess : (from : Returned Setting) (g number place : ℕ) → Type 0
NoGuess = NotBelow (λ s. 2 ^ k s) 8

module _ (from : Returned Setting) (g : ℕ) where
  -- ---- the belief sets
  -- there are more sets than words
  abbrev pub TooMany : (words number place : ℕ) → Type 0
  TooMany words number place = (s : Setting) × GuessOf from g s × (words < length (belief_sets s g)) × (number ≡ 9) × (place ≡ length (belief_sets s g))
