-- 000, Definitions 1 and 5: a guess is verified exactly when it is reduct-verifiable. Assumes nothing.
-- Here the definitions; the theorems are in proofs/Theorems/Verdict.antt.
use Rattle.std.specs.Prelude.{ℕ, ◌^◌, ◌<◌, ◌≡◌, List, ◌↔◌, length}
use Rattle.sets.specs.Lists.{◌among◌}
use Rattle.sets.specs.Pairwise.{Pairwise}
use Rattle.sets.specs.Sets.{◌∈◌}
use Rattle.semantics.specs.Definitions.Guesses.{Negation, not_known, may_be}
use Rattle.semantics.specs.Definitions.Setting.{Setting, k, negation}
use Rattle.semantics.specs.Definitions.Verdict.{belief_sets}
use Rattle.semantics.specs.Theorems.Stable.{Stable}

-- Definition 1: the negation is satisfied by W.
abbrev pub Satisfied : List ℕ → Negation → Type 0
Satisfied w (not_known a) = (i : ℕ) × (i among w) × (a ∈ i → ⊥)
Satisfied w (may_be a) = (i : ℕ) × (i among w) × (a ∈ i)

-- Definition 5: W is not empty, and the guess has exactly the negations that W satisfies.
pub record Verifiable (s : Setting) (g : ℕ) : Type 0 where
  pub non_empty : (i : ℕ) × (i among belief_sets s g)
  pub exact : (j : ℕ) → j < k s → (j ∈ g) ↔ Satisfied (belief_sets s g) (negation s j)

-- ---- what a verdict says
-- w is the stable models of the reduct of g, each once, rising
pub record SetsOf (s : Setting) (g : ℕ) (w : List ℕ) : Type 0 where
  pub stable_exactly : {i : ℕ} → i among w ↔ ((i < 2 ^ s.atoms) × Stable (s.program g) i)
  pub rising : Pairwise ◌<◌ w

-- what a verdict 'verified' says
pub record Verified (s : Setting) (g known possible sets : ℕ) : Type 0 where
  pub verifiable : Verifiable s g
  pub models : SetsOf s g (belief_sets s g)
  pub known_exactly : (a : ℕ) → a ∈ known ↔ ((i : ℕ) → i among belief_sets s g → a ∈ i)
  pub possible_exactly : (a : ℕ) → a ∈ possible ↔ ((i : ℕ) × (i among belief_sets s g) × (a ∈ i))
  pub number : sets ≡ length (belief_sets s g)
