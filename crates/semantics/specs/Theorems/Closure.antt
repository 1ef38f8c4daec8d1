-- "T and F are the least sets of atoms closed under these rules": the pair that the steps reach is closed, and within every closed pair.
-- Assumes nothing.
-- Here the definitions; the theorems are in proofs/Theorems/Closure.antt.
use Prim.Native.Nat.{ℕ, ◌<◌}
use Rattle.std.specs.Prelude.{◌≡◌, List, ◌⊎◌}
use Rattle.sets.specs.Lists.{◌among◌}
use Rattle.sets.specs.Sets.{◌∈◌, ◌⊆◌, Meets}
use Rattle.semantics.specs.Definitions.Rules.{Rule}
use Rattle.semantics.specs.Definitions.Propagation.{Pair}

-- ---- the sentences, as propositions
abbrev pub Sure : Pair → Rule → Type 0
Sure x r = (r.plain ⊆ x.T) × (r.not_nots ⊆ x.T) × (r.nots ⊆ x.F)

abbrev pub Dead : Pair → Rule → Type 0
Dead x r = (Meets r.plain x.F ⊎ Meets r.not_nots x.F) ⊎ Meets r.nots x.T

-- "all other head atoms in F"
abbrev pub OthersOut : Pair → Rule → ℕ → Type 0
OthersOut x r a = (b : ℕ) → b ∈ r.head → (b ≡ a → ⊥) → b ∈ x.F

abbrev pub EntersT : List Rule → Pair → ℕ → Type 0
EntersT p x a = (r : Rule) × (r among p) × (a ∈ r.head) × Sure x r × OthersOut x r a

abbrev pub EntersF : List Rule → Pair → ℕ → Type 0
EntersF p x a = (r : Rule) → r among p → a ∈ r.head → Dead x r

-- what enters is there. n is the number of atoms.
pub record Closed (n : ℕ) (p : List Rule) (x : Pair) : Type 0 where
  pub has_t : {a : ℕ} → a < n → EntersT p x a → a ∈ x.T
  pub has_f : {a : ℕ} → a < n → EntersF p x a → a ∈ x.F

-- one pair is within another
pub record Within (x y : Pair) : Type 0 where
  pub in_t : x.T ⊆ y.T
  pub in_f : x.F ⊆ y.F

-- "T and F are the least sets of atoms closed under these rules."
pub record LeastClosed (n : ℕ) (p : List Rule) (x : Pair) : Type 0 where
  pub closed : Closed n p x
  pub least : {y : Pair} → Closed n p y → Within x y
