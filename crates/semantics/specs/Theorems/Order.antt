-- The order by its rule, size falling and then number rising, holds every guess once, larger ones first. For every k. Assumes nothing.
-- Here the definitions; the theorems are in proofs/Theorems/Order.antt.
use Rattle.std.specs.Prelude.{ℕ, ◌^◌, ◌≤◌, ◌<◌, ◌≡◌, List, ◌⊎◌}
use Rattle.sets.specs.Lists.{◌among◌}
use Rattle.sets.specs.Pairwise.{Pairwise, Distinct}
use Rattle.sets.specs.Sets.{Below, size}

-- g stands before h in the order
abbrev pub Before : ℕ → ℕ → Type 0
Before g h = (size h < size g) ⊎ ((size g ≡ size h) × (g < h))

-- What the theorems on the listing ask of an order of guesses: it has every guess of k negations, each once, and those of larger size first.
pub record Enumerates (k : ℕ) (l : List ℕ) : Type 0 where
  pub below : Below k l
  pub all : (g : ℕ) → g < 2 ^ k → g among l
  pub once : Distinct l
  pub larger_first : Pairwise (λ g h. size h ≤ size g) l
