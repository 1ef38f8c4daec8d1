-- What the walk over the members of a set does. Assumes nothing.
use Rattle.std.specs.Prelude.{ℕ, ◌-◌, ◌<◌, ◌≡◌, Option, Some, None}
use Rattle.sets.specs.Sets.{◌∩◌}
use Rattle.sets.specs.Least.{First}

-- a is the least of the members x of a word, and y are the others
pub record Took (width x a y : ℕ) : Type 0 where
  pub some : 0 < x
  pub least : First x a
  pub within : a < width
  pub others : y ≡ x ∩ (x - 1)

-- the least is taken; or none, where there is none
abbrev pub Takes : (width x : ℕ) → Option ℕ → (y : ℕ) → Type 0
Takes width x None y = x ≡ 0
Takes width x (Some a) y = Took width x a y
