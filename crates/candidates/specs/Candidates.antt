-- The sets of atoms that are tried, 64 a word: lane b of word w is the set 64w + b. Assumes nothing.
use Rattle.std.specs.Prelude.{ℕ, ◌+◌, ◌*◌, ◌^◌, ◌<◌, ◌≡◌, true, false, List}
use Rattle.sets.specs.Sets.{◌∈◌}
use Rattle.semantics.specs.Definitions.Stable.{stable}
use Rattle.semantics.specs.Definitions.Day.{allowed}
use Rattle.guess.specs.declared.outline.Outline.{Outline}
use Rattle.guess.specs.Programs.{setting_in}

-- of rules in words, with their outline
pub record Candidates (x : Outline) (words : List ℕ) (w r : ℕ) : Type 0 where
  -- the day's masks allow each of them
  pub pass : {b : ℕ} → b < 64 → b ∈ r → allowed x.ins x.outs (64 * w + b) ≡ true
  -- no guess makes another set stable
  pub others : {b : ℕ} → b < 64 → 64 * w + b < 2 ^ x.atoms → (b ∈ r → ⊥) → (g : ℕ) → stable ((setting_in x words).program g) (64 * w + b) ≡ false
