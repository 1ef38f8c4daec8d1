-- Which guesses are not contradicted. Assumes nothing.
use Rattle.std.specs.Prelude.{ℕ, ◌^◌, ◌<◌, ◌≡◌, false, List}
use Rattle.semantics.specs.Definitions.Propagation.{contradicted}
use Rattle.guess.specs.declared.outline.Outline.{Outline}
use Rattle.guess.specs.Programs.{setting_in}

-- g is a guess that is not contradicted, of rules in words with their outline
pub record Free (x : Outline) (words : List ℕ) (g : ℕ) : Type 0 where
  pub guess : g < 2 ^ x.negations
  pub holds : contradicted (setting_in x words) g ≡ false
