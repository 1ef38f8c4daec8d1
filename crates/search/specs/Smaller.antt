-- A smaller model that has some atoms and lacks others. Assumes nothing.
use Rattle.std.specs.Prelude.{ℕ, List}
use Rattle.sets.specs.Sets.{◌⊆◌, ◌⊂◌, Meets}
use Rattle.lanes.specs.declared.rule.Rule.{Rule}
use Rattle.lanes.specs.Smaller.{Passes}

-- in lane b, a proper subset of i that has every atom of j and no atom of out is a model of the rules that are on
pub record Small (rules : List Rule) (on : List ℕ) (n i j out b : ℕ) : Type 0 where
  pub set : ℕ
  pub from : j ⊆ set
  pub within : set ⊂ i
  pub apart : Meets set out → ⊥
  pub passes : Passes rules on n b set
