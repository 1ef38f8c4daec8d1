-- 002: the test `stable` decides whether a set is a model of the reduced program of which no proper subset is a model. Assumes nothing.
-- Here the definitions; the theorems are in proofs/Theorems/Stable.antt.
use Rattle.std.specs.Prelude.{ℕ, List}
use Rattle.sets.specs.Lists.{◌among◌}
use Rattle.sets.specs.Sets.{◌⊆◌, ◌⊂◌, Meets}
use Rattle.semantics.specs.Definitions.Rules.{Rule}
use Rattle.semantics.specs.Definitions.Stable.{reduct_at}

-- the "not" and "not not" literals of the rule hold in i
abbrev pub NegationsHold : ℕ → Rule → Type 0
NegationsHold i r = (Meets r.nots i → ⊥) × (r.not_nots ⊆ i)

-- if all body literals hold in i, some head atom holds
abbrev pub Satisfies : ℕ → Rule → Type 0
Satisfies i r = (r.plain ⊆ i) × NegationsHold i r → Meets r.head i

abbrev pub Model : List Rule → ℕ → Type 0
Model p i = (r : Rule) → r among p → Satisfies i r

pub record Stable (p : List Rule) (i : ℕ) : Type 0 where
  pub model : Model (reduct_at i p) i
  pub minimal : (j : ℕ) → j ⊂ i → Model (reduct_at i p) j → ⊥

-- ---- the reduced program's models, by the rules of the program itself
abbrev pub ReducedModel : List Rule → (i j : ℕ) → Type 0
ReducedModel p i j = (r : Rule) → r among p → NegationsHold i r → r.plain ⊆ j → Meets r.head j
