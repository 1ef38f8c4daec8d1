-- The rules that a guess switches on at a set of atoms, and stability by these alone. Assumes nothing.
-- Here the definitions; the theorems are in proofs/Theorems/On.antt.
use Rattle.std.specs.Prelude.{ℕ, Bool, not, List}
use Rattle.sets.specs.Lists.{◌among◌}
use Rattle.sets.specs.Sets.{◌∈◌, ◌⊆◌, Meets, ◌∪◌}
use Rattle.semantics.specs.Definitions.Rules.{Rule, EpistemicRule, Subjective, K, not_k, M, not_m}
use Rattle.semantics.specs.Definitions.Guesses.{Negation, not_known, may_be}
use Rattle.semantics.specs.Definitions.Reduct.{reduct_rule}
use Rattle.semantics.specs.Definitions.Setting.{Setting}
use Rattle.semantics.specs.AtSet.{need, barred, asked, plain_on}
use Rattle.semantics.specs.Theorems.Reduct.{Deleted}
use Rattle.semantics.specs.Theorems.Stable.{NegationsHold}

-- the set i satisfies the negation by itself
abbrev pub Needs : ℕ → Negation → Type 0
Needs i (not_known a) = a ∈ i → ⊥
Needs i (may_be a) = a ∈ i

-- what `bars` and `asks` test
abbrev pub Bars : EpistemicRule → Negation → Type 0
Bars r (not_known a) = a ∈ r.mask K
Bars r (may_be a) = a ∈ r.mask not_m

abbrev pub Asks : EpistemicRule → Negation → Type 0
Asks r (not_known a) = a ∈ r.mask not_k
Asks r (may_be a) = a ∈ r.mask M

-- the negation of a literal of a
abbrev pub negation_of : Subjective → ℕ → Negation
negation_of K a = not_known a
negation_of not_k a = not_known a
negation_of M a = may_be a
negation_of not_m a = may_be a

-- a literal holds or not, by whether its negation is assumed
abbrev pub holds_if : Subjective → Bool → Bool
holds_if K b = not b
holds_if not_k b = b
holds_if M b = b
holds_if not_m b = not b

-- all body literals of a rule without K and M hold in i
abbrev pub Body : ℕ → Rule → Type 0
Body i o = (o.plain ⊆ i) × NegationsHold i o

-- the guess g switches the rule on at i: masks 1 to 3 hold in i, and its literals with K and M hold by g with what i needs
pub record On (s : Setting) (r : EpistemicRule) (g i : ℕ) : Type 0 where
  pub body : Body i r.objective
  pub apart : Meets (barred s r) (g ∪ need s i) → ⊥
  pub inside : asked s r ⊆ g ∪ need s i

-- the set j is a model of the rules that g switches on at i
abbrev pub OnModel : Setting → List EpistemicRule → (g i j : ℕ) → Type 0
OnModel s rs g i j = (r : EpistemicRule) → r among rs → On s r g i → plain_on r ⊆ j → Meets r.objective.head j

-- ---- the reduct, for any literals that hold
-- the rule is not deleted, and the body of what it becomes holds in i
abbrev pub Applies : (n : ℕ) → (Subjective → ℕ → Bool) → EpistemicRule → ℕ → Type 0
Applies n holds r i = (Deleted n holds r → ⊥) × Body i (reduct_rule n holds r)
