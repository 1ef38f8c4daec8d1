-- T and F of a guess's reduct, and whether the guess is contradicted, by the rules of the sheet: which of them are sure and which are deleted
-- or dead, literal by literal. Assumes nothing.
-- Here the definitions; the theorems are in proofs/Theorems/Literals.antt.
use Rattle.std.specs.Prelude.{ℕ, ◌<◌, ◌≡◌, true, List, ◌⊎◌}
use Rattle.sets.specs.Lists.{◌among◌}
use Rattle.sets.specs.Sets.{◌∈◌, ◌⊆◌, Meets, ∅, single}
use Rattle.semantics.specs.Definitions.Rules.{EpistemicRule, Subjective, K, not_k, M, not_m}
use Rattle.semantics.specs.Definitions.Guesses.{Negation, not_known, may_be, negations_of, assumed}
use Rattle.semantics.specs.Definitions.Propagation.{Pair}
use Rattle.semantics.specs.Theorems.Negations.{Mentioned}
use Rattle.semantics.specs.Theorems.Contradicted.{ClashIf}
use Rattle.semantics.specs.Theorems.On.{negation_of}

-- ---- one literal with K or M, where H says that the guess assumes its negation
-- its rule is kept, and what is left of it is sure
abbrev pub SureLiteral : (H : Type 0) → Subjective → Pair → (a : ℕ) → Type 0
SureLiteral H K x a = (H → ⊥) × (a ∈ x.T)
SureLiteral H not_k x a = H ⊎ (a ∈ x.F)
SureLiteral H M x a = H ⊎ (a ∈ x.T)
SureLiteral H not_m x a = (H → ⊥) × (a ∈ x.F)

-- its rule is deleted, or what is left of it is dead
abbrev pub DeadLiteral : (H : Type 0) → Subjective → Pair → (a : ℕ) → Type 0
DeadLiteral H K x a = H ⊎ (a ∈ x.F)
DeadLiteral H not_k x a = (H → ⊥) × (a ∈ x.T)
DeadLiteral H M x a = (H → ⊥) × (a ∈ x.F)
DeadLiteral H not_m x a = H ⊎ (a ∈ x.T)

module _ (n : ℕ) (rs : List EpistemicRule) where
  -- the negation is in the guess
  abbrev pub Assumes : (g : ℕ) → Negation → Type 0
  Assumes g e = assumed (negations_of n rs) g e ≡ true

  -- the guess keeps the rule, and its reduct is sure: masks 1 to 3 and every literal with K or M are
  pub record SureRule (g : ℕ) (x : Pair) (r : EpistemicRule) : Type 0 where
    pub plain : r.objective.plain ⊆ x.T
    pub not_nots : r.objective.not_nots ⊆ x.T
    pub nots : r.objective.nots ⊆ x.F
    pub literal : (m : Subjective) (a : ℕ) → a ∈ r.mask m → SureLiteral (Assumes g (negation_of m a)) m x a

  -- the guess deletes the rule, or its reduct is dead: some literal is
  abbrev pub DeadRule : (g : ℕ) → Pair → EpistemicRule → Type 0
  DeadRule g x r =
      (Meets r.objective.plain x.F ⊎ Meets r.objective.not_nots x.F) ⊎ Meets r.objective.nots x.T
      ⊎ ((m : Subjective) × (a : ℕ) × (a ∈ r.mask m) × DeadLiteral (Assumes g (negation_of m a)) m x a)

  -- ---- what is said of T and F by them
  -- a rule with head {a} is sure
  abbrev pub SureAlone : (g : ℕ) → Pair → (a : ℕ) → Type 0
  SureAlone g x a = (r : EpistemicRule) × (r among rs) × (r.objective.head ≡ single a) × SureRule g x r

  -- every rule with a in its head is deleted or dead
  abbrev pub AllDead : (g : ℕ) → Pair → (a : ℕ) → Type 0
  AllDead g x a = (r : EpistemicRule) → r among rs → a ∈ r.objective.head → DeadRule g x r

  -- a sure rule has an empty head
  abbrev pub SureEmpty : (g : ℕ) → Pair → Type 0
  SureEmpty g x = (r : EpistemicRule) × (r among rs) × (r.objective.head ≡ ∅) × SureRule g x r

  -- an atom clashes under K or "not K", or under M or "not M"
  abbrev pub ClashingAtom : (g : ℕ) → Pair → Type 0
  ClashingAtom g x =
      (a : ℕ) × (a < n)
      × ((Mentioned rs K not_k a × ClashIf (Assumes g (not_known a)) (not_known a) x) ⊎ (Mentioned rs M not_m a × ClashIf (Assumes g (may_be a)) (may_be a) x))

  -- the guess is contradicted under the day's masks
  abbrev pub RuledOut : (ins outs g : ℕ) → Pair → Type 0
  RuledOut ins outs g x = SureEmpty g x ⊎ Meets ins x.F ⊎ Meets outs x.T ⊎ ClashingAtom g x
