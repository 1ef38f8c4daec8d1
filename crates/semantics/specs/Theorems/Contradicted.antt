-- Every stable set contains T and meets no atom of F; so a contradicted guess is not reduct-verifiable. Assumes nothing.
-- Here the definitions; the theorems are in proofs/Theorems/Contradicted.antt.
use Rattle.std.specs.Prelude.{ℕ, ◌<◌, ◌≡◌, List, ◌⊎◌}
use Rattle.sets.specs.Lists.{◌among◌}
use Rattle.sets.specs.Sets.{◌∈◌, Meets, ∅}
use Rattle.semantics.specs.Definitions.Rules.{Rule}
use Rattle.semantics.specs.Definitions.Guesses.{Negation, not_known, may_be}
use Rattle.semantics.specs.Definitions.Setting.{Setting, k, negation}
use Rattle.semantics.specs.Definitions.Propagation.{Pair, propagated}
use Rattle.semantics.specs.Theorems.Closure.{Sure, LeastClosed}

-- ---- contradicted guesses
-- of a negation, where H says that it is in the guess
abbrev pub ClashIf : (H : Type 0) → Negation → Pair → Type 0
ClashIf H (not_known a) x = (H × (a ∈ x.T)) ⊎ ((H → ⊥) × (a ∈ x.F))
ClashIf H (may_be a) x = (H × (a ∈ x.F)) ⊎ ((H → ⊥) × (a ∈ x.T))

abbrev pub Clash : (j g : ℕ) → Negation → Pair → Type 0
Clash j g (not_known a) x = ((j ∈ g) × (a ∈ x.T)) ⊎ ((j ∈ g → ⊥) × (a ∈ x.F))
Clash j g (may_be a) x = ((j ∈ g) × (a ∈ x.F)) ⊎ ((j ∈ g → ⊥) × (a ∈ x.T))

abbrev pub EmptyHead : List Rule → Pair → Type 0
EmptyHead p x = (r : Rule) × (r among p) × (Sure x r × (r.head ≡ ∅))

module _ (s : Setting) (g : ℕ) where
  -- T and F of its reduct
  abbrev pub pair_of : Pair
  pair_of = propagated s.atoms (s.program g)

  -- "A guess is contradicted when" so, of T and F
  abbrev pub ContradictedBy : Pair → Type 0
  ContradictedBy x = (Meets x.T x.F ⊎ EmptyHead (s.program g) x) ⊎ ((j : ℕ) × (j < k s) × Clash j g (negation s j) x)

  abbrev pub Contradicted : Type 0
  Contradicted = (x : Pair) × LeastClosed s.atoms (s.program g) x × ContradictedBy x
