-- T and F as the code holds them, what one rule brings to them, and the clashes of a guess with them. Assumes nothing.
use Rattle.std.specs.Prelude.{ℕ, ◌<◌, List, length}
use Rattle.sets.specs.Sets.{◌∈◌}
use Rattle.semantics.specs.Definitions.Rules.{Rule}
use Rattle.semantics.specs.Definitions.Guesses.{Negation, numbered}
use Rattle.semantics.specs.Definitions.Propagation.{Pair}
use Rattle.semantics.specs.Theorems.Closure.{Sure, Dead, OthersOut}
use Rattle.semantics.specs.Theorems.Contradicted.{Clash}
use Rattle.propagation.specs.declared.Pair.{Pair as Held}

abbrev pub pair_from : Held → Pair
pair_from x = record { T = x.t; F = x.f }

-- "An atom whose sure rule has all other head atoms in F enters T": by this rule
abbrev pub EntersBy : Pair → Rule → ℕ → Type 0
EntersBy x r a = (a ∈ r.head) × Sure x r × OthersOut x r a

-- this is one of the atom's head rules, and it is not dead
abbrev pub SupportedBy : Pair → Rule → ℕ → Type 0
SupportedBy x r a = (a ∈ r.head) × (Dead x r → ⊥)

-- one of the negations es clashes with T and F
abbrev pub Clashes : (es : List Negation) (guess : ℕ) → Pair → Type 0
Clashes es g x = (j : ℕ) × (j < length es) × Clash j g (numbered es j) x
