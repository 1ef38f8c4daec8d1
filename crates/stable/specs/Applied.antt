-- The rules whose bodies hold in a set. Assumes nothing.
use Rattle.std.specs.Prelude.{ℕ, Bool, ◌&&◌, List, map}
use Rattle.sets.specs.Lists.{keep}
use Rattle.sets.specs.Sets.{◌⊆?◌, ∅}
use Rattle.semantics.specs.Definitions.Rules.{Rule}
use Rattle.semantics.specs.Definitions.Stable.{negations_hold, positive}
use Rattle.stable.specs.declared.positive.PositiveRule.{PositiveRule}

-- all body literals of the rule hold in the set i
abbrev pub applies : ℕ → Rule → Bool
applies i r = r.plain ⊆? i && negations_hold i r

-- the rules whose bodies hold in i, without their "not" and "not not" literals
unfoldable pub applied : ℕ → List Rule → List Rule
applied i p = map positive (keep (applies i) p)

-- the rule of a head and plain atoms
abbrev pub positive_rule : PositiveRule → Rule
positive_rule r = record { head = r.head; plain = r.plain; nots = ∅; not_nots = ∅ }

-- the rules of heads and plain atoms
unfoldable pub positive_program : List PositiveRule → List Rule
positive_program rules = map positive_rule rules
