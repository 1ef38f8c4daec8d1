-- The rules at a set of atoms, by their place. Assumes nothing.
use Rattle.std.specs.Prelude.{ℕ, List, slice_index_or}
use Rattle.sets.specs.Sets.{∅}
use Rattle.lanes.specs.declared.rule.Rule.{Rule}

-- that at r
abbrev pub rule_at : List Rule → ℕ → Rule
rule_at rules r = slice_index_or rules r (record { head = ∅; plain = ∅; misses = ∅; holds = ∅ })
