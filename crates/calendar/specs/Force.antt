-- The rules in force, as a loop over the entries gathers them. Assumes nothing.
use Rattle.std.specs.Prelude.{ℕ, cond}
use mathlib.Core.List.{List, foldl}
use Rattle.sets.specs.Lists.{null}
use Rattle.sets.specs.Sets.{◌∪◌, ∅, single, set_of}
use Rattle.semantics.specs.Definitions.Calendar.{Entry, holds, entries_of}

-- the rules with no entry, of so many
unfoldable pub unrestricted : List Entry → (rules : ℕ) → ℕ
unrestricted entries rules = set_of (λ rule. null (entries_of entries rule)) rules

-- a set with the rule of an entry, where that holds at a minute
abbrev pub with_rule : (minute set : ℕ) → Entry → ℕ
with_rule minute set e = cond (holds minute e) (single e.rule) ∅ ∪ set

-- a set, and the rules of the entries that hold at a minute
unfoldable pub held_from : (set minute : ℕ) → List Entry → ℕ
held_from set minute entries = foldl (with_rule minute) set entries
