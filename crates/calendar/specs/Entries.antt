-- The entries of a calendar as the code holds them. Assumes nothing.
use Rattle.std.specs.Prelude.{ℕ, ◌+◌, ◌≤◌, ◌<◌, ◌≡◌, List, [], ◌∷◌, ◌++◌, map, length, get_or, take}
use Rattle.std.proofs.Math.Path.{refl, ap}
use Rattle.std.proofs.Common.{◌∙◌}
use Rattle.std.proofs.lemmas.List.{take_more}
use mathlib.Core.List.{map-append}
use lib.ListN.{length-map}
use lib.Seq.{length-take-le}
use Rattle.sets.specs.Lists.{◌among◌}
use Rattle.semantics.specs.Definitions.Sheet.{most_rules}
use Rattle.semantics.specs.Definitions.Calendar.{Entry}
use Rattle.semantics.specs.Theorems.InForce.{AllProper}
use Rattle.calendar.specs.declared.hours.Entry.{Entry as Held}

abbrev pub entry_of : Held → Entry
entry_of e = record { rule = e.rule; first = e.first; end = e.end }

unfoldable pub entries_in : List Held → List Entry
entries_in entries = map entry_of entries

-- entry i
abbrev pub nth : List Held → ℕ → Held
nth entries i = get_or entries i (record { rule = 0; first = 0; end = 0 })

pub entries_none : entries_in [] ≡ []
unfolding entries_in
entries_none = refl

pub entries_long : (entries : List Held) (n : ℕ) → n ≤ length entries → length (entries_in (take n entries)) ≡ n
unfolding entries_in
entries_long entries n h = length-map (take n entries) entry_of ∙ length-take-le n entries h

-- one entry more
pub entries_more : (entries : List Held) (i : ℕ) → i < length entries → entries_in (take (i + 1) entries) ≡ entries_in (take i entries) ++ entry_of (nth entries i) ∷ []
unfolding entries_in
entries_more entries i h = ap (map entry_of) (take_more entries i _ h) ∙ map-append entry_of (take i entries) (nth entries i ∷ [])

-- each is of a number of a rule that a set of them can have
pub record Numbered (entries : List Held) : Type 0 where
  pub numbers : (e : Entry) → e among entries_in entries → e.rule < most_rules

-- they are entries of a calendar, of a sheet with so many rules
pub record Entries (rules : ℕ) (entries : List Held) : Type 0 where
  pub few_rules : rules ≤ most_rules
  pub all_proper : AllProper rules (entries_in entries)
