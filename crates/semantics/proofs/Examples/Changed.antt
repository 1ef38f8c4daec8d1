-- The minutes of change of known calendars. The definition goes through all minutes of the week; here they are computed where entries begin
-- or end, which gives the same list (Theorems/Ends.antt). Assumes nothing.
use Rattle.std.specs.Prelude.{ℕ, ◌≡◌, refl, List, [], ◌∷◌, map, length}
use Rattle.std.proofs.Common.{ap, ap₂, ◌∙◌}
use Rattle.sets.specs.Lists.{some, keep, flat, up_to, same_list}
use Rattle.sets.specs.Sets.{set_of}
use Rattle.semantics.specs.Definitions.Reading.{times}
use Rattle.semantics.specs.Definitions.Sheet.{Sheet, atoms_of, count_at, name_byte_at, name_at, mask_at, rule_at, pair_at, front, pairs_at, sections}
use Rattle.semantics.specs.Definitions.Check.{opened}
use Rattle.semantics.specs.Definitions.Returned.{limited}
use Rattle.semantics.specs.Definitions.Calendar.{entry_at, calendar_of, in_force, rules_in_force, changes_at, minutes_of_change, changes_call}
use Rattle.semantics.proofs.Theorems.CalendarExact.{calendar-read}
use Rattle.semantics.specs.Theorems.CalendarCalls.{Both}
use Rattle.semantics.proofs.Theorems.CalendarCalls.{changes-given}
use Rattle.semantics.specs.Theorems.Ends.{inserted, ends_of, changes_at_ends}
use Rattle.semantics.proofs.Theorems.Ends.{at_ends, changes_at_ends_lem}
use Rattle.semantics.specs.Examples.Calendars.{longest_hours, longest_entries, longest_changes}
use Rattle.semantics.specs.Examples.Minutes.{equal, changes}
use Rattle.semantics.specs.Examples.Changed.{Changed, LongestChanged}

-- where entries begin or end
computed : map (λ p. changes_at_ends p.0 p.1 p.2) changes ≡ map (λ p. p.3) changes
unfolding some keep flat up_to same_list set_of times atoms_of count_at name_byte_at name_at mask_at rule_at pair_at front pairs_at sections opened entry_at calendar_of in_force rules_in_force inserted ends_of changes_at_ends
computed = refl

pub changed : Changed
changed = (λ i. map (λ p. changes_at_ends_lem p.0 p.1 p.2 i) changes) ∙ computed

-- ---- the longest calendar: "9 with its length when the buffer is short"
-- what the sheet a; a says
abbrev facts : Sheet
facts = record { names = (97 ∷ []) ∷ []; rules = fact ∷ fact ∷ []; pairs = []; rules_at = 4 }
  where
    fact : List ℕ
    fact = 1 ∷ 0 ∷ 0 ∷ 0 ∷ 0 ∷ 0 ∷ 0 ∷ 0 ∷ []

both : Both equal longest_hours facts longest_entries
unfolding some flat up_to same_list times count_at name_byte_at name_at mask_at rule_at front pairs_at sections opened entry_at calendar_of
both = record { end = 37; opens = refl; calendar_end = 321; reads = refl }

at-longest : keep (changes_at longest_entries 2) (ends_of longest_entries) ≡ longest_changes
unfolding some keep flat up_to set_of in_force rules_in_force inserted ends_of
at-longest = refl

pub longest_changed : LongestChanged
unfolding flat up_to
longest_changed = ap₂ (λ r q. r ∷ q ∷ []) (into 127) (into 128)
  where
    minutes : minutes_of_change longest_entries 2 ≡ longest_changes
    minutes = at_ends 2 longest_entries (calendar-read longest_hours 2 longest_entries both.calendar_end both.reads).all_proper ∙ at-longest

    into : (words : ℕ) → changes_call equal longest_hours words ≡ limited (length longest_changes) words (length longest_changes) longest_changes
    into words = changes-given equal longest_hours words both ∙ ap (λ l. limited (length l) words (length l) l) minutes
