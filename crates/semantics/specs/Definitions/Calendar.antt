-- Document 02, K1: opening hours for rules.
use Rattle.std.specs.Prelude.{ℕ, zero, suc, ◌+◌, Bool, not, ◌&&◌, ◌||◌, cond, List, [], map, leb, ltb, eqb, length, get_or}
use Rattle.sets.specs.Lists.{some, keep, null, up_to}
use Rattle.sets.specs.Sets.{set_of}
use Rattle.semantics.specs.Definitions.Reading.{Reading, field, ◌then◌, require, times}
use Rattle.semantics.specs.Definitions.Sheet.{Sheet, byte_at, word_at, present, count_at}
use Rattle.semantics.specs.Definitions.Setting.{Setting}
use Rattle.semantics.specs.Definitions.Check.{setting, opened}
use Rattle.semantics.specs.Definitions.Returned.{Returned, accepted, refusal, read, ◌and_then◌, limited}

-- ---- the calendar
-- "minutes from Monday 0:00": a week has those from 0 to 10079
abbrev pub last_minute : ℕ
last_minute = 10079

-- "a count byte 0 to 64"
abbrev pub most_entries : ℕ
most_entries = 64

-- "entries [..]: rule number, first minute, end minute"
pub record Entry : Type 0 where
  pub rule : ℕ
  pub first : ℕ
  pub end : ℕ

-- not "a rule number not in the sheet, a minute over 10079 or equal ends", where the sheet has so many rules
abbrev pub proper : (rules : ℕ) → Entry → Bool
proper rules e = ltb e.rule rules && (leb e.first last_minute && (leb e.end last_minute && not (eqb e.first e.end)))

-- Below, c is the bytes of a calendar. The steps are those of a sheet (Sheet.antt), taken in c: "1 and 6 with places in the calendar".
module _ (c : List ℕ) where
  -- "rule number, first minute, end minute (two bytes each, low byte first [..])"
  abbrev pub entry_from : (at : ℕ) → Entry
  entry_from at = record { rule = byte_at c at; first = word_at c (at + 1); end = word_at c (at + 3) }

  -- "entries of five bytes"; "11 with the entry's place, [..] entry by entry after its bytes are present"
  unfoldable pub entry_at : (rules at : ℕ) → Reading Entry
  entry_at rules at =
      present c at 5
      (require (proper rules (entry_from at)) 11 at
      (field (entry_from at) (at + 5)))

  -- "a count byte 0 to 64, then entries"; "too many entries get 2"; "extra bytes get [..] 6"
  unfoldable pub calendar_of : (rules : ℕ) → Reading (List Entry)
  calendar_of rules =
      count_at c most_entries 0 then λ n at.
      times n [] (λ _. entry_at rules) at then λ entries end.
      require (eqb end (length c)) 6 end
      (field entries end)

-- ---- the rules in force
-- "from its first minute up to but not including its end; an end below the first runs over the week's close"
abbrev pub open_at : (first end minute : ℕ) → Bool
open_at first end minute = cond (ltb end first) (leb first minute || ltb minute end) (leb first minute && ltb minute end)

abbrev pub holds : (minute : ℕ) → Entry → Bool
holds minute e = open_at e.first e.end minute

-- the entries of a rule
abbrev pub entries_of : List Entry → (rule : ℕ) → List Entry
entries_of entries rule = keep (λ e. eqb e.rule rule) entries

-- "A rule with no entry is always in force, with several whenever one holds."
unfoldable pub in_force : List Entry → (minute rule : ℕ) → Bool
in_force entries minute rule = null (entries_of entries rule) || some (holds minute) (entries_of entries rule)

-- "the sheet with only the rules in force"; the pairs stand "at every minute" (K7)
abbrev pub at_minute : List Entry → (minute : ℕ) → Sheet → Sheet
at_minute entries minute x = record {
  names = x.names;
  rules = map (λ i. get_or x.rules i []) (keep (in_force entries minute) (up_to (length x.rules)));
  pairs = x.pairs;
  rules_at = x.rules_at;
}

-- ---- the minutes of change
-- "the rules in force, told apart by number": of so many rules, as a set of their numbers
unfoldable pub rules_in_force : List Entry → (rules minute : ℕ) → ℕ
rules_in_force entries rules minute = set_of (in_force entries minute) rules

-- "a minute earlier, minute 0 being compared with 10079"
abbrev pub earlier : (minute : ℕ) → ℕ
earlier zero = last_minute
earlier (suc m) = m

-- they "differ from those a minute earlier"
abbrev pub changes_at : List Entry → (rules minute : ℕ) → Bool
changes_at entries rules minute = not (eqb (rules_in_force entries rules minute) (rules_in_force entries rules (earlier minute)))

-- "rising [..], the minutes where the rules in force [..] differ from those a minute earlier"
unfoldable pub minutes_of_change : List Entry → (rules : ℕ) → List ℕ
minutes_of_change entries rules = keep (changes_at entries rules) (up_to (suc last_minute))

-- ---- the calls
-- "The whole sheet is checked first, 7 included and with all its rules counted. Then comes the calendar": and then the rest of a call, which
-- takes what both say
abbrev pub with_calendar : {A : Type 0} → (sheet calendar : List ℕ) → (Sheet → List Entry → Returned A) → Returned A
with_calendar sheet calendar rest =
    read (opened sheet) and_then λ x.
    read (calendar_of calendar (length x.rules)) and_then λ entries.
    rest x entries

-- The source at a minute, of which "Listing at a minute" is `list_call` (Calls.antt); "12, place 0, for an asked minute over 10079, after the
-- calendar and before 9". "the negations are numbered from those": those of `setting` of the rules that are left.
unfoldable pub of_minute : (sheet calendar : List ℕ) (minute : ℕ) → Returned Setting
of_minute sheet calendar minute =
    with_calendar sheet calendar λ x entries.
    cond (leb minute last_minute) (accepted (setting (at_minute entries minute x))) (refusal 12 0)

-- "A second call lists [..] the minutes": the count is `answer length` of it. "The list of minutes gets 9 with its length when the buffer is
-- short."
unfoldable pub changes_call : (sheet calendar : List ℕ) (words : ℕ) → Returned (List ℕ)
changes_call sheet calendar words =
    with_calendar sheet calendar λ x entries.
    let minutes = minutes_of_change entries (length x.rules) in
    limited (length minutes) words (length minutes) minutes
