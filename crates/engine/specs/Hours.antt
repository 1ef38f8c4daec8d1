-- Document 02, K1, of the answers of the calls `list_at` and `changes`. Assumes nothing.
use Rattle.std.specs.Prelude.{ℕ, ◌*◌, ◌≤◌, ◌<◌, ◌≡◌, refl, true, List, [], ◌∷◌, ◌↔◌, ◌⊎◌, length, take, drop}
use Rattle.std.proofs.Common.{sym, ap, ◌∙◌, subst, inl, inr, ⊎_elim, arith, take_at, drop_at}
use Rattle.sets.specs.Decides.{is_true}
use Rattle.sets.specs.Lists.{◌among◌}
use Rattle.sets.specs.Pairwise.{Pairwise}
use Rattle.semantics.specs.Definitions.Reading.{field}
use Rattle.semantics.specs.Definitions.Sheet.{Sheet, two_sections}
use Rattle.semantics.specs.Definitions.Setting.{Setting}
use Rattle.semantics.specs.Definitions.Check.{opened, of_sheet}
use Rattle.semantics.specs.Definitions.Returned.{Returned, refusal, accepted, answer, afterwards}
use Rattle.semantics.specs.Definitions.Calendar.{last_minute, most_entries, Entry, in_force, at_minute, minutes_of_change, of_minute, changes_call}
use Rattle.semantics.specs.Theorems.Layout.{sheet_bytes}
use Rattle.semantics.proofs.Theorems.TwoSections.{two_sections_short}
use Rattle.semantics.specs.Theorems.Check.{Refuses}
use Rattle.semantics.proofs.Theorems.Check.{opened_refuses}
use Rattle.semantics.specs.Theorems.Returned.{fits_limited, short_limited, answer_accepted, answer_refused}
use Rattle.semantics.specs.Theorems.InForce.{Holds, WhereHolds}
use Rattle.semantics.proofs.Theorems.InForce.{dec_in_force_proper}
use Rattle.semantics.specs.Theorems.CalendarCases.{CalendarRefuses, CalendarAccepts, calendar_decided}
use Rattle.semantics.specs.Theorems.CalendarPlaces.{longest_calendar, refused_within}
use Rattle.semantics.proofs.Theorems.CalendarExact.{calendar-read, calendar_accepted_exactly, calendar_refused_exactly}
use Rattle.semantics.specs.Theorems.Changes.{Changes}
use Rattle.semantics.proofs.Theorems.Changes.{minute_listed, minutes_rise, few_minutes}
use Rattle.semantics.specs.Theorems.CalendarCalls.{Both, TurnedAway}
use Rattle.semantics.proofs.Theorems.CalendarCalls.{minute_refused, as_list, empty_calendar, same-between, same_over_close, changes-given, changes_say, changes_refused}
use Rattle.answers.specs.declared.tally.Tally.{Tally as Counts}
use Rattle.engine.specs.Answers.{OrRefused, counted, listed}
use Rattle.engine.specs.Demand3.{AsListed, ListingDemand, listing_demand}

-- which calendars are accepted, and what one that is means
pub record CalendarDemand (sheet calendar : List ℕ) : Type 0 where
  -- beside an accepted sheet a calendar is accepted, or refused for one of five reasons
  pub accepted_or_refused : (x : Sheet) (end : ℕ) → opened sheet ≡ field x end
      → ((es : List Entry) × Both sheet calendar x es) ⊎ ((number : ℕ) × (place : ℕ) × CalendarRefuses calendar (length x.rules) number place)
  pub refused_within : (x : Sheet) (number place : ℕ) → CalendarRefuses calendar (length x.rules) number place
      → (1 ≤ number) × (number ≤ 11) × (place ≤ longest_calendar)
  -- "a count byte 0 to 64, then entries of five bytes": all of them are there and proper, and nothing follows
  pub entries_are : (x : Sheet) (es : List Entry) → Both sheet calendar x es → CalendarAccepts calendar (length x.rules) es (length calendar)
  -- "A rule is in force from its first minute up to but not including its end; an end below the first runs over the week's close. A rule with no
  -- entry is always in force, with several whenever one holds.": exactly then
  pub hours_are : (x : Sheet) (es : List Entry) → Both sheet calendar x es → (minute rule : ℕ)
      → (in_force es minute rule ≡ true) ↔ WhereHolds (λ e. Holds e minute) es rule

-- ---- r is what `list_at` answers where it is lent `before`, and leaves `after`
pub record MinuteDemand (sheet calendar : List ℕ) (minute : ℕ) (r : OrRefused Counts) (before after : List ℕ) : Type 0 where
  -- "The whole sheet is checked first, 7 included and with all its rules counted": as `check` refuses it
  pub sheet-first : (number place : ℕ) → Refuses sheet number place → listed r ≡ refusal number place
  -- K7: "a two-section sheet gives 1"
  pub two-sections : (x : Sheet) (end : ℕ) → two_sections sheet ≡ field x end → listed r ≡ refusal 1 (length sheet)
  -- "Then comes the calendar": no count byte, over 64 entries, an entry cut short, a bad entry, extra bytes, each with its number and place
  pub then-calendar : (x : Sheet) (end : ℕ) → opened sheet ≡ field x end → (number place : ℕ) → CalendarRefuses calendar (length x.rules) number place
      → listed r ≡ refusal number place
  -- "12, place 0, for an asked minute over 10079, after the calendar and before 9"
  pub then_minute : (x : Sheet) (es : List Entry) → Both sheet calendar x es → last_minute < minute → listed r ≡ refusal 12 0
  -- "Listing at a minute is the listing of the sheet with only the rules in force": what `list` answers on its bytes, and leaves; the pairs
  -- stand "at every minute" (K7)
  pub as_list_answers : (x : Sheet) (es : List Entry) → Both sheet calendar x es → minute ≤ last_minute
      → AsListed (of_sheet (sheet_bytes x.names (at_minute es minute x).rules x.pairs)) r before after
  -- without entries, what `list` answers on the sheet
  pub without_entry : calendar ≡ 0 ∷ [] → minute ≤ last_minute → AsListed (of_sheet sheet) r before after
  pub calendar_demanded : CalendarDemand sheet calendar
  -- where no minute of change lies between, what is answered at a later minute, at an earlier one, and over the week's close
  pub no_change_until : (x : Sheet) (es : List Entry) → Both sheet calendar x es → (later : ℕ) → minute ≤ later → later ≤ last_minute
      → ((c : ℕ) → minute < c → c ≤ later → c among minutes_of_change es (length x.rules) → ⊥) → AsListed (of_minute sheet calendar later) r before after
  pub no_change_since : (x : Sheet) (es : List Entry) → Both sheet calendar x es → (earlier : ℕ) → earlier ≤ minute → minute ≤ last_minute
      → ((c : ℕ) → earlier < c → c ≤ minute → c among minutes_of_change es (length x.rules) → ⊥) → AsListed (of_minute sheet calendar earlier) r before after
  pub no_change_at_0 : (x : Sheet) (es : List Entry) → Both sheet calendar x es → minute ≡ 0
      → (0 among minutes_of_change es (length x.rules) → ⊥) → AsListed (of_minute sheet calendar last_minute) r before after
  -- demand 3
  pub listing_demanded : ListingDemand (of_minute sheet calendar minute) r before after

-- ---- what `changes` leaves where it answers n
pub record MinutesWritten (sheet calendar : List ℕ) (n : ℕ) (before after : List ℕ) : Type 0 where
  pub says : Sheet
  pub entries : List Entry
  pub both : Both sheet calendar says entries
  -- "the minutes where the rules in force, told apart by number, differ from those a minute earlier": exactly these
  pub listed_exactly : (m : ℕ) → m among take n after ↔ ((m ≤ last_minute) × Changes entries (length says.rules) m)
  -- "rising"
  pub rising : Pairwise ◌<◌ (take n after)
  pub long : length (take n after) ≡ n
  -- words after the last minute kept
  pub rest : drop n after ≡ drop n before
  pub fits : n ≤ length before
  -- an entry begins or ends at each
  pub few : n ≤ 2 * length entries

-- r is what `changes` answers where it is lent `before`, and leaves `after`
pub record ChangesDemand (sheet calendar : List ℕ) (r : OrRefused ℕ) (before after : List ℕ) : Type 0 where
  pub calendar_demanded : CalendarDemand sheet calendar
  pub minutes_written : (n : ℕ) → counted r ≡ accepted n → MinutesWritten sheet calendar n before after
  pub sheet-first : (number place : ℕ) → Refuses sheet number place → counted r ≡ refusal number place
  pub two-sections : (x : Sheet) (end : ℕ) → two_sections sheet ≡ field x end → counted r ≡ refusal 1 (length sheet)
  pub then-calendar : (x : Sheet) (end : ℕ) → opened sheet ≡ field x end → (number place : ℕ) → CalendarRefuses calendar (length x.rules) number place
      → counted r ≡ refusal number place
  -- "The list of minutes gets 9 with its length when the buffer is short", and only then
  pub too_many : (x : Sheet) (es : List Entry) → Both sheet calendar x es → length before < length (minutes_of_change es (length x.rules))
      → counted r ≡ refusal 9 (length (minutes_of_change es (length x.rules)))
  pub enough : (x : Sheet) (es : List Entry) → Both sheet calendar x es → length (minutes_of_change es (length x.rules)) ≤ length before
      → counted r ≡ accepted (length (minutes_of_change es (length x.rules)))
  -- so 128 words are always enough
  pub always_enough : (x : Sheet) (es : List Entry) → Both sheet calendar x es → 2 * most_entries ≤ length before → (n : ℕ) × (counted r ≡ accepted n)
  -- "Every lent buffer holds what it held."
  pub refused_keeps : (number place : ℕ) → counted r ≡ refusal number place → after ≡ before

-- ---- proofs
calendar_demand : (sheet calendar : List ℕ) → CalendarDemand sheet calendar
calendar_demand sheet calendar = record {
  accepted_or_refused = λ x end o.
      ⊎_elim
      (λ (es, close, h). inl (es, record { end = end; opens = o; calendar_end = close; reads = (calendar_accepted_exactly calendar (length x.rules) es close).1 h }))
      inr
      (calendar_decided calendar (length x.rules));
  refused_within = λ x. refused_within calendar (length x.rules);
  entries_are = λ x es b.
      let accepts = (calendar_accepted_exactly calendar (length x.rules) es b.calendar_end).0 b.reads in
      subst (CalendarAccepts calendar (length x.rules) es) accepts.ends accepts;
  hours_are = λ x es b minute rule.
      let d = dec_in_force_proper (length x.rules) es (calendar-read calendar (length x.rules) es b.calendar_end b.reads).all_proper minute rule in
      (d.yes, is_true d);
}

-- what refuses the calendar
refuses_calendar : (sheet calendar : List ℕ) (x : Sheet) (end : ℕ) → opened sheet ≡ field x end → (number place : ℕ)
    → CalendarRefuses calendar (length x.rules) number place → TurnedAway sheet calendar number place
refuses_calendar sheet calendar x end o number place h = inr (x, end, o, (calendar_refused_exactly calendar (length x.rules) number place).1 h)

-- The hypothesis is what the call ensures.
module _ (sheet calendar : List ℕ) (minute : ℕ) (r : OrRefused Counts) (before after : List ℕ) (answers : AsListed (of_minute sheet calendar minute) r before after) where
  demand : ListingDemand (of_minute sheet calendar minute) r before after
  demand = listing_demand (of_minute sheet calendar minute) r before after answers.0 answers.1

  refuses : {number place : ℕ} → of_minute sheet calendar minute ≡ refusal number place → listed r ≡ refusal number place
  refuses e = demand.refused_before _ _ e

  of_source : {from : Returned Setting} → of_minute sheet calendar minute ≡ from → AsListed from r before after
  of_source e = subst (λ from. AsListed from r before after) e answers

  pub minute_demand : MinuteDemand sheet calendar minute r before after
  minute_demand = record {
    sheet-first = λ number place h. refuses ((minute_refused sheet calendar minute number place).1 (inl (inl ((opened_refuses sheet number place).1 h))));
    then-calendar = λ x end o number place h. refuses ((minute_refused sheet calendar minute number place).1 (inl (refuses_calendar sheet calendar x end o number place h)));
    two-sections = λ x end e. refuses ((minute_refused sheet calendar minute 1 (length sheet)).1 (inl (inl (two_sections_short sheet x end e))));
    then_minute = λ x es b l. refuses ((minute_refused sheet calendar minute 12 0).1 (inr (x, es, b, l, refl, refl)));
    as_list_answers = λ x es b l. of_source (as_list sheet calendar minute b l);
    without_entry = λ e l. of_source (ap (λ c. of_minute sheet c minute) e ∙ empty_calendar sheet minute l);
    calendar_demanded = calendar_demand sheet calendar;
    no_change_until = λ x es b later l h none. of_source (same-between sheet calendar b minute later l h none);
    no_change_since = λ x es b earlier l h none. of_source (sym (same-between sheet calendar b earlier minute l h none));
    no_change_at_0 = λ x es b first none. of_source (ap (of_minute sheet calendar) first ∙ same_over_close sheet calendar b none);
    listing_demanded = demand;
  }

-- The two hypotheses are what the call ensures.
module _ (sheet calendar : List ℕ) (r : OrRefused ℕ) (before after : List ℕ)
    (counts : counted r ≡ answer length (changes_call sheet calendar (length before)))
    (leaves : after ≡ afterwards (λ w. w) (changes_call sheet calendar (length before)) before) where
  returned : {q : Returned (List ℕ)} {u : Returned ℕ} → changes_call sheet calendar (length before) ≡ q → answer length q ≡ u → counted r ≡ u
  returned d e = counts ∙ ap (answer length) d ∙ e

  turned_back : {number place : ℕ} → TurnedAway sheet calendar number place → counted r ≡ refusal number place
  turned_back h = returned ((changes_refused sheet calendar (length before) _ _).1 (inl h)) refl

  fit : (x : Sheet) (es : List Entry) → Both sheet calendar x es → length (minutes_of_change es (length x.rules)) ≤ length before
      → counted r ≡ accepted (length (minutes_of_change es (length x.rules)))
  fit x es b l =
      let w = minutes_of_change es (length x.rules) in
      returned {q = accepted w} (changes-given sheet calendar (length before) b ∙ fits_limited (length w) (length before) (length w) w l) refl

  written : (n : ℕ) → counted r ≡ accepted n → MinutesWritten sheet calendar n before after
  written n e =
      let (w, d, many) = answer_accepted length (changes_call sheet calendar (length before)) (sym counts ∙ e) in
      let (x, es, b, same, room) = (changes_say sheet calendar (length before) w).0 d in
      let left = leaves ∙ ap (λ q. afterwards (λ z. z) q before) d in
      let first : take n after ≡ w = ap (take n) left ∙ take_at w (drop (length w) before) n many in
      let all : take n after ≡ minutes_of_change es (length x.rules) = first ∙ same in
      let read = calendar-read calendar (length x.rules) es b.calendar_end b.reads in
      record {
        says = x;
        entries = es;
        both = b;
        listed_exactly = λ m. subst (λ l. m among l ↔ ((m ≤ last_minute) × Changes es (length x.rules) m)) (sym all) (minute_listed es (length x.rules) m);
        rising = subst (Pairwise ◌<◌) (sym all) (minutes_rise es (length x.rules));
        long = ap length first ∙ many;
        rest = ap (drop n) left ∙ drop_at w (drop (length w) before) n many ∙ ap (λ m. drop m before) many;
        fits = omega arith;
        few = omega (arith, few_minutes es (length x.rules) read.all_proper, ap length same);
      }

  pub changes_demand : ChangesDemand sheet calendar r before after
  changes_demand = record {
    calendar_demanded = calendar_demand sheet calendar;
    minutes_written = written;
    sheet-first = λ number place h. turned_back (inl ((opened_refuses sheet number place).1 h));
    two-sections = λ x end e. turned_back (inl (two_sections_short sheet x end e));
    then-calendar = λ x end o number place h. turned_back (refuses_calendar sheet calendar x end o number place h);
    too_many = λ x es b l.
        let w = minutes_of_change es (length x.rules) in
        returned {q = refusal 9 (length w)} (changes-given sheet calendar (length before) b ∙ short_limited (length w) (length before) (length w) w l) refl;
    enough = fit;
    always_enough = λ x es b l.
        let read = calendar-read calendar (length x.rules) es b.calendar_end b.reads in
        (_, fit x es b (omega (arith, few_minutes es (length x.rules) read.all_proper, read.few_entries)));
    refused_keeps = λ number place e.
        leaves ∙ ap (λ q. afterwards (λ z. z) q before) (answer_refused length (changes_call sheet calendar (length before)) (sym counts ∙ e));
  }
