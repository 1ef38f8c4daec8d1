-- What the two calls that take a calendar return, and exactly when: the listing's source at a minute, and the minutes of change.
-- Assumes nothing.
use Rattle.std.specs.Prelude.{ℕ, ◌≤◌, ◌<◌, ◌≡◌, refl, List, [], ◌∷◌, ◌↔◌, ◌⊎◌, leb, length}
use Rattle.std.proofs.Math.Path.{sym, ap}
use Rattle.std.proofs.Common.{◌∙◌, le_trans, arith}
use Rattle.std.proofs.Math.Bool.{cond}
use Rattle.std.proofs.Math.Logic.{inl, inr, ⊎_elim}
use borrow.Author.Tests.{leb-true, leb-false, le-leb, lt-leb}
use Rattle.sets.specs.Lists.{◌among◌}
use Rattle.semantics.specs.Definitions.Reading.{Reading, field, refused, times}
use Rattle.semantics.specs.Definitions.Sheet.{Sheet, count_at}
use Rattle.semantics.specs.Definitions.Setting.{Setting}
use Rattle.semantics.specs.Definitions.Check.{setting, opened, of_sheet}
use Rattle.semantics.specs.Definitions.Returned.{Returned, accepted, refusal, read, ◌and_then◌, answer, limited}
use Rattle.semantics.specs.Definitions.Calendar.{last_minute, Entry, calendar_of, at_minute, minutes_of_change, with_calendar, of_minute, changes_call}
use Rattle.semantics.specs.Theorems.Returned.{then_accepted, then_refused, check-passed, check_failed, read_accepted, read_refused, limited_fits, limited_short, fits_limited, short_limited}
use Rattle.semantics.specs.Theorems.Layout.{sheet_bytes}
use Rattle.semantics.proofs.Theorems.Minute.{minute_bytes, none_closed, same-rules}
use Rattle.semantics.proofs.Theorems.Changes.{unchanged, unchanged_over_close}
use Rattle.semantics.specs.Theorems.CalendarCalls.{Both, TurnedAway}
use Rattle.semantics.specs.Theorems.CalendarCalls as defined

-- ---- the sheet and the calendar
module _ {A : Type 0} (sheet calendar : List ℕ) (rest : Sheet → List Entry → Returned A) where
  abbrev then-calendar : Sheet → Returned A
  then-calendar x = read (calendar_of calendar (length x.rules)) and_then rest x

  pub calendar-given : {x : Sheet} {entries : List Entry} → Both sheet calendar x entries → with_calendar sheet calendar rest ≡ rest x entries
  calendar-given {x} b = ap (λ r. read r and_then then-calendar) b.opens ∙ ap (λ r. read r and_then rest x) b.reads

  pub calendar_accepted : {v : A} → with_calendar sheet calendar rest ≡ accepted v
      → (x : Sheet) × (entries : List Entry) × Both sheet calendar x entries × (rest x entries ≡ accepted v)
  calendar_accepted e =
      let (x, d, f) = then_accepted (read (opened sheet)) then-calendar e in
      let (end, o) = read_accepted (opened sheet) d in
      let (es, g, h) = then_accepted (read (calendar_of calendar (length x.rules))) (rest x) f in
      let (close, c) = read_accepted (calendar_of calendar (length x.rules)) g in
      (x, es, record { end = end; opens = o; calendar_end = close; reads = c }, h)

  -- refused: the sheet is, or the calendar, or the rest
  pub calendar_refused : (n p : ℕ) → with_calendar sheet calendar rest ≡ refusal n p
      ↔ (TurnedAway sheet calendar n p ⊎ ((x : Sheet) × (entries : List Entry) × Both sheet calendar x entries × (rest x entries ≡ refusal n p)))
  calendar_refused n p = (
    λ e. ⊎_elim (λ d. inl (inl (read_refused (opened sheet) d)))
        (λ (x, d, f).
        let (end, o) = read_accepted (opened sheet) d in
        ⊎_elim (λ g. inl (inr (x, end, o, read_refused (calendar_of calendar (length x.rules)) g)))
        (λ (es, g, h).
        let (close, c) = read_accepted (calendar_of calendar (length x.rules)) g in
        inr (x, es, record { end = end; opens = o; calendar_end = close; reads = c }, h))
        ((then_refused (read (calendar_of calendar (length x.rules))) (rest x) n p).0 f))
        ((then_refused (read (opened sheet)) then-calendar n p).0 e),
    ⊎_elim (⊎_elim (λ d. rw d) (λ (x, end, o, c). rw (o, c))) (λ (x, es, b, h). calendar-given b ∙ h),
  )

-- ---- the source at a minute
module _ (sheet calendar : List ℕ) (minute : ℕ) where
  abbrev at : Sheet → List Entry → Returned Setting
  at x entries = cond (leb minute last_minute) (accepted (setting (at_minute entries minute x))) (refusal 12 0)

  pub minute_given : {x : Sheet} {entries : List Entry} → Both sheet calendar x entries → minute ≤ last_minute
      → of_minute sheet calendar minute ≡ accepted (setting (at_minute entries minute x))
  unfolding of_minute
  minute_given {x} {entries} b l =
      calendar-given sheet calendar at b
      ∙ ap (λ t. cond t (accepted (setting (at_minute entries minute x))) (refusal 12 0)) (le-leb minute last_minute l)

  pub minute_accepted : (o : Setting) → of_minute sheet calendar minute ≡ accepted o
      ↔ ((x : Sheet) × (entries : List Entry) × Both sheet calendar x entries × (minute ≤ last_minute) × (o ≡ setting (at_minute entries minute x)))
  unfolding of_minute
  minute_accepted o = (
    λ e.
        let (x, es, b, d) = calendar_accepted sheet calendar at e in
        let (t, same) = check-passed (setting (at_minute es minute x)) 12 0 (leb minute last_minute) d in
        (x, es, b, leb-true minute last_minute t, sym same),
    λ (x, es, b, l, same). minute_given b l ∙ ap accepted (sym same),
  )

  -- "12, place 0, for an asked minute over 10079"
  abbrev OverLast : (number place : ℕ) → Type 0
  OverLast = defined.OverLast sheet calendar minute

  pub minute_refused : (number place : ℕ) → of_minute sheet calendar minute ≡ refusal number place
      ↔ (TurnedAway sheet calendar number place ⊎ OverLast number place)
  unfolding of_minute
  minute_refused number place =
      let both = calendar_refused sheet calendar at number place in (
        λ e. ⊎_elim inl (λ (x, es, b, d).
            let (t, n, p) = check_failed (setting (at_minute es minute x)) 12 0 (leb minute last_minute) d in
            inr (x, es, b, leb-false minute last_minute t, n, p)) (both.0 e),
        ⊎_elim (λ d. both.1 (inl d)) (λ (x, es, b, l, n, p). both.1 (inr (x, es, b, rw (n, p, lt-leb minute last_minute l)))),
      )

  -- "Listing at a minute is the listing of the sheet with only the rules in force": of its bytes
  pub as_list : {x : Sheet} {entries : List Entry} → Both sheet calendar x entries → minute ≤ last_minute
      → of_minute sheet calendar minute ≡ of_sheet (sheet_bytes x.names (at_minute entries minute x).rules x.pairs)
  as_list {x} {entries} b l = minute_given b l ∙ sym (minute_bytes entries minute x sheet b.end b.opens)

-- a calendar without entries leaves every sheet's listing as it is, and every refusal of a sheet
pub empty_calendar : (sheet : List ℕ) (minute : ℕ) → minute ≤ last_minute → of_minute sheet (0 ∷ []) minute ≡ of_sheet sheet
unfolding of_minute of_sheet calendar_of count_at times
empty_calendar sheet minute l = go (opened sheet)
  where
    go : (r : Reading Sheet)
        → (read r and_then λ x. cond (leb minute last_minute) (accepted (setting (at_minute [] minute x))) (refusal 12 0)) ≡ answer setting (read r)
    go (field x end) = rw (le-leb minute last_minute l) (ap (λ y. accepted (setting y)) (none_closed minute x))
    go (refused number place) = refl

-- where no minute of change lies between two minutes, up to and with the second, their listings are equal
pub same-between : (sheet calendar : List ℕ) {x : Sheet} {entries : List Entry} → Both sheet calendar x entries
    → (m m' : ℕ) → m ≤ m' → m' ≤ last_minute
    → ((c : ℕ) → m < c → c ≤ m' → c among minutes_of_change entries (length x.rules) → ⊥)
    → of_minute sheet calendar m ≡ of_minute sheet calendar m'
same-between sheet calendar {x} {entries} b m m' l h none =
    minute_given sheet calendar m b (le_trans l h)
    ∙ ap (λ y. accepted (setting y)) (same-rules entries x m m' (unchanged entries (length x.rules) m m' l h none))
    ∙ sym (minute_given sheet calendar m' b h)

-- and over the week's close, where minute 0 is none
pub same_over_close : (sheet calendar : List ℕ) {x : Sheet} {entries : List Entry} → Both sheet calendar x entries
    → (0 among minutes_of_change entries (length x.rules) → ⊥) → of_minute sheet calendar 0 ≡ of_minute sheet calendar last_minute
same_over_close sheet calendar {x} {entries} b none =
    minute_given sheet calendar 0 b (omega arith)
    ∙ ap (λ y. accepted (setting y)) (same-rules entries x 0 last_minute (unchanged_over_close entries (length x.rules) none))
    ∙ sym (minute_given sheet calendar last_minute b (omega arith))

-- ---- the minutes of change
module _ (sheet calendar : List ℕ) (words : ℕ) where
  abbrev into : Sheet → List Entry → Returned (List ℕ)
  into x entries = let minutes = minutes_of_change entries (length x.rules) in limited (length minutes) words (length minutes) minutes

  pub changes-given : {x : Sheet} {entries : List Entry} → Both sheet calendar x entries → changes_call sheet calendar words ≡ into x entries
  unfolding changes_call
  changes-given b = calendar-given sheet calendar into b

  -- accepted: the minutes fit
  pub changes_say : (w : List ℕ) → changes_call sheet calendar words ≡ accepted w
      ↔ ((x : Sheet) × (entries : List Entry) × Both sheet calendar x entries × (w ≡ minutes_of_change entries (length x.rules))
      × (length w ≤ words))
  unfolding changes_call
  changes_say w = (
    λ e.
        let (x, es, b, d) = calendar_accepted sheet calendar into e in
        let (same, fit) = limited_fits _ words _ (minutes_of_change es (length x.rules)) d in
        (x, es, b, sym same, rw (← same) fit),
    λ (x, es, b, same, fit). changes-given b ∙ rw (← same) (fits_limited (length w) words (length w) w fit),
  )

  -- "The list of minutes gets 9 with its length when the buffer is short."
  abbrev TooManyMinutes : (number place : ℕ) → Type 0
  TooManyMinutes = defined.TooManyMinutes sheet calendar words

  pub changes_refused : (number place : ℕ) → changes_call sheet calendar words ≡ refusal number place
      ↔ (TurnedAway sheet calendar number place ⊎ TooManyMinutes number place)
  unfolding changes_call
  changes_refused number place =
      let both = calendar_refused sheet calendar into number place in (
        λ e. ⊎_elim inl (λ (x, es, b, d).
            let (l, n, p) = limited_short _ words _ (minutes_of_change es (length x.rules)) d in inr (x, es, b, l, n, p)) (both.0 e),
        ⊎_elim (λ d. both.1 (inl d)) (λ (x, es, b, l, n, p). rw (n, p) (changes-given b ∙ short_limited _ words _ _ l)),
      )
