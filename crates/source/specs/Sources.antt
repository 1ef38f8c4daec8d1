-- A source as the code holds it. Assumes nothing.
use Rattle.std.specs.Prelude.{ℕ, ◌≤◌, ◌<◌, ◌≡◌, List, length, take, Result, Ok, Err}
use Rattle.semantics.specs.Definitions.Setting.{Setting}
use Rattle.semantics.specs.Definitions.Check.{most_negations}
use Rattle.semantics.specs.Definitions.Returned.{Returned, accepted, refusal}
use Rattle.semantics.specs.Definitions.Sheet.{Sheet}
use Rattle.semantics.specs.Definitions.Calendar.{Entry}
use Rattle.semantics.specs.Theorems.CalendarCalls.{Both, TurnedAway}
use Rattle.sheet.specs.Opened.{contents}
use Rattle.calendar.specs.declared.hours.Entry.{Entry as Held}
use Rattle.calendar.specs.Entries.{entries_in}
use Rattle.guess.specs.Programs.{setting_in, Outlines}
use Rattle.answers.specs.Refusals.{number_of}
use Rattle.answers.specs.declared.reason.Reason.{Reason}
use Rattle.answers.specs.declared.refusal.Refusal.{Refusal}
use Rattle.sheet.specs.declared.Contents.{Contents}
use Rattle.guess.specs.declared.outline.Outline.{Outline}

-- the code's `Source`: an outline, or a refusal
abbrev pub Source : Type 0
Source = Result Outline Refusal

-- and its `Scheduled`
abbrev pub Scheduled : Type 0
Scheduled = Result (Contents × ℕ) Refusal

-- its setting is the one that the words stand for, and x is their outline; or it is that refusal
abbrev pub Reads : (from : Returned Setting) → Source → (words : List ℕ) → Type 0
Reads from (Ok x) words = Outlines x words × (from ≡ accepted (setting_in x words))
Reads from (Err q) words = from ≡ refusal (number_of q.reason) q.place

-- where it is accepted, x is the outline of the words
abbrev pub Outlined : Source → (words : List ℕ) → Type 0
Outlined (Ok x) words = Outlines x words
Outlined (Err q) words = Unit {0}

-- a sheet says what x keeps, and its calendar has n entries, the first ones of these; or one of them is refused so
abbrev pub ReadsBoth : (sheet calendar : List ℕ) → Scheduled → (entries : List Held) → Type 0
ReadsBoth sheet calendar (Ok (x, n)) entries =
    (y : Sheet) × (es : List Entry) × Both sheet calendar y es × (x ≡ contents y) × (n ≡ length es) × (entries_in (take n entries) ≡ es)
ReadsBoth sheet calendar (Err q) entries = TurnedAway sheet calendar (number_of q.reason) q.place

-- a source with one check more
abbrev pub ReadsOn : (check : Returned Setting → Returned Setting) (before after : Source) → Type 0
ReadsOn check before after = (from : Returned Setting) (words : List ℕ) → Reads from before words → Reads (check from) after words

-- what the code does for a check more, of a number that has to be below a bound: a refusal stays as it is; an accepted outline stays where the number is below
-- its bound, and else the refusal for this reason comes in its place
pub record CheckedBy {E : Type 0} (gives : Refusal → E → Type 0) (bound : Outline → ℕ) (reason : Reason) (n : ℕ) (before after : Result Outline E) : Type 0 where
  pub refused : {e : E} → before ≡ Err e → after ≡ Err e
  pub below : {x : Outline} → before ≡ Ok x → n < bound x → after ≡ Ok x
  pub beyond : {x : Outline} → before ≡ Ok x → bound x ≤ n → (e : E) × (after ≡ Err e) × gives (record { reason = reason; place = 0 }) e

-- where it is accepted, no more negations than a sheet may have
abbrev pub Within : {E : Type 0} → Result Outline E → Type 0
Within (Ok x) = x.negations ≤ most_negations
Within (Err e) = Unit {0}
