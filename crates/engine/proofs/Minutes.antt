-- The minutes of change, of a sheet and a calendar that were read. Assumes nothing.
use Prim.Native.Nat.{ℕ, ◌≤◌, ◌<◌}
use mathlib.Core.Path.{◌≡◌, sym, ap, ap₂, ◌∙◌}
use mathlib.Core.List.{List}
use lib.ListN.{length, take}
use Rattle.semantics.specs.Definitions.Calendar.{minutes_of_change, changes_call}
use Rattle.semantics.specs.Definitions.Returned.{accepted, refusal}
use Rattle.semantics.specs.Theorems.Returned.{fits_limited, short_limited}
use Rattle.semantics.proofs.Theorems.CalendarCalls.{changes-given}
use Rattle.sheet.specs.declared.Contents.{Contents}
use Rattle.calendar.specs.declared.hours.Entry.{Entry as Held}
use Rattle.calendar.specs.Entries.{entries_in}
use Rattle.std.specs.Prelude.{Ok}
use Rattle.source.specs.Sources.{Scheduled, ReadsBoth}
use Rattle.source.proofs.Calendars.{sheet-said, entries_read, accepts, is, same_entries}

module _ (s c : List ℕ) (entries : List Held) (r : Scheduled) (h : ReadsBoth s c r entries) {x : Contents} {n : ℕ} (told : r ≡ Ok (x, n)) (minutes : List ℕ)
    (listed : minutes ≡ minutes_of_change (entries_in (take n entries)) x.rules) (room : ℕ) where
  all_minutes : minutes_of_change (entries_read s c entries r h told) (length (sheet-said s c entries r h told).rules) ≡ minutes
  all_minutes = sym (listed ∙ ap₂ minutes_of_change (same_entries s c entries r h told) (ap (λ z. z.rules) (is s c entries r h told)))

  pub minutes_returned : length minutes ≤ room → changes_call s c room ≡ accepted minutes
  minutes_returned l = changes-given s c room (accepts s c entries r h told) ∙ rw all_minutes (fits_limited (length minutes) room (length minutes) minutes l)

  pub minutes_short : room < length minutes → changes_call s c room ≡ refusal 9 (length minutes)
  minutes_short l = changes-given s c room (accepts s c entries r h told) ∙ rw all_minutes (short_limited (length minutes) room (length minutes) minutes l)
