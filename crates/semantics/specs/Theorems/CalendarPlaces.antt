-- The longest calendar: no refusal of a calendar has a place beyond its length, and no accepted calendar is longer. Assumes nothing.
use Rattle.std.specs.Prelude.{ℕ, ◌+◌, ◌*◌, ◌≤◌, List, length}
use Rattle.std.proofs.Common.{⊎_elim, arith}
use Rattle.semantics.specs.Definitions.Calendar.{most_entries, Entry}
use Rattle.semantics.specs.Theorems.CalendarCases.{CalendarRefuses, CalendarAccepts}

-- a count byte and 64 entries of five bytes
abbrev pub longest_calendar : ℕ
longest_calendar = 1 + 5 * most_entries

module _ (c : List ℕ) (rules : ℕ) where
  pub refused_within : (number place : ℕ) → CalendarRefuses c rules number place → (1 ≤ number) × (number ≤ 11) × (place ≤ longest_calendar)
  refused_within number place =
      ⊎_elim (λ h. omega (arith, h.numbered, h.placed))
      (⊎_elim (λ h. omega (arith, h.numbered, h.placed))
      (⊎_elim (λ h.
      let cut : 1 + 5 * h.entry + 5 ≤ length c → ⊥ = h.cut in
      omega (arith, h.numbered, h.placed, h.of_count, h.counted.1))
      (⊎_elim (λ h. omega (arith, h.numbered, h.placed, h.of_count, h.counted.1))
      (λ h. omega (arith, h.numbered, h.placed, h.counted.1)))))

  pub accepted_within : (entries : List Entry) (end : ℕ) → CalendarAccepts c rules entries end → length c ≤ longest_calendar
  accepted_within entries end h = omega (arith, h.whole, h.counted.1)
