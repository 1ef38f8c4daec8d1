-- When an entry holds and when a rule is in force; the rules in force as a set of numbers; and where nothing begins or ends, nothing changes.
-- Assumes nothing.
-- Here the definitions and `dec_proper`; the other theorems are in proofs/Theorems/InForce.antt.
use Rattle.std.specs.Prelude.{ℕ, suc, ◌≤◌, ◌<◌, ◌≡◌, true, List, ◌⊎◌}
use Rattle.sets.specs.Decides.{Decides, dec_iff, dec_not, dec_and, dec_eq, dec_le}
use Rattle.sets.specs.Lists.{◌among◌}
use Rattle.semantics.specs.Definitions.Calendar.{last_minute, Entry, proper, holds}

-- ---- an entry
-- "from its first minute up to but not including its end; an end below the first runs over the week's close"
abbrev pub Holds : Entry → (minute : ℕ) → Type 0
Holds e minute = ((e.first < e.end) × ((e.first ≤ minute) × (minute < e.end))) ⊎ ((e.end < e.first) × ((e.first ≤ minute) ⊎ (minute < e.end)))

-- not "a rule number not in the sheet, a minute over 10079 or equal ends"
pub record Proper (rules : ℕ) (e : Entry) : Type 0 where
  pub on_sheet : e.rule < rules
  pub first_minute : e.first ≤ last_minute
  pub end_minute : e.end ≤ last_minute
  pub apart : e.first ≡ e.end → ⊥

pub dec_proper : (rules : ℕ) (e : Entry) → Decides (Proper rules e) (proper rules e)
dec_proper rules e =
    dec_iff (
      λ p. record { on_sheet = p.0; first_minute = p.1.0; end_minute = p.1.1.0; apart = p.1.1.1 },
      λ p. (p.on_sheet, (p.first_minute, (p.end_minute, p.apart))),
    ) (dec_and (dec_le (suc e.rule) rules) (dec_and (dec_le e.first last_minute)
    (dec_and (dec_le e.end last_minute) (dec_not (dec_eq e.first e.end)))))

abbrev pub AllProper : (rules : ℕ) → List Entry → Type 0
AllProper rules entries = (e : Entry) → e among entries → Proper rules e

-- ---- a rule
-- "A rule with no entry is always in force, with several whenever one holds", where to hold is P
abbrev pub WhereHolds : (P : Entry → Type 0) → List Entry → (rule : ℕ) → Type 0
WhereHolds P entries rule =
    ((e : Entry) → e among entries → e.rule ≡ rule → ⊥) ⊎ ((e : Entry) × (e among entries) × (e.rule ≡ rule) × P e)

abbrev pub InForce : List Entry → (minute rule : ℕ) → Type 0
InForce entries minute rule = WhereHolds (λ e. holds minute e ≡ true) entries rule

-- ---- no change
-- no entry begins or ends at the minute
abbrev pub NoEnd : List Entry → (minute : ℕ) → Type 0
NoEnd entries minute = (e : Entry) → e among entries → (e.first ≡ minute → ⊥) × (e.end ≡ minute → ⊥)
