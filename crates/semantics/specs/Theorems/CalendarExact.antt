-- A calendar is accepted, or refused with a number and a place, exactly where its bytes are as CalendarCases.antt says. Assumes nothing.
-- Here the definitions; the theorems are in proofs/Theorems/CalendarExact.antt.
use Rattle.std.specs.Prelude.{ℕ, ◌≤◌, ◌≡◌, List, length}
use Rattle.semantics.specs.Definitions.Sheet.{byte_at}
use Rattle.semantics.specs.Definitions.Calendar.{most_entries, Entry}
use Rattle.semantics.specs.Theorems.InForce.{AllProper}

-- ---- the entries of an accepted calendar
pub record EntriesRead (c : List ℕ) (rules : ℕ) (entries : List Entry) : Type 0 where
  -- "a count byte 0 to 64"
  pub count_byte : byte_at c 0 ≡ length entries
  pub few_entries : length entries ≤ most_entries
  pub all_proper : AllProper rules entries
