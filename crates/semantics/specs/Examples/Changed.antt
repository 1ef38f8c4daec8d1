-- The minutes of change of known calendars. The definition goes through all minutes of the week; here they are computed where entries begin
-- or end, which gives the same list (Theorems/Ends.antt). Assumes nothing.
-- Here the definitions; the theorems are in proofs/Examples/Changed.antt.
use Rattle.std.specs.Prelude.{◌≡◌, [], ◌∷◌, map}
use Rattle.semantics.specs.Definitions.Returned.{accepted, refusal}
use Rattle.semantics.specs.Definitions.Calendar.{changes_call}
use Rattle.semantics.specs.Examples.Calendars.{longest_hours, longest_changes}
use Rattle.semantics.specs.Examples.Minutes.{equal, changes}

abbrev pub Changed : Type 0
Changed = map (λ p. changes_call p.0 p.1 p.2) changes ≡ map (λ p. p.3) changes

-- ---- the longest calendar: "9 with its length when the buffer is short"
abbrev pub LongestChanged : Type 0
LongestChanged = map (changes_call equal longest_hours) (127 ∷ 128 ∷ []) ≡ refusal 9 128 ∷ accepted longest_changes ∷ []
