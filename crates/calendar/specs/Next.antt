-- The next minute at which an entry begins or ends, as a loop over the entries finds it. Assumes nothing.
use Rattle.std.specs.Prelude.{ℕ, suc, ◌&&◌, cond, ltb}
use mathlib.Core.List.{List, foldl}
use Rattle.semantics.specs.Definitions.Calendar.{Entry, last_minute}

-- `at`, where it is after the minute and before the best so far; else the best
abbrev pub nearer_to : (minute best at : ℕ) → ℕ
nearer_to minute best at = cond (ltb minute at && ltb at best) at best

-- the same of both ends of an entry
abbrev pub with_ends : (minute best : ℕ) → Entry → ℕ
with_ends minute best e = nearer_to minute (nearer_to minute best e.first) e.end

-- the end of the week, where there is none
unfoldable pub next_of : (minute : ℕ) → List Entry → ℕ
next_of minute entries = foldl (with_ends minute) (suc last_minute) entries
