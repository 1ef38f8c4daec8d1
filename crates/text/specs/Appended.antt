-- Text in a lent buffer of bytes. Assumes nothing.
use Rattle.std.specs.Prelude.{ℕ, ◌+◌, ◌≤◌, ◌≡◌, List, ◌++◌, length, take, drop}

-- The text stands in the buffer after the first `at` bytes, which ends it at r; all other bytes are as they were before.
pub record Appended (at : ℕ) (text before after : List ℕ) (r : ℕ) : Type 0 where
  pub next : r ≡ at + length text
  pub front : take r after ≡ take at before ++ text
  pub rest : drop r after ≡ drop r before

-- n bytes stand at the front of a buffer. The second part follows from the first; it is what `&out[..n]` asks.
abbrev pub Counts : ℕ → List ℕ → Type 0
Counts n buffer = (n ≤ length buffer) × (n ≡ length (take n buffer))
