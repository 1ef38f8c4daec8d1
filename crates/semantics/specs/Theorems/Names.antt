-- What a name is, and that the reading's tests decide it. Assumes nothing.
use Rattle.std.specs.Prelude.{ℕ, ◌≤◌, ◌≡◌, Bool, true, false, List, ◌⊎◌, length, get_or}
use Rattle.std.proofs.Common.{inl, ⊎_elim}
use Rattle.sets.specs.Decides.{Decides, dec_and, dec_or, dec_eq, dec_le, dec_false, dec_iff}
use Rattle.sets.specs.Lists.{◌among◌}
use Rattle.semantics.specs.Definitions.Sheet.{between, name_byte, longest_name}

-- "a-z"
abbrev pub Letter : ℕ → Type 0
Letter b = (97 ≤ b) × (b ≤ 122)

-- "a-z, 0-9 and `_`"
abbrev pub NameByte : ℕ → Type 0
NameByte b = Letter b ⊎ (((48 ≤ b) × (b ≤ 57)) ⊎ (b ≡ 95))

-- "a length byte 1 to 12 and that many bytes from a-z, 0-9 and `_`, the first from a-z"
pub record GoodName (n : List ℕ) : Type 0 where
  pub not_empty : 1 ≤ length n
  pub not_long : length n ≤ longest_name
  pub first : Letter (get_or n 0 0)
  pub bytes : (b : ℕ) → b among n → NameByte b

pub dec_between : (low high b : ℕ) → Decides ((low ≤ b) × (b ≤ high)) (between low high b)
dec_between low high b = dec_and (dec_le low b) (dec_le b high)

-- what a byte is to be, as the first of a name and as another
abbrev pub Allowed : Bool → ℕ → Type 0
Allowed true b = Letter b
Allowed false b = NameByte b

pub dec_allowed : (first : Bool) (b : ℕ) → Decides (Allowed first b) (name_byte first b)
dec_allowed true b = dec_iff (⊎_elim (λ l. l) (λ z. absurd z), inl) (dec_or (dec_between 97 122 b) (dec_false {P = ⊥} (λ z. z)))
dec_allowed false b = dec_or (dec_between 97 122 b) (dec_or (dec_between 48 57 b) (dec_eq b 95))
