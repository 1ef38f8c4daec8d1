-- The records of a listing, as they stand in a buffer: one for each world view and no other, in the order. Assumes nothing.
-- Here the definitions; the theorems are in proofs/Theorems/Records.antt.
use Rattle.std.specs.Prelude.{ℕ, ◌*◌, ◌^◌, ◌<◌, ◌≡◌, List, [], ◌∷◌, ◌↔◌, get_or, take, drop}
use Rattle.semantics.specs.Definitions.Setting.{Setting, k}
use Rattle.semantics.specs.Theorems.Verdict.{Verified}
use Rattle.semantics.specs.Theorems.WorldView.{WorldView, NoneVerifiable}
use Rattle.semantics.specs.Theorems.Order.{Before}

-- record i of a buffer, and the guess in it
abbrev pub record_at : List ℕ → ℕ → List ℕ
record_at buffer i = take 4 (drop (4 * i) buffer)

abbrev pub guess_at : List ℕ → ℕ → ℕ
guess_at buffer i = get_or buffer (4 * i) 0

-- the first n records of the buffer are those of the world views (000, Definition 6)
pub record RecordsOf (s : Setting) (n : ℕ) (buffer : List ℕ) : Type 0 where
  -- a guess gets one exactly when it is reduct-verifiable and no proper superset of it is
  pub one_exactly : (g : ℕ) → g < 2 ^ k s → ((i : ℕ) × (i < n) × (guess_at buffer i ≡ g)) ↔ WorldView s g
  -- and never a second
  pub never_twice : (i j : ℕ) → i < n → j < n → guess_at buffer i ≡ guess_at buffer j → i ≡ j
  -- and no other is there; each has the four words of the verdict on its guess
  pub four-words : (i : ℕ) → i < n → (g : ℕ) × (known : ℕ) × (possible : ℕ) × (sets : ℕ)
      × (g < 2 ^ k s) × WorldView s g × Verified s g known possible sets × (record_at buffer i ≡ g ∷ known ∷ possible ∷ sets ∷ [])
  -- larger guesses first, equal sizes by rising number
  pub in_order : (i j : ℕ) → i < j → j < n → Before (guess_at buffer i) (guess_at buffer j)
  -- none exactly when no guess is reduct-verifiable
  pub none_exactly : (n ≡ 0) ↔ NoneVerifiable s
