-- A refusal of a sheet has a number from 1 to 7 or 15, but not 7 while the sections are read, and none but 1 to 5 while names and rules are; and a
-- place that is at most the length of "the longest sheet". Assumes nothing.
-- Here the definitions; the theorems are in proofs/Theorems/Places.antt.
use Prim.Native.Nat.{ℕ, ◌≤◌}
use Rattle.std.specs.Prelude.{◌≡◌, ◌⊎◌}
use Rattle.semantics.specs.Definitions.Reading.{Reading, field, refused}

-- the numbers of refusals up to `most`, and 15
abbrev pub SheetRefusal : (most number : ℕ) → Type 0
SheetRefusal most number = ((1 ≤ number) × (number ≤ most)) ⊎ (number ≡ 15)

-- those of the refusals of names and rules
abbrev pub OneToFive : (number : ℕ) → Type 0
OneToFive number = (1 ≤ number) × (number ≤ 5)

-- the place after the field, or the refusal's place, is at most b, and the refusal's number is one of N
abbrev pub Within : {A : Type 0} → (N : ℕ → Type 0) (b : ℕ) → Reading A → Type 0
Within N b (field value next) = next ≤ b
Within N b (refused number place) = (place ≤ b) × N number
