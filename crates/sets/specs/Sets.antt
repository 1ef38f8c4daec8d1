-- A number as a finite set: of atoms, of epistemic negations, or of rules by number. "Bit i (value 2^i) means atom i"; "A set is the number with its atoms'
-- bits." Assumes nothing.
use Rattle.std.specs.Prelude.{ℕ, zero, suc, ◌+◌, ◌-◌, ◌/◌, ◌%◌, ◌^◌, ◌<◌, ◌≡◌, Bool, not, ◌&&◌, cond, eqb}
use mathlib.Core.List.{List, foldl}
use Rattle.std.specs.Int.Bits.{bit_and, bit_or}
use Rattle.std.specs.Int.Count.{ones}
use Rattle.sets.specs.Lists.{◌among◌, keep, up_to}

infix 45 ◌∈◌ ◌⊆◌ ◌⊂◌ ◌∈?◌ ◌⊆?◌ ◌⊂?◌ ◌meets?◌
infixl 66 ◌∩◌ ◌∖◌
infixl 65 ◌∪◌
-- ---- what is meant

-- a is in x: bit a of x, whose value is 2 ^ a, is set
pub record ◌∈◌ (a x : ℕ) : Type 0 where
  pub bit : x / 2 ^ a % 2 ≡ 1

-- every member of x is in y
pub record ◌⊆◌ (x y : ℕ) : Type 0 where
  pub into : {a : ℕ} → a ∈ x → a ∈ y

-- x is a proper subset of y
pub record ◌⊂◌ (x y : ℕ) : Type 0 where
  pub within : x ⊆ y
  pub differ : x ≡ y → ⊥

-- some member of x is in y
pub record Meets (x y : ℕ) : Type 0 where
  pub common : ℕ
  pub left : common ∈ x
  pub right : common ∈ y

-- the sets of a list, and of several lists, have members below n only (`below_power` of Members.antt)
abbrev pub Below : (n : ℕ) → List ℕ → Type 0
Below n xs = (x : ℕ) → x among xs → x < 2 ^ n

abbrev pub AllBelow : (n : ℕ) → List (List ℕ) → Type 0
AllBelow n ls = (l : List ℕ) → l among ls → Below n l

-- ---- the same as tests
abbrev pub ◌∈?◌ : ℕ → ℕ → Bool
a ∈? x = eqb (x / 2 ^ a % 2) 1

abbrev pub ◌⊆?◌ : ℕ → ℕ → Bool
x ⊆? y = eqb (bit_and x y) x

abbrev pub ◌⊂?◌ : ℕ → ℕ → Bool
x ⊂? y = (x ⊆? y) && not (eqb x y)

abbrev pub ◌meets?◌ : ℕ → ℕ → Bool
x meets? y = not (eqb (bit_and x y) 0)

-- ---- sets made of others
abbrev pub ◌∩◌ : ℕ → ℕ → ℕ
x ∩ y = bit_and x y

abbrev pub ◌∪◌ : ℕ → ℕ → ℕ
x ∪ y = bit_or x y

-- the members of x that are not in y (those in both are part of x's number)
abbrev pub ◌∖◌ : ℕ → ℕ → ℕ
x ∖ y = x - x ∩ y

abbrev pub ∅ : ℕ
∅ = 0

-- all numbers below n
abbrev pub full : ℕ → ℕ
full n = 2 ^ n - 1

-- a alone
abbrev pub single : ℕ → ℕ
single a = 2 ^ a

-- the numbers below n of which f holds
unfoldable pub set_of : (ℕ → Bool) → ℕ → ℕ
set_of f zero = 0
set_of f (suc n) = cond (f n) (2 ^ n) 0 + set_of f n

-- the intersection of sets within the numbers below n, and the union
abbrev pub ⋂ : ℕ → List ℕ → ℕ
⋂ n xs = foldl ◌∩◌ (full n) xs

abbrev pub ⋃ : List ℕ → ℕ
⋃ xs = foldl ◌∪◌ ∅ xs

-- "Its size is the number of set bits."
abbrev pub size : ℕ → ℕ
size x = ones x

-- the members of x, rising: each is below the number of x
unfoldable pub members_of : ℕ → List ℕ
members_of x = keep (λ a. a ∈? x) (up_to x)
