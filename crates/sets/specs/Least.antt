-- The least member of a set that has one, and the others. Assumes nothing.
use Rattle.std.specs.Prelude.{ℕ, zero, suc, ◌-◌, ◌/◌, ◌%◌, ◌^◌, ◌<◌, ◌≡◌, refl}
use Rattle.std.proofs.Common.{ap, subst, arith, pow-suc}
use Rattle.std.specs.Int.Bits.{and_step, and_self, and_zero_r}
use Rattle.std.proofs.lemmas.Nat.{and_le_l}
use Rattle.std.specs.Int.Count.{count_trailing_zeros, under}
use Rattle.sets.specs.Sets.{◌∈◌, ◌∩◌, ◌∖◌, single}
use Rattle.sets.specs.Members.{∈-single, ∈_below}
use Rattle.sets.specs.Parts.{∈-from}

-- a is in x, and x ∩ (x - 1) is x without a
pub record First (x a : ℕ) : Type 0 where
  pub is_in : a ∈ x
  pub others : x ∩ (x - 1) ≡ x ∖ single a

-- of a set of one member it is that one
pub first-single : {x a c : ℕ} → First x a → x ≡ single c → a ≡ c
first-single {x} {a} {c} f e = (∈-single a c).0 (subst (λ z. a ∈ z) e f.is_in)

odd : (x : ℕ) → x % 2 ≡ 1 → First x 0
odd x e = record { is_in = record { bit = omega arith }; others = omega (arith, and_step x (x - 1), and_step x 1, half, and_self (x / 2), and_zero_r (x / 2)) }
  where
    half : (x / 2) ∩ ((x - 1) / 2) ≡ (x / 2) ∩ (x / 2)
    half = let h : (x - 1) / 2 ≡ x / 2 = omega arith in ap (λ z. (x / 2) ∩ z) h

even : (x a : ℕ) → 0 < x → x % 2 ≡ 0 → First (x / 2) a → First x (suc a)
even x a l e f = record {
  is_in = subst (λ z. z ∈ x) (omega arith) ((∈-from 1 a x).1 f.is_in);
  others = omega (arith, and_step x (x - 1), and_step x (single (suc a)), half, pow-suc 2 a, half_2, f.others, and_le_l (x / 2) (single a));
}
  where
    half : (x / 2) ∩ ((x - 1) / 2) ≡ (x / 2) ∩ (x / 2 - 1)
    half = let h : (x - 1) / 2 ≡ x / 2 - 1 = omega arith in ap (λ z. (x / 2) ∩ z) h

    half_2 : (x / 2) ∩ (single (suc a) / 2) ≡ (x / 2) ∩ single a
    half_2 = let h : single (suc a) / 2 ≡ single a = omega (arith, pow-suc 2 a) in ap (λ z. (x / 2) ∩ z) h

pub first_is : (k x : ℕ) → 0 < x → x < 2 ^ k → First x (count_trailing_zeros k x)
unfolding count_trailing_zeros
first_is zero x l h = absurd (omega arith)
first_is (suc k) x l h = go (x % 2) refl (λ e. first_is k (x / 2) (omega arith) (omega (arith, pow-suc 2 k)))
  where
    go : (d : ℕ) → x % 2 ≡ d → (x % 2 ≡ 0 → First (x / 2) (count_trailing_zeros k (x / 2))) → First x (under d (count_trailing_zeros k (x / 2)))
    go zero e f = even x _ l e (f e)
    go (suc d) e f = odd x (omega arith)

-- as a number of the word
pub first_below : (k x : ℕ) → 0 < x → x < 2 ^ k → First x (count_trailing_zeros k x) × (count_trailing_zeros k x < k)
first_below k x l h = let f = first_is k x l h in (f, ∈_below h f.is_in)
