-- "numbers are base ten": what the digits of a number are, said without dividing. Assumes nothing.
use Rattle.std.specs.Prelude.{ℕ, zero, suc, ◌+◌, ◌*◌, ◌-◌, ◌/◌, ◌%◌, ◌^◌, ◌≤◌, ◌<◌, ◌≡◌, refl, ◌⊎◌, length, get_or}
use Rattle.std.proofs.Common.{sym, ap, ◌∙◌, subst, inl, inr, ⊎_elim, not-suc-le-zero, eq-zero-or-pos, pow-suc, arith, lt-ltb, le-ltb, length-append}
use mathlib.Core.List.{List, [], ◌∷◌, ◌++◌, foldl}
use Rattle.std.proofs.Math.ListN.{get_or-append}
use Rattle.sets.specs.Lists.{◌among◌, nowhere, all_cons, all_snoc, foldl_snoc}
use Rattle.semantics.specs.Definitions.Program.{digits, decimal}

-- the number that digits stand for, in base ten
abbrev pub value_of : List ℕ → ℕ
value_of ds = foldl (λ v d. 10 * v + (d - 48)) 0 ds

-- the text ds is n, base ten
pub record Spells (n : ℕ) (ds : List ℕ) : Type 0 where
  pub digit : (d : ℕ) → d among ds → (48 ≤ d) × (d ≤ 57)
  pub value : value_of ds ≡ n
  -- there is a digit, and one more only where the number asks for it: no 0 stands first
  pub some_digit : 1 ≤ length ds
  pub first : 10 ≤ n → get_or ds 0 0 ≡ 48 → ⊥
  pub alone : n < 10 → length ds ≡ 1

-- ---- a number below ten, and another: however many digits are allowed, if enough
low_or_high : (n : ℕ) → (n < 10) ⊎ (10 ≤ n)
low_or_high n = ⊎_elim (λ e. inl (omega arith)) (λ p. inr (omega arith)) (eq-zero-or-pos (n / 10))

small : (most n : ℕ) → n < 10 → digits (suc most) n ≡ (48 + n) ∷ []
unfolding digits
small most n h = rw (lt-ltb n 10 h)

large : (most n : ℕ) → 10 ≤ n → digits (suc most) n ≡ digits most (n / 10) ++ (48 + n % 10) ∷ []
unfolding digits
large most n h = rw (le-ltb n 10 h)

enough : (m most n : ℕ) → n < m → n < most → digits m n ≡ digits most n
enough zero most n h l = absurd (not-suc-le-zero h)
enough (suc m) zero n h l = absurd (not-suc-le-zero l)
enough (suc m) (suc most) n h l =
    ⊎_elim
    (λ s. small m n s ∙ sym (small most n s))
    (λ b. large m n b ∙ ap (λ ds. ds ++ (48 + n % 10) ∷ []) (enough m most (n / 10) (omega arith) (omega arith)) ∙ sym (large most n b))
    (low_or_high n)

pub decimal_small : (n : ℕ) → n < 10 → decimal n ≡ (48 + n) ∷ []
decimal_small n h = small n n h

pub decimal_large : (n : ℕ) → 10 ≤ n → decimal n ≡ decimal (n / 10) ++ (48 + n % 10) ∷ []
decimal_large n h = large n n h ∙ ap (λ ds. ds ++ (48 + n % 10) ∷ []) (enough n (suc (n / 10)) (n / 10) (omega arith) (omega arith))

-- ---- what a number's digits are
one_digit : (n : ℕ) → n < 10 → Spells n ((48 + n) ∷ [])
one_digit n h = record {
  digit = all_cons (λ d. (48 ≤ d) × (d ≤ 57)) (omega arith, omega arith) (λ d m. absurd (nowhere m));
  value = omega arith;
  some_digit = omega arith;
  first = λ l. absurd (omega arith);
  alone = λ _. refl;
}

one_digit_more : (n : ℕ) (ds : List ℕ) → 10 ≤ n → Spells (n / 10) ds → (0 < n / 10 → get_or ds 0 0 ≡ 48 → ⊥) → Spells n (ds ++ (48 + n % 10) ∷ [])
one_digit_more n ds b s not-zero =
    let last = 48 + n % 10 in
    let front : get_or (ds ++ last ∷ []) 0 0 ≡ get_or ds 0 0 = get_or-append ds (last ∷ []) 0 0 s.some_digit in
    let v = foldl_snoc (λ v d. 10 * v + (d - 48)) 0 ds last in
    record {
      digit = all_snoc (λ d. (48 ≤ d) × (d ≤ 57)) ds last s.digit (omega arith, omega arith);
      value = omega (arith, v, s.value);
      some_digit = omega (arith, length-append ds (last ∷ []));
      first = λ _ z. not-zero (omega arith) (sym front ∙ z);
      alone = λ l. absurd (omega arith);
    }

-- the first digit is 0 only of 0 itself
no_zero : (n : ℕ) (ds : List ℕ) → Spells n ds → (n < 10 → ds ≡ (48 + n) ∷ []) → 0 < n → get_or ds 0 0 ≡ 48 → ⊥
no_zero n ds s one h z = ⊎_elim (λ l. omega (arith, sym z ∙ ap (λ m. get_or m 0 0) (one l))) (λ b. s.first b z) (low_or_high n)

spelled : (most n : ℕ) → n < most → Spells n (decimal n)
spelled zero n h = absurd (not-suc-le-zero h)
spelled (suc most) n h =
    ⊎_elim
    (λ s. subst (Spells n) (sym (decimal_small n s)) (one_digit n s))
    (λ b.
    let ih = spelled most (n / 10) (omega arith) in
    subst (Spells n) (sym (decimal_large n b))
    (one_digit_more n (decimal (n / 10)) b ih (no_zero (n / 10) (decimal (n / 10)) ih (decimal_small (n / 10)))))
    (low_or_high n)

pub decimal_spells : (n : ℕ) → Spells n (decimal n)
decimal_spells n = spelled (suc n) n (omega arith)

-- ---- how many there are
pub decimal_long : (k n : ℕ) → n < 10 ^ suc k → length (decimal n) ≤ suc k
decimal_long zero n h = let e = ap length (decimal_small n (omega arith)) in omega arith
decimal_long (suc k) n h =
    ⊎_elim
    (λ s. let l = ap length (decimal_small n s) in omega arith)
    (λ b.
    let l = ap length (decimal_large n b) ∙ length-append (decimal (n / 10)) ((48 + n % 10) ∷ []) in
    omega (arith, decimal_long k (n / 10) (omega (arith, pow-suc 10 (suc k)))))
    (low_or_high n)

-- of a 64-bit number
pub decimal_word : (n : ℕ) → n < 2 ^ 64 → length (decimal n) ≤ 20
decimal_word n h = decimal_long 19 n (omega arith)

pub decimal-some : (n : ℕ) → 1 ≤ length (decimal n)
decimal-some n = (decimal_spells n).some_digit
