-- The size of a set: how many members it has. A proper subset is smaller. Assumes nothing.
use Rattle.std.specs.Prelude.{ℕ, zero, suc, ◌+◌, ◌/◌, ◌%◌, ◌^◌, ◌≤◌, ◌<◌, ◌≡◌, refl, Bool, true, false, List, ◌∷◌, ◌↔◌, leb, length}
use Rattle.std.proofs.Common.{sym, ap, ◌∙◌, subst, ⊎_elim, arith, mod-eq_of_lt, mod-lt, pow-suc, lt_of_not-le, lt_of_le_of_lt, length-append, pow_pos}
use Rattle.std.proofs.Math.Nat.{mod-one}
use Rattle.std.proofs.Math.Arith.{lt-one}
use Rattle.std.specs.Int.Count.{ones, ones_step, ones_in}
use Rattle.std.proofs.lemmas.Nat.{ones_cat, ones-le, mod-pow-add}
use Rattle.sets.specs.Decides.{decided, dec_eq, dec_le}
use Rattle.sets.specs.Lists.{◌among◌, keep, keep_snoc, among-kept, only, up_to, all_cons, dec_some}
use Rattle.sets.specs.Pairwise.{up_to_distinct, Distinct, pairwise_keep}
use Rattle.sets.specs.Counting.{no_longer}
use Rattle.sets.specs.Sets.{◌∈◌, ◌⊆◌, ◌⊂◌, ◌∈?◌, size, members_of}
use Rattle.sets.specs.Members.{dec_∈, ∈_below, below_power, ⊆_antisym, ⊆_le}

-- the members of x below n, rising
unfoldable pub members : ℕ → ℕ → List ℕ
members n x = keep (λ a. a ∈? x) (up_to n)

-- the n lowest bits, counted
size_mod : (n x : ℕ) → size (x % 2 ^ n) ≡ length (members n x)
unfolding members up_to keep ones ones_in
size_mod zero x = ap ones (mod-one x)
size_mod (suc n) x =
    ap ones (ap (λ k. x % 2 ^ k) (omega arith) ∙ mod-pow-add x 1 n)
    ∙ ones_cat n (x / 2 ^ n % 2) (x % 2 ^ n) (mod-lt x (pow_pos n))
    ∙ omega (arith, size_mod n x, digit (n ∈? x) refl, ap length (keep_snoc (λ a. a ∈? x) (up_to n) n), length-append (members n x) (only (n ∈? x) n))
  where
    digit : (b : Bool) → (n ∈? x) ≡ b → ones (x / 2 ^ n % 2) ≡ length (only b n)
    digit true e = ap ones ((dec_eq (x / 2 ^ n % 2) 1).yes e)
    digit false e = let k = (dec_eq (x / 2 ^ n % 2) 1).no e in let z : x / 2 ^ n % 2 ≡ 0 = omega arith in ap ones z

pub size-members : (n x : ℕ) → x < 2 ^ n → size x ≡ length (members n x)
size-members n x l = ap ones (sym (mod-eq_of_lt l)) ∙ size_mod n x

pub size_below : (n x : ℕ) → x < 2 ^ n → size x ≤ n
size_below n x l = ones-le n x l

-- the size, counted in n digits
pub size_in : (n x : ℕ) → x < 2 ^ n → ones_in n x ≡ size x
unfolding ones_in ones
size_in zero x l = sym (ap ones (lt-one l))
size_in (suc n) x l = ap (λ z. x % 2 + z) (size_in n (x / 2) (omega (arith, pow-suc 2 n))) ∙ sym (ones_step x)

pub among-members : {a : ℕ} (n x : ℕ) → x < 2 ^ n → a among members n x ↔ (a ∈ x)
unfolding members
among-members n x l =
    let m = among-kept (λ a. a ∈ x) (λ a. a ∈? x) (λ a. dec_∈ a x) n in
    (λ q. (m.0 q).1, λ q. m.1 (∈_below l q, q))

pub members_distinct : (n x : ℕ) → Distinct (members n x)
unfolding members
members_distinct n x = pairwise_keep _ _ (up_to n) (up_to_distinct n)

below_pow : (n : ℕ) → n < 2 ^ n
below_pow zero = omega arith
below_pow (suc n) = omega (arith, below_pow n, pow-suc 2 n)

-- ---- all members
pub among-members_of : (x : ℕ) {a : ℕ} → a among members_of x ↔ (a ∈ x)
unfolding members_of
among-members_of x {a} =
    let m = among-kept (λ a. a ∈ x) (λ a. a ∈? x) (λ a. dec_∈ a x) x in
    (λ q. (m.0 q).1, λ q. m.1 (∈_below (below_pow x) q, q))

pub size-members_of : (x : ℕ) → length (members_of x) ≡ size x
unfolding members_of members
size-members_of x = sym (size-members x x (below_pow x))

-- not below 2 ^ n is what has a bit at or above n
pub not_below_power : (n x : ℕ) → (x < 2 ^ n → ⊥) ↔ ((a : ℕ) × (a ∈ x) × (n ≤ a))
not_below_power n x = (
  λ f.
      ⊎_elim (λ (a, m, l). (a, (among-members_of x).0 m, l))
      (λ none. absurd (f ((below_power n x).1 (λ a m. lt_of_not-le (λ l. none (a, (among-members_of x).1 m, l))))))
      (decided (dec_some (λ a. leb n a) (λ a. n ≤ a) (members_of x) (λ a _. dec_le n a))),
  λ (a, m, l) h. let below = ∈_below h m in omega arith,
)

-- a set has no fewer members than a list of members, each once, and no more than a list that has them all
module _ (x : ℕ) (l : List ℕ) where
  pub size-least : Distinct l → ((a : ℕ) → a among l → a ∈ x) → length l ≤ size x
  size-least d f = rw (size-members x x (below_pow x)) (no_longer l (members x x) d (λ a m. (among-members x x (below_pow x)).1 (f a m)))

  pub size-most : ((a : ℕ) → a ∈ x → a among l) → size x ≤ length l
  size-most f = rw (size-members x x (below_pow x)) (no_longer (members x x) l (members_distinct x x) (λ a m. f a ((among-members x x (below_pow x)).0 m)))

-- the two sets of x ⊆ y as the lists of their members
module _ {x y : ℕ} (s : x ⊆ y) where
  y_fits : y < 2 ^ y
  y_fits = below_pow y

  x_fits : x < 2 ^ y
  x_fits = lt_of_le_of_lt (⊆_le s) y_fits

  mapped : (a : ℕ) → a among members y x → a among members y y
  mapped a m = (among-members y y y_fits).1 (s.into ((among-members y x x_fits).0 m))

  pub size-⊆ : size x ≤ size y
  size-⊆ = rw (size-members y x x_fits, size-members y y y_fits) (no_longer (members y x) (members y y) (members_distinct y x) mapped)

  -- a member of y that is not in x makes y larger
  one_more : (a : ℕ) → a ∈ y → (a ∈ x → ⊥) → size x < size y
  one_more a m n =
      rw (size-members y x x_fits, size-members y y y_fits)
      (no_longer (a ∷ members y x) (members y y)
      (λ b k e. n ((among-members y x x_fits).0 (subst (λ z. z among members y x) (sym e) k)), members_distinct y x)
      (all_cons (λ b. b among members y y) ((among-members y y y_fits).1 m) mapped))

pub size-⊂ : {x y : ℕ} → x ⊂ y → size x < size y
size-⊂ {x} {y} s =
    lt_of_not-le (λ q.
    s.differ (⊆_antisym s.within (record {
      into = λ {a} m. ⊎_elim (λ k. k) (λ n. let l = one_more s.within a m n in absurd (omega arith)) (decided (dec_∈ a x));
    })))
