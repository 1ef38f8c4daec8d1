-- How many members a list has, and how many of them pass a test. Assumes nothing.
use Prim.Native.Nat.{ℕ, suc, ◌+◌, ◌≤◌, ◌<◌, zero-le}
use Rattle.std.specs.Prelude.{◌≡◌, Bool, cond, ◌↔◌, eqb}
use Rattle.std.proofs.Math.Path.{refl, ap}
use Rattle.std.proofs.Common.{sym, subst, inl, inr, ⊎_elim, le_antisymm}
use Rattle.std.proofs.Math.Bool.{true, false}
use mathlib.Core.List.{List, [], ◌∷◌, ◌++◌}
use native.Mathlib.Omega.{arith}
use Rattle.std.proofs.Math.ListN.{length, length-append}
use Rattle.sets.specs.Decides.{decided, dec_eq}
use Rattle.sets.specs.Lists.{◌among◌, here, later, nowhere, first_or_later, all_cons, keep, only, flat, up_to, among-append, among-up_to, length-up_to, dec_some}
use Rattle.sets.specs.Pairwise.{Distinct}

-- ---- a list with no member twice is no longer than one that has all its members
module _ {A : Type 0} where
  split : {x : A} (l : List A) → x among l → (a : List A) × (b : List A) × (l ≡ a ++ x ∷ b)
  split [] m = absurd (nowhere m)
  split (y ∷ l) m =
      ⊎_elim (λ e. ([], l, rw e)) (λ k. let (a, b, e) = split l k in (y ∷ a, b, ap (λ z. y ∷ z) e)) (first_or_later m)

  without : {x y : A} (a b : List A) → (y ≡ x → ⊥) → y among (a ++ x ∷ b) → y among (a ++ b)
  without a b n m = (among-append a).1 (⊎_elim inl (λ q. ⊎_elim (λ e. absurd (n e)) inr (first_or_later q)) ((among-append a).0 m))

  pub no_longer : (l m : List A) → Distinct l → ((x : A) → x among l → x among m) → length l ≤ length m
  no_longer [] m d f = zero-le
  no_longer (x ∷ l) m d f =
      let (a, b, e) = split m (f x here) in
      let ih = no_longer l (a ++ b) d.1 (λ y k. without a b (λ z. d.0 y k (sym z)) (subst (λ z. y among z) e (f y (later k)))) in
      omega (arith, ap length e, length-append a (x ∷ b), length-append a b)

  pub as_long : (l m : List A) → Distinct l → Distinct m → ((x : A) → (x among l) ↔ (x among m)) → length l ≡ length m
  as_long l m d e f = le_antisymm (no_longer l m d (λ x. (f x).0)) (no_longer m l e (λ x. (f x).1))

-- n numbers below n, none twice, are all of them
pub all_numbers : (n : ℕ) (l : List ℕ) → length l ≡ n → ((x : ℕ) → x among l → x < n) → Distinct l → (x : ℕ) → x < n → x among l
all_numbers n l e b d x h =
    ⊎_elim (λ p. subst (λ y. y among l) (sym p.2) p.1)
    (λ f.
    let longer = no_longer (x ∷ l) (up_to n) (λ y m p. f (y, m, p), d) (λ y m. (among-up_to n).1 (all_cons (λ z. z < n) h b y m)) in
    absurd (omega (arith, length-up_to n)))
    (decided (dec_some (eqb x) (λ y. x ≡ y) l (λ y _. dec_eq x y)))

-- ---- how many members pass a test
abbrev pub one : Bool → ℕ
one b = cond b 1 0

pub length-only : {A : Type 0} (b : Bool) (x : A) → length (only b x) ≡ one b
length-only true x = refl
length-only false x = refl

module _ {A : Type 0} where
  pub length-keep : (f : A → Bool) (x : A) (l : List A) → length (keep f (x ∷ l)) ≡ one (f x) + length (keep f l)
  unfolding keep
  length-keep f x l = go (f x)
    where
      go : (b : Bool) → length (cond b (x ∷ keep f l) (keep f l)) ≡ one b + length (keep f l)
      go true = omega arith
      go false = omega arith

  pub keep_shorter : (f : A → Bool) (l : List A) → length (keep f l) ≤ length l
  unfolding keep
  keep_shorter f [] = zero-le
  keep_shorter f (x ∷ l) = go (f x) (keep_shorter f l)
    where
      go : (b : Bool) → length (keep f l) ≤ length l → length (cond b (x ∷ keep f l) (keep f l)) ≤ suc (length l)
      go true h = omega arith
      go false h = omega arith

  -- where each member that passes f passes one of three tests, and no other member passes any
  pub length-shared : (f a b c : A → Bool) (l : List A) → ((x : A) → x among l → one (f x) ≡ one (a x) + one (b x) + one (c x))
      → length (keep f l) ≡ length (keep a l) + length (keep b l) + length (keep c l)
  unfolding keep
  length-shared f a b c [] h = refl
  length-shared f a b c (x ∷ l) h =
      let ih = length-shared f a b c l (λ y m. h y (later m)) in
      omega (arith, h x here, length-keep f x l, length-keep a x l, length-keep b x l, length-keep c x l)

  -- one for each member that passes p, and one for each that passes q
  pub length_both : {B : Type 0} (p q : A → Bool) (f h : A → B) (l : List A)
      → length (flat (λ x. only (p x) (f x) ++ only (q x) (h x)) l) ≡ length (keep p l) + length (keep q l)
  unfolding flat keep
  length_both p q f h [] = refl
  length_both p q f h (x ∷ l) =
      omega (
        arith,
        length_both p q f h l,
        length-append (only (p x) (f x) ++ only (q x) (h x)) (flat (λ x. only (p x) (f x) ++ only (q x) (h x)) l),
        length-append (only (p x) (f x)) (only (q x) (h x)),
        length-only (p x) (f x),
        length-only (q x) (h x),
        length-keep p x l,
        length-keep q x l,
      )

  pub keep_all : (l : List A) → keep (λ _. true) l ≡ l
  unfolding keep
  keep_all [] = refl
  keep_all (x ∷ l) = ap (λ m. x ∷ m) (keep_all l)
