-- The order by its rule, size falling and then number rising, holds every guess once, larger ones first. For every k. Assumes nothing.
use Rattle.std.specs.Prelude.{ℕ, suc, ◌^◌, ◌≤◌, ◌<◌, ◌≡◌, refl, List, ◌↔◌, eqb, length}
use Rattle.std.proofs.Common.{sym, ◌∙◌, subst, inl, inr, arith, lt_of_lt_of_le, pow_mono, ltb-true, lt-ltb}
use Rattle.sets.specs.Decides.{dec_eq}
use Rattle.sets.specs.Lists.{◌among◌, keep, among-keep, among-kept, up_to, among-up_to, length-up_to, down_from, among-down_from, among-flat}
use Rattle.sets.specs.Pairwise.{up_to_rising, up_to_distinct, down_from_falling, Pairwise, Distinct, pairwise_map, pairwise_keep, pairwise_flat, sorted_same}
use Rattle.sets.specs.Counting.{as_long, all_numbers}
use Rattle.sets.specs.Sets.{Below, size}
use Rattle.sets.specs.Size.{size_below}
use Rattle.semantics.specs.Definitions.Order.{order, members_below}
use Rattle.semantics.specs.Theorems.Order.{Before, Enumerates}

-- the order is strict
pub before_strict : (g h : ℕ) → Before g h → Before h g → ⊥
before_strict g h (inl p) (inl q) = omega arith
before_strict g h (inl p) (inr q) = omega arith
before_strict g h (inr p) (inl q) = omega arith
before_strict g h (inr p) (inr q) = omega arith

pub before_trans : (g h i : ℕ) → Before g h → Before h i → Before g i
before_trans g h i (inl p) (inl q) = inl (omega arith)
before_trans g h i (inl p) (inr q) = inl (omega arith)
before_trans g h i (inr p) (inl q) = inl (omega arith)
before_trans g h i (inr p) (inr q) = inr (omega arith)

before-size : (g h : ℕ) → Before g h → size h ≤ size g
before-size g h (inl p) = omega arith
before-size g h (inr p) = omega arith

-- a list in this order has no guess twice, and larger ones first
sorted_once : (l : List ℕ) → Pairwise Before l → Distinct l
sorted_once l p = pairwise_map l (λ g h _ _ b e. let b' = subst (Before g) (sym e) b in before_strict g g b' b') p

sorted_larger_first : (l : List ℕ) → Pairwise Before l → Pairwise (λ g h. size h ≤ size g) l
sorted_larger_first l p = pairwise_map l (λ g h _ _ b. before-size g h b) p

-- a list in this order that has the guesses of k negations enumerates them
pub sorted_enumerates : (k : ℕ) (l : List ℕ) → Pairwise Before l → ((g : ℕ) → (g among l) ↔ (g < 2 ^ k)) → Enumerates k l
sorted_enumerates k l p f =
    record { below = λ g. (f g).0; all = λ g. (f g).1; once = sorted_once l p; larger_first = sorted_larger_first l p }

-- ---- by counting: 2^k guesses of k negations, none twice, are all of them
module _ (k : ℕ) (l : List ℕ) where
  pub counted_enumerates : length l ≡ 2 ^ k → Below k l → Distinct l → Pairwise (λ g h. size h ≤ size g) l → Enumerates k l
  counted_enumerates n b d p = record { below = b; all = all_numbers (2 ^ k) l n b d; once = d; larger_first = p }

  pub enumerates_long : Enumerates k l → length l ≡ 2 ^ k
  enumerates_long en =
      as_long l (up_to (2 ^ k)) en.once (up_to_distinct (2 ^ k))
      (λ g. (λ m. (among-up_to (2 ^ k)).1 (en.below g m), λ m. en.all g ((among-up_to (2 ^ k)).0 m)))
      ∙ length-up_to (2 ^ k)

-- the members below 2^j of an enumeration of the guesses of k negations enumerate those of j
pub enumerates_members : (j k : ℕ) → j ≤ k → (l : List ℕ) → Enumerates k l → Enumerates j (members_below j l)
enumerates_members j k h l en = record {
  below = λ g m. ltb-true g (2 ^ j) ((among-keep _ l).0 m).1;
  all = λ g p. (among-keep _ l).1 (en.all g (lt_of_lt_of_le p (pow_mono h)), lt-ltb g (2 ^ j) p);
  once = pairwise_keep _ _ l en.once;
  larger_first = pairwise_keep _ _ l en.larger_first;
}

-- the guesses of k negations and of size j
among-size : (k j : ℕ) {g : ℕ} → g among keep (λ g. eqb (size g) j) (up_to (2 ^ k)) ↔ ((g < 2 ^ k) × (size g ≡ j))
among-size k j = among-kept (λ g. size g ≡ j) _ (λ g. dec_eq (size g) j) (2 ^ k)

pub among-order : (k : ℕ) {g : ℕ} → g among order k ↔ (g < 2 ^ k)
unfolding order
among-order k {g} = (
  λ m. let (j, _, q) = (among-flat _ (down_from (suc k))).0 m in ((among-size k j).0 q).0,
  λ l. let h = size_below k g l in (among-flat _ (down_from (suc k))).1 (size g, (among-down_from (suc k)).1 (omega arith), (among-size k (size g)).1 (l, refl)),
)

pub order_sorted : (k : ℕ) → Pairwise Before (order k)
unfolding order
order_sorted k =
    pairwise_flat Before (λ i j. j < i) _ (down_from (suc k)) (down_from_falling (suc k))
    (λ j. pairwise_map (keep (λ g. eqb (size g) j) (up_to (2 ^ k)))
    (λ g h m n l. let p = (among-size k j).0 m in let q = (among-size k j).0 n in inr (p.1 ∙ sym q.1, l))
    (pairwise_keep _ _ (up_to (2 ^ k)) (up_to_rising (2 ^ k))))
    (λ i j g h l m n. let p = (among-size k i).0 m in let q = (among-size k j).0 n in inl (omega arith))

pub order_enumerates : (k : ℕ) → Enumerates k (order k)
order_enumerates k = sorted_enumerates k (order k) (order_sorted k) (λ g. among-order k)

pub order_long : (k : ℕ) → length (order k) ≡ 2 ^ k
order_long k = enumerates_long k (order k) (order_enumerates k)

-- any list in this order that has the guesses of k negations is the order
pub order-only : (k : ℕ) (l : List ℕ) → Pairwise Before l → ((g : ℕ) → (g among l) ↔ (g < 2 ^ k)) → l ≡ order k
order-only k l p f =
    sorted_same Before before_strict l (order k) p (order_sorted k) (λ g. (λ m. (among-order k).1 ((f g).0 m), λ m. (f g).1 ((among-order k).0 m)))

-- a list is the order exactly when it is 2^k guesses of k negations in this order
pub order-counted : (k : ℕ) (l : List ℕ) → ((length l ≡ 2 ^ k) × (Below k l × Pairwise Before l)) ↔ (l ≡ order k)
order-counted k l = (
  λ (n, (b, p)). let en = counted_enumerates k l n b (sorted_once l p) (sorted_larger_first l p) in order-only k l p (λ g. (b g, en.all g)),
  λ e. subst (λ z. (length z ≡ 2 ^ k) × (Below k z × Pairwise Before z)) (sym e) (order_long k, ((order_enumerates k).below, order_sorted k)),
)

-- "for smaller k its members below 2^k are taken"
pub order-members : (j k : ℕ) → j ≤ k → members_below j (order k) ≡ order j
order-members j k h =
    let en = enumerates_members j k h (order k) (order_enumerates k) in
    order-only j (members_below j (order k)) (pairwise_keep _ _ (order k) (order_sorted k)) (λ g. (en.below g, en.all g))
