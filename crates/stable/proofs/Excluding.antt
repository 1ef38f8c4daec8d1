-- What a nogood is made of. Assumes nothing.
use Prim.Native.Nat.{ℕ, ◌+◌, ◌*◌, ◌<◌}
use mathlib.Core.Path.{◌≡◌, refl, sym, subst}
use mathlib.Core.Bool.{Bool, true, false, not, ◌||◌}
use mathlib.Core.List.{List}
use mathlib.Core.Logic.{inl, inr, ⊎_elim}
use native.Mathlib.Nat.{eq-zero-or-pos}
use native.Mathlib.Omega.{arith}
use lib.ListN.{get_or}
use Rattle.sets.specs.Decides.{decided, dec_imp}
use Rattle.sets.specs.Lists.{◌among◌, up_to, among-map, among-up_to}
use Rattle.sets.specs.Sets.{◌∈◌, ◌⊆◌, ◌⊂◌, Meets, ◌meets?◌, ◌∩◌, ◌∪◌, ◌∖◌, ∅, single}
use Rattle.sets.specs.Members.{some-member, ∈-∅, ∈-∩, ∈-∖, ∈-single, dec_∈, dec_meets, ⊆_refl, ⊆_antisym, ∪-⊆, meets-⊆, ⊆_∪_left, ⊆_∪_right}
use Rattle.sets.specs.One.{OneOf}
use Rattle.semantics.specs.Definitions.Rules.{Rule}
use Rattle.semantics.specs.Words.{rule_in, program_in}
use Rattle.semantics.specs.Definitions.Day.{allowed}
use Rattle.semantics.proofs.Theorems.Day.{dec_allowed}
use Rattle.stable.specs.Nogoods.{Blocked, Blocks, SatisfiedIn}

-- no member is left
none_left : {a x : ℕ} → x ≡ ∅ → a ∈ x → ⊥
none_left {a} e m = ∈-∅ (subst (λ z. a ∈ z) e m)

all_in : (x y : ℕ) → x ∖ y ≡ ∅ → x ⊆ y
all_in x y e = record { into = λ {a} m. ⊎_elim (λ k. k) (λ n. absurd (none_left e ((∈-∖ a x y).1 (m, n)))) (decided (dec_∈ a y)) }

some_in : {x y : ℕ} → Meets x y → 0 < x ∩ y
some_in {x} {y} m = ⊎_elim (λ e. absurd (none_left e ((∈-∩ m.common x y).1 (m.left, m.right)))) (λ l. l) (eq-zero-or-pos (x ∩ y))

-- an atom that is one of x
meets-one : {h x w : ℕ} (a : ℕ) → a ∈ h → w ≡ single a → w ⊆ x → Meets h x
meets-one a m e s = record { common = a; left = m; right = s.into (subst (λ z. a ∈ z) (sym e) ((∈-single a a).1 refl)) }

-- ---- the masks: where no in-atom is missing, an out-atom is there
pub out_atom : (ins outs i : ℕ) → allowed ins outs i ≡ false → ins ∖ i ≡ 0 → 0 < outs ∩ i
out_atom ins outs i f e =
    ⊎_elim
    (λ z. absurd ((dec_allowed ins outs i).no f (all_in ins i e, λ q. none_left z ((∈-∩ q.common outs i).1 (q.left, q.right)))))
    (λ l. l)
    (eq-zero-or-pos (outs ∩ i))

-- ---- what blocks a rule
pub blocked_more : {x y x' y' : ℕ} (u : ℕ) (r : Rule) → x ⊆ x' → y ⊆ y' → Blocked x y u r → Blocked x' y' u r
blocked_more u r s t b h n = ⊎_elim (λ q. inl (⊎_elim (λ m. inl (meets-⊆ m t)) (λ m. inr (meets-⊆ m s)) q)) (λ m. inr (meets-⊆ m s)) (b h n)

module _ (r : Rule) (i s x y : ℕ) where
  pub idle : not (r.head meets? i ∖ s) || r.plain meets? i ∖ s ≡ true → Blocks r (i ∖ s) x y x y
  idle e = record {
    more-has = ⊆_refl;
    more_lacks = ⊆_refl;
    blocked = λ h n. absurd (n ((dec_imp (dec_meets r.head (i ∖ s)) (dec_meets r.plain (i ∖ s))).yes e h));
  }

  pub asks : {w : ℕ} → OneOf ((r.plain ∪ r.not_nots) ∖ i) w → Blocks r (i ∖ s) x y x (y ∪ w)
  asks {w} (a, m, e) = record {
    more-has = ⊆_refl;
    more_lacks = ⊆_∪_left y w;
    blocked = λ h n. inl (inl (meets-one a ((∈-∖ a (r.plain ∪ r.not_nots) i).0 m).0 e (⊆_∪_right y w)));
  }

  pub forbids : {w : ℕ} → OneOf (r.nots ∩ i) w → Blocks r (i ∖ s) x y (x ∪ w) y
  forbids {w} (a, m, e) = record {
    more-has = ⊆_∪_left x w;
    more_lacks = ⊆_refl;
    blocked = λ h n. inl (inr (meets-one a ((∈-∩ a r.nots i).0 m).0 e (⊆_∪_right x w)));
  }

  pub stays : {w : ℕ} → OneOf (r.head ∩ s) w → Blocks r (i ∖ s) x y (x ∪ w) y
  stays {w} (a, m, e) = record {
    more-has = ⊆_∪_left x w;
    more_lacks = ⊆_refl;
    blocked = λ h n.
        let (k, l) = (∈-∩ a r.head s).0 m in
        inr (meets-one a ((∈-∖ a r.head (i ∖ s)).1 (k, λ q. ((∈-∖ a i s).0 q).1 l)) e (⊆_∪_right x w));
  }

-- no other way is left: a head atom is in s
pub head_stays : (r : Rule) (i s : ℕ) → SatisfiedIn i s r → not (r.head meets? i ∖ s) || r.plain meets? i ∖ s ≡ false → (r.plain ∪ r.not_nots) ∖ i ≡ 0
    → r.nots ∩ i ≡ 0 → 0 < r.head ∩ s
head_stays r i s satisfied f asked forbidden =
    let body = all_in (r.plain ∪ r.not_nots) i asked in
    let (plain, not_nots) = (∪-⊆ r.plain r.not_nots i).0 body in
    let apart : Meets r.plain (i ∖ s) → ⊥ = λ q. (dec_imp (dec_meets r.head (i ∖ s)) (dec_meets r.plain (i ∖ s))).no f (λ _. q) in
    some_in (satisfied
    (plain, ((λ q. none_left forbidden ((∈-∩ q.common r.nots i).1 (q.left, q.right))), not_nots))
    (record { into = λ {a} m. ⊎_elim (λ k. k) (λ n. absurd (apart (record { common = a; left = m; right = (∈-∖ a i s).1 (plain.into m, n) }))) (decided (dec_∈ a s)) }))

-- the first test, by the words of the rule
pub first_test : (w : List ℕ) (j : ℕ) {u v : ℕ} {inside met : Bool} → u ≡ v → inside ≡ get_or w (4 * j + 1) 0 meets? u → met ≡ get_or w (4 * j) 0 meets? u
    → not ((rule_in w j).head meets? v) || (rule_in w j).plain meets? v ≡ not met || inside
first_test w j e d h =
    let z : 4 * j + 0 ≡ 4 * j = omega arith in
    rw (z, d, h, e)

-- a set has an atom beyond each smaller one
pub beyond : {s i : ℕ} → s ⊂ i → (a : ℕ) × (a ∈ i ∖ s)
beyond {s} {i} h =
    ⊎_elim (λ e. absurd (h.differ (⊆_antisym h.within (all_in i s e)))) (λ l. some-member (i ∖ s) l) (eq-zero-or-pos (i ∖ s))

-- every rule of a program in words
pub each-rule : (words : List ℕ) (n : ℕ) (P : Rule → Type 0) → ((k : ℕ) → k < n → P (rule_in words k)) → (r : Rule) → r among program_in words n → P r
unfolding program_in
each-rule words n P f r m = let (k, l, e) = (among-map (rule_in words) (up_to n)).0 m in subst P (sym e) (f k ((among-up_to n).0 l))

pub among-program : (words : List ℕ) (n k : ℕ) → k < n → rule_in words k among program_in words n
unfolding program_in
among-program words n k l = (among-map (rule_in words) (up_to n)).1 (k, (among-up_to n).1 l, refl)
