-- "T and F are the least sets of atoms closed under these rules": the pair that the steps reach is closed, and within every closed pair.
-- Assumes nothing.
use Prim.Native.Nat.{ℕ, zero, suc, ◌+◌, ◌*◌, ◌^◌, ◌≤◌, ◌<◌, zero-le}
use Rattle.std.specs.Prelude.{◌≡◌, List, ◌↔◌, ◌⊎◌}
use Rattle.std.proofs.Math.Path.{sym}
use Rattle.std.proofs.Common.{ap, subst, inl, arith}
use Rattle.std.proofs.Math.Logic.{inr, ⊎_elim}
use Rattle.std.proofs.Math.Pow.{pow_pos}
use Rattle.sets.specs.Decides.{Decides, decided, dec_iff, dec_and, dec_or, dec_imp, dec_eq}
use Rattle.sets.specs.Lists.{dec_every, dec_some}
use Rattle.sets.specs.Sets.{◌∈◌, ◌⊆?◌, ◌∪◌, single, size}
use Rattle.sets.specs.Members.{dec_∈, ∈_below, ∈-∪, ⊆_trans, ⊆_antisym, ∅-⊆, dec_⊆, dec_meets, meets-⊆, ∈-single, set_of_below, ∈_set_of_dec}
use Rattle.sets.specs.Size.{size_below, size-⊆, size-⊂}
use Rattle.semantics.specs.Definitions.Rules.{Rule}
use Rattle.semantics.specs.Definitions.Propagation.{Pair, sure, dead, enters_t, enters_f, step, steps, propagated}
use Rattle.semantics.specs.Theorems.Closure.{Sure, Dead, OthersOut, EntersT, EntersF, Closed, Within, LeastClosed}

-- ---- and their tests
pub dec_sure : (x : Pair) (r : Rule) → Decides (Sure x r) (sure x r)
dec_sure x r =
    dec_iff (λ q. (q.0.0, q.0.1, q.1), λ q. ((q.0, q.1), q.2))
    (dec_and (dec_and (dec_⊆ r.plain x.T) (dec_⊆ r.not_nots x.T)) (dec_⊆ r.nots x.F))

pub dec_dead : (x : Pair) (r : Rule) → Decides (Dead x r) (dead x r)
dec_dead x r = dec_or (dec_or (dec_meets r.plain x.F) (dec_meets r.not_nots x.F)) (dec_meets r.nots x.T)

pub dec_others : (x : Pair) (r : Rule) (a : ℕ) → Decides (OthersOut x r a) (r.head ⊆? single a ∪ x.F)
dec_others x r a =
    dec_iff (
      λ s b h n. ⊎_elim (λ q. absurd (n ((∈-single b a).0 q))) (λ q. q) ((∈-∪ b (single a) x.F).0 (s.into h)),
      λ f. record { into = λ {a = b} h. (∈-∪ b (single a) x.F).1 (⊎_elim (λ e. inl ((∈-single b a).1 e)) (λ n. inr (f b h n)) (decided (dec_eq b a))) },
    ) (dec_⊆ r.head (single a ∪ x.F))

pub dec_enters_t : (p : List Rule) (x : Pair) (a : ℕ) → Decides (EntersT p x a) (enters_t p x a)
dec_enters_t p x a =
    dec_iff (λ q. (q.0, q.1, q.2.0.0, q.2.0.1, q.2.1), λ q. (q.0, q.1, ((q.2, q.3), q.4)))
    (dec_some _ _ p (λ r _. dec_and (dec_and (dec_∈ a r.head) (dec_sure x r)) (dec_others x r a)))

pub dec_enters_f : (p : List Rule) (x : Pair) (a : ℕ) → Decides (EntersF p x a) (enters_f p x a)
dec_enters_f p x a = dec_every _ _ p (λ r _. dec_imp (dec_∈ a r.head) (dec_dead x r))

-- ---- with more in T and F, what was sure, dead or entering still is
module _ {x y : Pair} (w : Within x y) where
  pub sure-more : (r : Rule) → Sure x r → Sure y r
  sure-more r s = (⊆_trans s.0 w.in_t, ⊆_trans s.1 w.in_t, ⊆_trans s.2 w.in_f)

  pub dead-more : (r : Rule) → Dead x r → Dead y r
  dead-more r (inl (inl m)) = inl (inl (meets-⊆ m w.in_f))
  dead-more r (inl (inr m)) = inl (inr (meets-⊆ m w.in_f))
  dead-more r (inr m) = inr (meets-⊆ m w.in_t)

  pub enters_t_more : {p : List Rule} {a : ℕ} → EntersT p x a → EntersT p y a
  enters_t_more e = (e.0, e.1, e.2, sure-more e.0 e.3, λ b h n. w.in_f.into (e.4 b h n))

  pub enters_f_more : {p : List Rule} {a : ℕ} → EntersF p x a → EntersF p y a
  enters_f_more e r m h = dead-more r (e r m h)

module _ (n : ℕ) (p : List Rule) where
  -- ---- a step adds what enters
  pub step_t : (x : Pair) {a : ℕ} → a ∈ (step n p x).T ↔ ((a < n) × ((a ∈ x.T) ⊎ EntersT p x a))
  step_t x = ∈_set_of_dec (λ a. (a ∈ x.T) ⊎ EntersT p x a) _ (λ a. dec_or (dec_∈ a x.T) (dec_enters_t p x a)) n

  pub step_f : (x : Pair) {a : ℕ} → a ∈ (step n p x).F ↔ ((a < n) × ((a ∈ x.F) ⊎ EntersF p x a))
  step_f x = ∈_set_of_dec (λ a. (a ∈ x.F) ⊎ EntersF p x a) _ (λ a. dec_or (dec_∈ a x.F) (dec_enters_f p x a)) n

  -- every stage is within every closed pair
  stage_within : {y : Pair} → Closed n p y → (i : ℕ) → Within (steps n p i) y
  unfolding steps
  stage_within c zero = record { in_t = ∅-⊆; in_f = ∅-⊆ }
  stage_within c (suc i) =
      let w = stage_within c i in
      let x = steps n p i in
      record {
        in_t = record { into = λ {a} m. let (l, e) = (step_t x).0 m in ⊎_elim (λ q. w.in_t.into q) (λ q. c.has_t l (enters_t_more w q)) e };
        in_f = record { into = λ {a} m. let (l, e) = (step_f x).0 m in ⊎_elim (λ q. w.in_f.into q) (λ q. c.has_f l (enters_f_more w q)) e };
      }

  -- ---- the stages grow until a step changes nothing
  abbrev Fixed : Pair → Type 0
  Fixed x = (x.T ≡ (step n p x).T) × (x.F ≡ (step n p x).F)

  fixed_closed : {x : Pair} → Fixed x → Closed n p x
  fixed_closed {x} e = record {
    has_t = λ {a} l q. subst (λ z. a ∈ z) (sym e.0) ((step_t x).1 (l, inr q));
    has_f = λ {a} l q. subst (λ z. a ∈ z) (sym e.1) ((step_f x).1 (l, inr q));
  }

  fixed_next : (x : Pair) → Fixed x → Fixed (step n p x)
  fixed_next x e = (ap (λ y. (step n p y).T) same, ap (λ y. (step n p y).F) same)
    where
      same : x ≡ step n p x
      same i = record { T = e.0 i; F = e.1 i }

  fixed_or_not : (x : Pair) → Fixed x ⊎ (Fixed x → ⊥)
  fixed_or_not x = decided (dec_and (dec_eq x.T (step n p x).T) (dec_eq x.F (step n p x).F))

  pub stage_below : (i : ℕ) → ((steps n p i).T < 2 ^ n) × ((steps n p i).F < 2 ^ n)
  unfolding steps
  stage_below zero = (pow_pos n, pow_pos n)
  stage_below (suc i) = (set_of_below _ n, set_of_below _ n)

  measure : Pair → ℕ
  measure x = size x.T + size x.F

  pub grows : (x : Pair) → x.T < 2 ^ n → x.F < 2 ^ n → Within x (step n p x)
  grows x t f = record {
    in_t = record { into = λ {a} m. (step_t x).1 (∈_below t m, inl m) };
    in_f = record { into = λ {a} m. (step_f x).1 (∈_below f m, inl m) };
  }

  grows_more : (x : Pair) → Within x (step n p x) → (Fixed x → ⊥) → measure x < measure (step n p x)
  unfolding measure
  grows_more x w ne =
      let t = size-⊆ w.in_t in
      let f = size-⊆ w.in_f in
      ⊎_elim
      (λ e. ⊎_elim (λ e'. absurd (ne (e, e'))) (λ n'. let h = size-⊂ (record { within = w.in_f; differ = n' }) in omega arith) (decided (dec_eq x.F (step n p x).F)))
      (λ n'. let h = size-⊂ (record { within = w.in_t; differ = n' }) in omega arith)
      (decided (dec_eq x.T (step n p x).T))

  fixed_or_large : (i : ℕ) → Fixed (steps n p i) ⊎ (i ≤ measure (steps n p i))
  unfolding steps
  fixed_or_large zero = inr zero-le
  fixed_or_large (suc i) = next (fixed_or_large i)
    where
      x : Pair
      x = steps n p i

      next : Fixed x ⊎ (i ≤ measure x) → Fixed (step n p x) ⊎ (suc i ≤ measure (step n p x))
      next (inl f) = inl (fixed_next x f)
      next (inr l) =
          let (t, f) = stage_below i in
          ⊎_elim (λ e. inl (fixed_next x e)) (λ ne. let h = grows_more x (grows x t f) ne in inr (omega arith)) (fixed_or_not x)

  fixed : Fixed (propagated n p)
  unfolding measure steps
  fixed = ⊎_elim (λ f. f) (λ l. ⊎_elim (λ f. f) (λ ne. absurd (too_large l ne)) (fixed_or_not x)) (fixed_or_large (2 * n))
    where
      x : Pair
      x = propagated n p

      too_large : 2 * n ≤ measure x → (Fixed x → ⊥) → ⊥
      too_large l ne =
          let (t, f) = stage_below (2 * n) in
          let h = grows_more x (grows x t f) ne in
          omega (arith, size_below n (step n p x).T (set_of_below _ n), size_below n (step n p x).F (set_of_below _ n))

  -- ---- closed, and least
  pub propagated_closed : Closed n p (propagated n p)
  propagated_closed = fixed_closed fixed

  pub propagated-least : {y : Pair} → Closed n p y → Within (propagated n p) y
  propagated-least c = stage_within c (2 * n)

  pub propagated_is : LeastClosed n p (propagated n p)
  propagated_is = record { closed = propagated_closed; least = propagated-least }

  -- and no other pair is: additions in any order lead there
  pub least-only : {x : Pair} → LeastClosed n p x → x ≡ propagated n p
  least-only {x} l =
      let w = l.least propagated_closed in
      let v = propagated-least l.closed in
      let t : x.T ≡ (propagated n p).T = ⊆_antisym w.in_t v.in_t in
      let f : x.F ≡ (propagated n p).F = ⊆_antisym w.in_f v.in_f in
      λ i. record { T = t i; F = f i }

  -- so a stage that a step leaves as it is is that pair
  pub stage_fixed : (i : ℕ) → (steps n p (suc i)).T ≡ (steps n p i).T → (steps n p (suc i)).F ≡ (steps n p i).F → steps n p i ≡ propagated n p
  unfolding steps
  stage_fixed i t f = least-only (record { closed = fixed_closed (sym t, sym f); least = λ c. stage_within c i })
