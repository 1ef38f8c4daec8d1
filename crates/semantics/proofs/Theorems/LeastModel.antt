-- Document 02, K6: the least model grown is closed under the rules and within every set that is. Assumes nothing.
use Prim.Native.Nat.{ℕ, zero, suc, ◌≤◌, ◌<◌, zero-le}
use Rattle.std.specs.Prelude.{◌≡◌, refl, Bool, List, map, ◌↔◌, ◌⊎◌}
use Rattle.std.proofs.Common.{sym, ap, subst, inl, arith}
use Rattle.std.proofs.Math.Logic.{inr, ⊎_elim}
use Rattle.sets.specs.Decides.{decided, is_true, dec_eq}
use Rattle.sets.specs.Lists.{◌among◌, keep, among-keep, among-map}
use Rattle.sets.specs.Sets.{◌∈◌, ◌⊆◌, ◌⊆?◌, ◌∪◌, size}
use Rattle.sets.specs.Members.{∈-∪, ∈-⋃, ∪-⊆, ⊆_trans, ⊆_antisym, ∅-⊆, dec_⊆}
use Rattle.sets.specs.Size.{size-⊆, size-⊂}
use Rattle.semantics.specs.Definitions.Rules.{Rule}
use Rattle.semantics.specs.Definitions.LeastModel.{heads_of, entered, grown, least_model}
use Rattle.semantics.specs.Theorems.LeastModel.{Closed, Least}

-- an atom of the heads, and one that enters by x
pub ∈-heads_of : (p : List Rule) {a : ℕ} → a ∈ heads_of p ↔ ((r : Rule) × (r among p) × (a ∈ r.head))
∈-heads_of p {a} = (
  λ m.
      let (h, k, i) = (∈-⋃ a (map (λ r. r.head) p)).0 m in
      let (r, l, e) = (among-map (λ r. r.head) p).0 k in
      (r, l, subst (λ z. a ∈ z) e i),
  λ (r, l, i). (∈-⋃ a (map (λ r. r.head) p)).1 (r.head, (among-map (λ r. r.head) p).1 (r, l, refl), i),
)

pub ∈-entered : (p : List Rule) (x : ℕ) {a : ℕ} → a ∈ entered p x ↔ ((r : Rule) × (r among p) × (r.plain ⊆ x) × (a ∈ r.head))
∈-entered p x =
    let enters : Rule → Bool = λ r. r.plain ⊆? x in (
      λ m.
          let (r, k, i) = (∈-heads_of (keep enters p)).0 m in
          let (l, t) = (among-keep enters p).0 k in
          (r, l, (dec_⊆ r.plain x).yes t, i),
      λ (r, l, s, i). (∈-heads_of (keep enters p)).1 (r, (among-keep enters p).1 (l, is_true (dec_⊆ r.plain x) s), i),
    )

module _ (p : List Rule) where
  -- closed is where nothing enters that is not there
  pub closed_exactly : {x : ℕ} → Closed p x ↔ (entered p x ⊆ x)
  closed_exactly {x} = (
    λ c. record { into = λ m. let (r, l, s, i) = (∈-entered p x).0 m in (c r l s).into i },
    λ w r l s. record { into = λ i. w.into ((∈-entered p x).1 (r, l, s, i)) },
  )

  -- with more, what entered still does
  entered-more : {x y : ℕ} → x ⊆ y → entered p x ⊆ entered p y
  entered-more {x} {y} w = record { into = λ m. let (r, l, s, i) = (∈-entered p x).0 m in (∈-entered p y).1 (r, l, ⊆_trans s w, i) }

  entered_heads : (x : ℕ) → entered p x ⊆ heads_of p
  entered_heads x = record { into = λ m. let (r, l, s, i) = (∈-entered p x).0 m in (∈-heads_of p).1 (r, l, i) }

  -- ---- every stage is within every closed set, and within the heads
  pub stage_within : {y : ℕ} → Closed p y → (n : ℕ) → grown p n ⊆ y
  unfolding grown
  stage_within c zero = ∅-⊆
  stage_within {y} c (suc n) =
      let x = grown p n in
      let w = stage_within c n in
      (∪-⊆ x (entered p x) y).1 (w, ⊆_trans (entered-more w) (closed_exactly.0 c))

  stage_heads : (n : ℕ) → grown p n ⊆ heads_of p
  unfolding grown
  stage_heads zero = ∅-⊆
  stage_heads (suc n) = let x = grown p n in (∪-⊆ x (entered p x) (heads_of p)).1 (stage_heads n, entered_heads x)

  -- ---- the stages grow until a step adds nothing
  abbrev step : ℕ → ℕ
  step x = x ∪ entered p x

  abbrev Fixed : ℕ → Type 0
  Fixed x = x ≡ step x

  fixed_closed : {x : ℕ} → Fixed x → Closed p x
  fixed_closed {x} e = closed_exactly.1 (record { into = λ {a} m. subst (λ z. a ∈ z) (sym e) ((∈-∪ a x (entered p x)).1 (inr m)) })

  grows_more : (x : ℕ) → (Fixed x → ⊥) → size x < size (step x)
  grows_more x ne = size-⊂ (record { within = record { into = λ {a} m. (∈-∪ a x (entered p x)).1 (inl m) }; differ = ne })

  fixed_or_large : (n : ℕ) → Fixed (grown p n) ⊎ (n ≤ size (grown p n))
  unfolding grown
  fixed_or_large zero = inr zero-le
  fixed_or_large (suc n) = next (fixed_or_large n)
    where
      x : ℕ
      x = grown p n

      next : Fixed x ⊎ (n ≤ size x) → Fixed (step x) ⊎ (suc n ≤ size (step x))
      next (inl e) = inl (ap step e)
      next (inr l) = ⊎_elim (λ e. inl (ap step e)) (λ ne. let h = grows_more x ne in inr (omega arith)) (decided (dec_eq x (step x)))

  fixed : Fixed (least_model p)
  unfolding grown
  fixed = ⊎_elim (λ e. e) (λ l. ⊎_elim (λ e. e) (λ ne. absurd (too_large l ne)) (decided (dec_eq x (step x)))) (fixed_or_large n)
    where
      n : ℕ
      n = size (heads_of p)

      x : ℕ
      x = least_model p

      too_large : n ≤ size x → (Fixed x → ⊥) → ⊥
      too_large l ne =
          let h = grows_more x ne in
          let most = size-⊆ (stage_heads (suc n)) in
          omega arith

  -- ---- closed, and least
  pub least_is : Least p (least_model p)
  least_is = record { closed = fixed_closed fixed; least = λ c. stage_within c (size (heads_of p)) }

-- and no other set is: additions in any order lead there
pub least-only : {p : List Rule} {l : ℕ} → Least p l → l ≡ least_model p
least-only {p} {l} h = ⊆_antisym (h.least (least_is p).closed) ((least_is p).least h.closed)
