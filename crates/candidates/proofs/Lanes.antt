-- The lanes of a word, rule by rule and atom by atom. Assumes nothing.
use Prim.Native.Nat.{ℕ, ◌+◌, ◌-◌, ◌*◌, ◌<◌}
use mathlib.Core.Path.{◌≡◌, refl, sym, ap, ◌∙◌, subst}
use mathlib.Core.List.{List}
use mathlib.Core.Logic.{inl, inr, ⊎_elim}
use native.Mathlib.Omega.{arith}
use native.Mathlib.Nat.{not-suc-le-zero}
use lib.ListN.{length, get_or, set}
use lib.Seq.{get_or-set_same, get_or-set_other}
use borrow.Author.Count.{below_more}
use Rattle.sets.specs.Decides.{decided, dec_eq}
use Rattle.sets.specs.Sets.{◌∈◌, ◌⊆◌, ◌∩◌, ◌∪◌, ◌∖◌, ∅, single}
use Rattle.sets.specs.Members.{dec_∈, ∈-∅, ∈-∪, ∈-∖, ∈-single}
use Rattle.sets.specs.Least.{First}
use Rattle.lanes.specs.Lanes.{Lanes, lanes_self, lanes_iff, lanes_minus}
use Rattle.lanes.specs.Cube.{InCube, having}
use Rattle.gather.specs.declared.digest.Digest.{Digest}
use Rattle.gather.specs.Digests.{digest_in}
use Rattle.candidates.specs.Rules.{Supports, NoneFails, SupportAdded, SupportsIn, Supported}

-- ---- the lanes in which none of the first n rules fails
module _ (digests : List Digest) (w x : ℕ) where
  abbrev pub Left : (n left : ℕ) → Type 0
  Left n left = Lanes (λ b. (b ∈ x) × NoneFails digests n (64 * w + b)) left

  pub none_yet : Left 0 x
  none_yet = lanes_iff (λ b l. (λ m. (m, record { rule = λ j k. absurd (not-suc-le-zero k) }), λ p. p.0)) lanes_self

  -- one rule more: one without K and M, or another
  module _ (n : ℕ) {left : ℕ} (p : Left n left) where
    abbrev d : Digest
    d = digest_in digests n

    pub rule_struck : {y : ℕ} → d.barred ∪ d.asked ≡ ∅ → Lanes (λ b. InCube (d.nots ∪ d.head) d.body (64 * w + b)) y → Left (n + 1) (left ∖ y)
    rule_struck e c =
        lanes_iff (λ b l. (
          λ q. (q.0.0, record { rule = below_more _ n q.0.1.rule (λ f. q.1 f.fails) }),
          λ q. ((q.0, record { rule = λ j k. q.1.rule j (omega arith) }), λ f. q.1.rule n (omega arith) (record { objective = e; fails = f })),
        )) (lanes_minus p c)

    pub rule-passed : (d.barred ∪ d.asked ≡ ∅ → ⊥) → Left (n + 1) left
    rule-passed e =
        lanes_iff (λ b l. (
          λ q. (q.0, record { rule = below_more _ n q.1.rule (λ f. e f.objective) }),
          λ q. (q.0, record { rule = λ j k. q.1.rule j (omega arith) }),
        )) p

-- ---- the atoms that one rule supports: all but the rest are done
module _ (d : Digest) (w : ℕ) (by : List ℕ) where
  pub record AddedBut (rest : ℕ) (after : List ℕ) : Type 0 where
    pub kept : (a : ℕ) {b : ℕ} → b ∈ get_or by a 0 → b ∈ get_or after a 0
    pub added : {a b : ℕ} → b < 64 → (a ∈ rest → ⊥) → Supports d (64 * w + b) a → b ∈ get_or after a 0

  pub none-added : {rest : ℕ} → rest ≡ d.head ∖ d.plain → AddedBut rest by
  none-added e = record { kept = λ a m. m; added = λ {a} l f s. absurd (f (subst (λ z. a ∈ z) (sym e) s.atom)) }

  pub atom_added : {rest a one others x : ℕ} {after : List ℕ} → AddedBut rest after → First rest a → a < length after → one ≡ single a → others ≡ d.head ∖ one
      → Lanes (λ b. InCube (d.nots ∪ others) (d.body ∪ d.plain ∪ one) (64 * w + b)) x → AddedBut (rest ∩ (rest - 1)) (set after a (get_or after a 0 ∪ x))
  atom_added {rest} {a} {one} {others} {x} {after} s f h e q c = record {
    kept = λ k m. more k (s.kept k m);
    added = λ {a = k} {b} l o u.
        ⊎_elim (λ z. subst (λ y. b ∈ y) (sym (at k z)) ((∈-∪ b (get_or after a 0) x).1 (inr ((c.lane l).1 (rw (q, e ∙ ap single (sym z)) u.alone)))))
        (λ z. more k (s.added l (λ m. o (rw f.others ((∈-∖ k rest (single a)).1 (m, λ y. z ((∈-single k a).0 y))))) u)) (decided (dec_eq k a));
  }
    where
      at : (k : ℕ) → k ≡ a → get_or (set after a (get_or after a 0 ∪ x)) k 0 ≡ get_or after a 0 ∪ x
      at k z = rw z (get_or-set_same after a _ 0 h)

      more : (k : ℕ) {b : ℕ} → b ∈ get_or after k 0 → b ∈ get_or (set after a (get_or after a 0 ∪ x)) k 0
      more k {b} m =
          ⊎_elim (λ z. subst (λ y. b ∈ y) (sym (at k z)) ((∈-∪ b (get_or after a 0) x).1 (inl (rw z at m))))
          (λ z. subst (λ y. b ∈ y) (sym (get_or-set_other after a k _ 0 z)) m) (decided (dec_eq k a))

  pub all_added : {rest : ℕ} {after : List ℕ} → rest ≡ 0 → AddedBut rest after → SupportAdded d w by after
  all_added e s = record { kept = s.kept; added = λ {a} l u. s.added l (λ m. ∈-∅ (subst (λ z. a ∈ z) e m)) u }

-- ---- those that the first n rules support
pub none_in : (digests : List Digest) (w : ℕ) (by : List ℕ) → SupportsIn digests 0 w by
none_in digests w by = record { rule = λ k. absurd (not-suc-le-zero k) }

pub rule_in_lem : {digests : List Digest} {n w : ℕ} {by after : List ℕ} → SupportsIn digests n w by → SupportAdded (digest_in digests n) w by after
    → SupportsIn digests (n + 1) w after
rule_in_lem {digests} {n} {w} {after = after} s t = record {
  rule = λ {j} {a} {b} k l u.
      ⊎_elim (λ z. t.added l (subst (λ y. Supports y (64 * w + b) a) (ap (digest_in digests) z) u)) (λ z. t.kept a (s.rule (omega arith) l u)) (decided (dec_eq j n));
}

-- ---- the lanes in which the first n atoms are supported
module _ (by : List ℕ) (w x : ℕ) where
  abbrev pub With : (n left : ℕ) → Type 0
  With n left = Lanes (λ b. (b ∈ x) × Supported by n (64 * w + b) b) left

  pub none_with : With 0 x
  none_with = lanes_iff (λ b l. (λ m. (m, record { atom = λ a k. absurd (not-suc-le-zero k) }), λ p. p.0)) lanes_self

  pub atom_with : (n : ℕ) {left one y : ℕ} → With n left → one ≡ single n → Lanes (λ b. InCube ∅ one (64 * w + b)) y → With (n + 1) (left ∖ (y ∖ get_or by n 0))
  atom_with n {one = one} p e c =
      lanes_iff (λ b l. (
        λ q. (
          q.0.0,
          record {
            atom = below_more _ n q.0.1.atom (λ m. ⊎_elim (λ h. h) (λ h. absurd (q.1 (has b m, h))) (decided (dec_∈ b (get_or by n 0))));
          },
        ),
        λ q. ((q.0, record { atom = λ a k. q.1.atom a (omega arith) }), λ u. u.1 (q.1.atom n (omega arith) (u.0.into (rw e ((∈-single n n).1 refl))))),
      )) (lanes_minus p (lanes_minus (having one w c) lanes_self))
    where
      has : (b : ℕ) → n ∈ 64 * w + b → one ⊆ 64 * w + b
      has b m = rw e (record { into = λ {a} h. subst (λ z. z ∈ 64 * w + b) (sym ((∈-single a n).0 h)) m })
