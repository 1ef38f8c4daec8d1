-- Words of numbers that agree on what decides which rules are on: what holds for one of them holds for all. Assumes nothing.
use Rattle.std.specs.Prelude.{ℕ, ◌+◌, ◌*◌, ◌/◌, ◌%◌, ◌<◌, ◌≡◌, List, ◌↔◌, ◌⊎◌, length, get_or, set}
use Rattle.std.proofs.Common.{sym, subst, inl, inr, ⊎_elim, arith, not-suc-le-zero, length-set, get_or-set_same, get_or-set_other, below_more}
use Rattle.sets.specs.Decides.{decided, dec_eq}
use Rattle.sets.specs.Sets.{◌∈◌, ◌⊆◌, ◌∩◌, ◌∪◌}
use Rattle.sets.specs.Members.{∈-∩, ∈-∪, ⊆_trans, ⊆_le, ∩_⊆_left, ⊆_∪_left, ⊆_∪_right}
use Rattle.sets.specs.Parts.{⊆_parts}
use Rattle.lanes.specs.declared.rule.Rule.{Rule}
use Rattle.lanes.specs.Rules.{rule_at}
use Rattle.lanes.specs.Lanes.{Lanes}
use Rattle.lanes.specs.Cube.{InCube, cube_parts}
use Rattle.lanes.specs.Planes.{◌in_plane◌, Plane}
use Rattle.lanes.specs.Stable.{SwitchedOn, StableFor}

-- the number that serves g: its lane, in the word that has of the word's members those in p
abbrev pub server : (p g : ℕ) → ℕ
server p g = 64 * (g / 64 ∩ p) + g % 64

-- ---- the members that decide which of the first n rules are on
pub record Relevant (rules : List Rule) (n x : ℕ) : Type 0 where
  pub rule : (r : ℕ) → r < n → ((rule_at rules r).misses ⊆ x) × ((rule_at rules r).holds ⊆ x)

pub relevant_none : (rules : List Rule) (x : ℕ) → Relevant rules 0 x
relevant_none rules x = record { rule = λ r k. absurd (not-suc-le-zero k) }

pub relevant_more : {rules : List Rule} {n x : ℕ} → Relevant rules n x
    → Relevant rules (n + 1) (x ∪ (rule_at rules n).misses ∪ (rule_at rules n).holds)
relevant_more {rules} {n} {x} q =
    let z = (rule_at rules n).misses in
    let o = (rule_at rules n).holds in record {
      rule = below_more _ n
          (λ r k. let (s, t) = q.rule r k in let up = ⊆_trans (⊆_∪_left x z) (⊆_∪_left (x ∪ z) o) in (⊆_trans s up, ⊆_trans t up))
          (⊆_trans (⊆_∪_right x z) (⊆_∪_left (x ∪ z) o), ⊆_∪_right (x ∪ z) o);
    }

-- ---- a number and the one that serves it
module _ (p w : ℕ) where
  -- of words that agree on p, which has the members that are asked for
  high : {z o : ℕ} → z ⊆ p → o ⊆ p → InCube z o w ↔ InCube z o (w ∩ p)
  high f h = (
    λ c. record {
      apart = λ m. c.apart (record { common = m.common; left = m.left; right = ((∈-∩ m.common w p).0 m.right).0 });
      within = record { into = λ {a} m. (∈-∩ a w p).1 (c.within.into m, h.into m) };
    },
    λ c. record {
      apart = λ m. c.apart (record { common = m.common; left = m.left; right = (∈-∩ m.common w p).1 (m.right, f.into m.left) });
      within = ⊆_trans c.within (∩_⊆_left w p);
    },
  )

  pub cube_shared : (z o b : ℕ) → b < 64 → z / 64 ⊆ p → o / 64 ⊆ p → InCube z o (64 * w + b) ↔ InCube z o (64 * (w ∩ p) + b)
  cube_shared z o b l f h =
      let x = cube_parts z o w b l in
      let y = cube_parts z o (w ∩ p) b l in
      let u = high f h in
      (λ c. let (s, t) = x.0 c in y.1 (u.0 s, t), λ c. let (s, t) = y.0 c in x.1 (u.1 s, t))

-- the rules say the same of two numbers for which the same are on
stable-same : {rules : List Rule} {n i g h : ℕ} → ((r : ℕ) → r < n → SwitchedOn rules r g ↔ SwitchedOn rules r h) → StableFor rules n i g → StableFor rules n i h
stable-same f t = record {
  model = record { rule = λ r k e o. t.model.rule r k e ((f r k).1 o) };
  minimal = λ j l m. t.minimal j l (λ r k o. m r k ((f r k).0 o));
}

pub stable-shared : {rules : List Rule} {n x p : ℕ} → Relevant rules n x → p ≡ x / 64 → (i g : ℕ) → StableFor rules n i g ↔ StableFor rules n i (server p g)
stable-shared {rules} {n} {x} {p} q e i g =
    let f = on in
    (stable-same f, stable-same (λ r k. ((f r k).1, (f r k).0)))
  where
    part : {z : ℕ} → z ⊆ x → z / 64 ⊆ p
    part {z} s = subst (λ y. z / 64 ⊆ y) (sym e) ((⊆_parts 6 z x).0 s).0

    on : (r : ℕ) → r < n → SwitchedOn rules r g ↔ SwitchedOn rules r (server p g)
    on r k =
        let (s, t) = q.rule r k in
        let same : 64 * (g / 64) + g % 64 ≡ g = omega arith in
        subst (λ y. SwitchedOn rules r y ↔ SwitchedOn rules r (server p g)) same (cube_shared p (g / 64) _ _ (g % 64) (omega arith) (part s) (part t))

-- ---- a plane that has, for each number of another, the one that serves it
pub record SharedUntil (p w : ℕ) (active any : List ℕ) : Type 0 where
  pub number : {g : ℕ} → g / 64 < w → g in_plane active → server p g in_plane any

pub shared-none : (p : ℕ) (active any : List ℕ) → SharedUntil p 0 active any
shared-none p active any = record { number = λ k. absurd (not-suc-le-zero k) }

at_served : (p g : ℕ) {l : List ℕ} → g % 64 ∈ get_or l (g / 64 ∩ p) 0 → server p g in_plane l
at_served p g {l} m =
    let q : server p g / 64 ≡ g / 64 ∩ p = omega arith in
    let r : server p g % 64 ≡ g % 64 = omega arith in
    record { held = rw (q, r) m }

of_served : (p g : ℕ) {l : List ℕ} → server p g in_plane l → g % 64 ∈ get_or l (g / 64 ∩ p) 0
of_served p g {l} m =
    let q : server p g / 64 ≡ g / 64 ∩ p = omega arith in
    let r : server p g % 64 ≡ g % 64 = omega arith in
    rw (q, r) at m.held

module _ (p w : ℕ) (active any : List ℕ) where
  abbrev cleared : List ℕ
  cleared = set any w 0

  abbrev added : List ℕ
  added = set cleared (w ∩ p) (get_or cleared (w ∩ p) 0 ∪ get_or active w 0)

  pub shared-more : w < length any → SharedUntil p w active any → SharedUntil p (w + 1) active added
  shared-more h s = record {
    number = λ {g} k m. at_served p g (
        ⊎_elim (λ e. subst (λ v. g % 64 ∈ get_or added (v ∩ p) 0) (sym e) (here (g % 64) (inr (subst (λ v. g % 64 ∈ get_or active v 0) e m.held))))
        (λ e. before g (omega arith) (of_served p g (s.number {g = g} (omega arith) m))) (decided (dec_eq (g / 64) w)));
  }
    where
      low : w ∩ p < length cleared
      low = simp length-set (omega (arith, ⊆_le (∩_⊆_left w p)))

      here : (b : ℕ) → (b ∈ get_or cleared (w ∩ p) 0) ⊎ (b ∈ get_or active w 0) → b ∈ get_or added (w ∩ p) 0
      here b q = subst (λ z. b ∈ z) (sym (get_or-set_same cleared (w ∩ p) _ 0 low)) ((∈-∪ b (get_or cleared (w ∩ p) 0) (get_or active w 0)).1 q)

      before : (g : ℕ) → g / 64 < w → g % 64 ∈ get_or any (g / 64 ∩ p) 0 → g % 64 ∈ get_or added (g / 64 ∩ p) 0
      before g k m =
          let n : g / 64 ∩ p ≡ w → ⊥ = λ e. absurd (omega (arith, ⊆_le (∩_⊆_left (g / 64) p))) in
          let old = subst (λ z. g % 64 ∈ z) (sym (get_or-set_other any w (g / 64 ∩ p) 0 0 n)) m in
          ⊎_elim (λ e. subst (λ v. g % 64 ∈ get_or added v 0) (sym e) (here (g % 64) (inl (subst (λ v. g % 64 ∈ get_or cleared v 0) e old))))
          (λ e. subst (λ z. g % 64 ∈ z) (sym (get_or-set_other cleared (w ∩ p) (g / 64 ∩ p) _ 0 e)) old) (decided (dec_eq (g / 64 ∩ p) (w ∩ p)))

-- ---- of the numbers of the plane `active` i is stable for those whose servers are found
pub found-shared : {rules : List Rule} {active any stable : List ℕ} {n x p i : ℕ} → Relevant rules n x → p ≡ x / 64 → length stable ≡ length active → SharedUntil p (length active) active any
    → Plane (λ g. (g in_plane any) × StableFor rules n i g) stable → (g : ℕ) → g < 64 * length active → g in_plane active → server p g in_plane stable ↔ StableFor rules n i g
found-shared {p = p} {i = i} q e long s f g h m =
    let y = f.number {g = server p g} (omega (arith, ⊆_le (∩_⊆_left (g / 64) p))) in
    let t = stable-shared q e i g in
    (λ k. t.1 (y.0 k).1, λ k. y.1 (s.number {g = g} (omega arith) m, t.0 k))

-- a word of served numbers
pub word_served : (p w : ℕ) (stable : List ℕ) → Lanes (λ b. server p (64 * w + b) in_plane stable) (get_or stable (w ∩ p) 0)
word_served p w stable = record {
  lane = λ {b} l.
      let q : (64 * w + b) / 64 ≡ w = omega arith in
      let r : (64 * w + b) % 64 ≡ b = omega arith in (
        λ m. at_served p (64 * w + b) (rw (q, r) m),
        λ m. rw (q, r) at (of_served p (64 * w + b) m),
      );
}
