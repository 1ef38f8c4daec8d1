-- The numbers for which i is a model of the rules that are on, and no proper subset is, where of each rule the plain atoms are in i and its head has
-- been cut to i. Assumes nothing.
use Rattle.std.specs.Prelude.{ℕ, ◌+◌, ◌*◌, ◌<◌, ◌≡◌, List, length, get_or, set}
use Rattle.std.proofs.Common.{subst, ⊎_elim, arith, not-suc-le-zero, get_or-set_same, get_or-set_other, below_more}
use Rattle.sets.specs.Decides.{decided, dec_eq}
use Rattle.sets.specs.Sets.{◌∈◌, ◌⊂◌, ◌∖◌, ∅}
use Rattle.sets.specs.Members.{∈-∅}
use Rattle.lanes.specs.declared.rule.Rule.{Rule}
use Rattle.lanes.specs.Rules.{rule_at}
use Rattle.lanes.specs.Lanes.{Lanes, lanes_self, lanes_is, lanes_iff, lanes_minus, lanes_none}
use Rattle.lanes.specs.Cube.{InCube}
use Rattle.lanes.specs.Planes.{Word}
use Rattle.lanes.specs.Smaller.{Fails}

-- rule r is on for g
abbrev pub SwitchedOn : List Rule → ℕ → ℕ → Type 0
SwitchedOn rules r g = InCube ((rule_at rules r).misses) ((rule_at rules r).holds) g

-- of the first n rules, none that is on for g has an empty head
pub record HeadsMeet (rules : List Rule) (n g : ℕ) : Type 0 where
  pub rule : (r : ℕ) → r < n → (rule_at rules r).head ≡ 0 → SwitchedOn rules r g → ⊥

-- i is a model of the rules that are on for g, and no proper subset is (their heads are cut to i)
pub record StableFor (rules : List Rule) (n i g : ℕ) : Type 0 where
  pub model : HeadsMeet rules n g
  pub minimal : (j : ℕ) → j ⊂ i → ((r : ℕ) → r < n → SwitchedOn rules r g → Fails (rule_at rules r) j → ⊥) → ⊥

module _ (rules : List Rule) (w x : ℕ) where
  pub meet_none : Lanes (λ b. (b ∈ x) × HeadsMeet rules 0 (64 * w + b)) x
  meet_none = lanes_iff (λ b l. (λ m. (m, record { rule = λ r k. absurd (not-suc-le-zero k) }), λ p. p.0)) lanes_self

  module _ (n : ℕ) {left : ℕ} (p : Lanes (λ b. (b ∈ x) × HeadsMeet rules n (64 * w + b)) left) where
    pub meet_empty : {y : ℕ} → (rule_at rules n).head ≡ 0 → Word (SwitchedOn rules n) w y → Lanes (λ b. (b ∈ x) × HeadsMeet rules (n + 1) (64 * w + b)) (left ∖ y)
    meet_empty e o =
        lanes_iff (λ b l. (
          λ q. (q.0.0, record { rule = below_more _ n q.0.1.rule (λ _. q.1) }),
          λ q. ((q.0, record { rule = λ r k. q.1.rule r (omega arith) }), q.1.rule n (omega arith) e),
        )) (lanes_minus p o)

    pub meet_some : ((rule_at rules n).head ≡ 0 → ⊥) → Lanes (λ b. (b ∈ x) × HeadsMeet rules (n + 1) (64 * w + b)) left
    meet_some f =
        lanes_iff (λ b l. (
          λ q. (q.0, record { rule = below_more _ n q.1.rule (λ e _. f e) }),
          λ q. (q.0, record { rule = λ r k. q.1.rule r (omega arith) }),
        )) p

-- on has the lanes of x in which each of the first n rules is on
pub record LanesOn (rules : List Rule) (w x n : ℕ) (on : List ℕ) : Type 0 where
  pub rule : {r : ℕ} → r < n → Lanes (λ b. (b ∈ x) × SwitchedOn rules r (64 * w + b)) (get_or on r 0)

pub on_none : (rules : List Rule) (w x : ℕ) (on : List ℕ) → LanesOn rules w x 0 on
on_none rules w x on = record { rule = λ k. absurd (not-suc-le-zero k) }

pub on-more : {rules : List Rule} {w x n y : ℕ} {on : List ℕ} → n < length on → LanesOn rules w x n on
    → Lanes (λ b. (b ∈ x) × SwitchedOn rules n (64 * w + b)) y → LanesOn rules w x (n + 1) (set on n y)
on-more {n = n} {y = y} {on = on} h s q = record {
  rule = λ {r} k. ⊎_elim (λ e. rw e (lanes_is (get_or-set_same on n y 0 h) q))
      (λ e. lanes_is (get_or-set_other on n r y 0 e) (s.rule (omega arith))) (decided (dec_eq r n));
}

-- ---- the two tests together
pub stable_empty : (rules : List Rule) (n i w lanes : ℕ) → lanes ≡ 0 → Lanes (λ b. (b ∈ lanes) × StableFor rules n i (64 * w + b)) ∅
stable_empty rules n i w lanes e = lanes_none (λ b l u. ∈-∅ (subst (λ z. b ∈ z) e u.0))

module _ (rules : List Rule) (on : List ℕ) (n i w lanes : ℕ) {model : ℕ} (p : Lanes (λ b. (b ∈ lanes) × HeadsMeet rules n (64 * w + b)) model) where
  pub stable-none : model ≡ 0 → Lanes (λ b. (b ∈ lanes) × StableFor rules n i (64 * w + b)) ∅
  stable-none e = lanes_none (λ b l u. ∈-∅ (subst (λ z. b ∈ z) e ((p.lane l).1 (u.0, u.1.model))))
