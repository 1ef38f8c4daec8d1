-- The lanes in which a set is a model of the rules that are on there. Assumes nothing.
use Rattle.std.specs.Prelude.{ℕ, ◌+◌, ◌≤◌, ◌<◌, ◌≡◌, not, ◌&&◌, List, get_or}
use Rattle.std.proofs.Common.{subst, arith, not-suc-le-zero, below_more}
use Rattle.sets.specs.Decides.{Decides, dec_iff, dec_and, dec_not}
use Rattle.sets.specs.Sets.{◌∈◌, ◌⊆◌, Meets, ◌⊆?◌, ◌meets?◌, ◌∖◌, ∅}
use Rattle.sets.specs.Members.{dec_⊆, dec_meets, ∈-∅}
use Rattle.lanes.specs.declared.rule.Rule.{Rule}
use Rattle.lanes.specs.Rules.{rule_at}
use Rattle.lanes.specs.Lanes.{Lanes, lanes_self, lanes_iff, lanes_minus, lanes_none}

-- a rule fails in s: its plain atoms are within s, and its head is apart from s
pub record Fails (e : Rule) (s : ℕ) : Type 0 where
  pub body : e.plain ⊆ s
  pub head : Meets e.head s → ⊥

pub dec_fails : (e : Rule) (s : ℕ) → Decides (Fails e s) ((e.plain ⊆? s) && not (e.head meets? s))
dec_fails e s = dec_iff (λ p. record { body = p.0; head = p.1 }, λ f. (f.body, f.head)) (dec_and (dec_⊆ e.plain s) (dec_not (dec_meets e.head s)))

module _ (rules : List Rule) (on : List ℕ) where
  -- of the first n rules, none that is on in lane b fails in s
  pub record Passes (n b s : ℕ) : Type 0 where
    pub rule : (r : ℕ) → r < n → b ∈ get_or on r 0 → Fails (rule_at rules r) s → ⊥

  pub passes_none : {s x : ℕ} → Lanes (λ b. (b ∈ x) × Passes 0 b s) x
  passes_none = lanes_iff (λ b l. (λ m. (m, record { rule = λ r k. absurd (not-suc-le-zero k) }), λ p. p.0)) lanes_self

  module _ (n s x : ℕ) {left : ℕ} (p : Lanes (λ b. (b ∈ x) × Passes n b s) left) where
    -- one rule more
    pub passes_fails : Fails (rule_at rules n) s → Lanes (λ b. (b ∈ x) × Passes (n + 1) b s) (left ∖ get_or on n 0)
    passes_fails f =
        lanes_iff (λ b l. (
          λ q. (q.0.0, record { rule = below_more _ n q.0.1.rule (λ m _. q.1 m) }),
          λ q. ((q.0, record { rule = λ r k. q.1.rule r (omega arith) }), λ m. q.1.rule n (omega arith) m f),
        )) (lanes_minus p lanes_self)

    pub passes-holds : (Fails (rule_at rules n) s → ⊥) → Lanes (λ b. (b ∈ x) × Passes (n + 1) b s) left
    passes-holds h =
        lanes_iff (λ b l. (
          λ q. (q.0, record { rule = below_more _ n q.1.rule (λ _. h) }),
          λ q. (q.0, record { rule = λ r k. q.1.rule r (omega arith) }),
        )) p

    -- once no lane is left, none ever is
    pub passes_ends : (m : ℕ) → n ≤ m → left ≡ 0 → Lanes (λ b. (b ∈ x) × Passes m b s) ∅
    passes_ends m h e =
        lanes_none (λ b l q. ∈-∅ (subst (λ z. b ∈ z) e ((p.lane l).1 (q.0, record { rule = λ r k. q.1.rule r (omega arith) }))))
