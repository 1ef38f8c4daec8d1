-- T and F never meet: the first clause of "contradicted" holds of no guess. Assumes nothing.
use Prim.Native.Nat.{ℕ, zero, suc, ◌*◌}
use Rattle.std.specs.Prelude.{List}
use Rattle.std.proofs.Common.{inl, inr, ⊎_elim}
use Rattle.sets.specs.Lists.{◌among◌}
use Rattle.sets.specs.Sets.{◌∈◌, Meets}
use Rattle.sets.specs.Members.{∈-∅}
use Rattle.semantics.specs.Definitions.Rules.{Rule}
use Rattle.semantics.specs.Definitions.Propagation.{Pair, step, steps, propagated}
use Rattle.semantics.specs.Theorems.Closure.{Sure, Dead, EntersF, Within}
use Rattle.semantics.proofs.Theorems.Closure.{sure-more, enters_f_more, step_t, step_f, stage_below, grows}

-- a rule that is both sure and dead
sure-dead : (x : Pair) (r : Rule) → Sure x r → Dead x r → Meets x.T x.F
sure-dead x r s (inl (inl m)) = record { common = m.common; left = s.0.into m.left; right = m.right }
sure-dead x r s (inl (inr m)) = record { common = m.common; left = s.1.into m.left; right = m.right }
sure-dead x r s (inr m) = record { common = m.common; left = m.right; right = s.2.into m.left }

module _ (n : ℕ) (p : List Rule) where
  -- each atom of T has a sure rule, each atom of F only dead ones
  record Apart (x : Pair) : Type 0 where
    why_t : {a : ℕ} → a ∈ x.T → (r : Rule) × (r among p) × (a ∈ r.head) × Sure x r
    why_f : {a : ℕ} → a ∈ x.F → EntersF p x a
    apart : Meets x.T x.F → ⊥

  step_apart : (x : Pair) → Within x (step n p x) → Apart x → Apart (step n p x)
  step_apart x w h = record {
    why_t = λ m. let (r, k, u, s) = sure-rule m in (r, k, u, sure-more w r s);
    why_f = λ m. enters_f_more w (dead-rules m);
    apart = λ m. let (r, k, u, s) = sure-rule m.left in h.apart (sure-dead x r s (dead-rules m.right r k u));
  }
    where
      sure-rule : {a : ℕ} → a ∈ (step n p x).T → (r : Rule) × (r among p) × (a ∈ r.head) × Sure x r
      sure-rule {a} m = ⊎_elim (λ q. h.why_t q) (λ e. (e.0, e.1, e.2, e.3)) ((step_t n p x).0 m).1

      dead-rules : {a : ℕ} → a ∈ (step n p x).F → EntersF p x a
      dead-rules {a} m = ⊎_elim (λ q. h.why_f q) (λ e. e) ((step_f n p x).0 m).1

  stage_apart : (i : ℕ) → Apart (steps n p i)
  unfolding steps
  stage_apart zero = record { why_t = λ m. absurd (∈-∅ m); why_f = λ m. absurd (∈-∅ m); apart = λ m. ∈-∅ m.left }
  stage_apart (suc i) = let (t, f) = stage_below n p i in step_apart (steps n p i) (grows n p (steps n p i) t f) (stage_apart i)

  pub never_meet : Meets (propagated n p).T (propagated n p).F → ⊥
  never_meet = (stage_apart (2 * n)).apart

  -- no head atom of a rule that is sure at a stage is in F
  pub sure_head : (i : ℕ) (r : Rule) → r among p → Sure (steps n p i) r → {b : ℕ} → b ∈ r.head → b ∈ (steps n p i).F → ⊥
  sure_head i r m s h f = let w = stage_apart i in w.apart (sure-dead (steps n p i) r s (w.why_f f r m h))
