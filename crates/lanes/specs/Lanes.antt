-- A word as a set of lanes below 64: what it says of each, and how words are put together. Assumes nothing.
use Rattle.std.specs.Prelude.{ℕ, ◌<◌, ◌≡◌, Bool, ◌↔◌, ◌⊎◌}
use Rattle.std.proofs.Common.{sym, subst, inl, inr, ⊎_elim}
use Rattle.sets.specs.Decides.{Decides}
use Rattle.sets.specs.Sets.{◌∈◌, ◌∩◌, ◌∪◌, ◌∖◌, ∅, set_of}
use Rattle.sets.specs.Members.{∈-∩, ∈-∪, ∈-∖, ∈-∅, ∈_set_of_dec}

-- lane b is in x exactly when P b: `Decides`, 64 at a time
pub record Lanes (P : ℕ → Type 0) (x : ℕ) : Type 0 where
  pub lane : {b : ℕ} → b < 64 → b ∈ x ↔ P b

pub lanes_self : {x : ℕ} → Lanes (λ b. b ∈ x) x
lanes_self = record { lane = λ l. (λ m. m, λ m. m) }

pub lanes_is : {P : ℕ → Type 0} {x y : ℕ} → y ≡ x → Lanes P x → Lanes P y
lanes_is {P} e p = subst (Lanes P) (sym e) p

pub lanes_iff : {P Q : ℕ → Type 0} {x : ℕ} → ((b : ℕ) → b < 64 → P b ↔ Q b) → Lanes P x → Lanes Q x
lanes_iff f p = record { lane = λ {b} l. (λ m. (f b l).0 ((p.lane l).0 m), λ q. (p.lane l).1 ((f b l).1 q)) }

module _ {P Q : ℕ → Type 0} {x y : ℕ} (p : Lanes P x) (q : Lanes Q y) where
  pub lanes_and : Lanes (λ b. P b × Q b) (x ∩ y)
  lanes_and = record {
    lane = λ {b} l. (
      λ m. let (u, v) = (∈-∩ b x y).0 m in ((p.lane l).0 u, (q.lane l).0 v),
      λ r. (∈-∩ b x y).1 ((p.lane l).1 r.0, (q.lane l).1 r.1),
    );
  }

  pub lanes_or : Lanes (λ b. P b ⊎ Q b) (x ∪ y)
  lanes_or = record {
    lane = λ {b} l. (
      λ m. ⊎_elim (λ u. inl ((p.lane l).0 u)) (λ v. inr ((q.lane l).0 v)) ((∈-∪ b x y).0 m),
      λ r. (∈-∪ b x y).1 (⊎_elim (λ u. inl ((p.lane l).1 u)) (λ v. inr ((q.lane l).1 v)) r),
    );
  }

  pub lanes_minus : Lanes (λ b. P b × (Q b → ⊥)) (x ∖ y)
  lanes_minus = record {
    lane = λ {b} l. (
      λ m. let (u, n) = (∈-∖ b x y).0 m in ((p.lane l).0 u, λ v. n ((q.lane l).1 v)),
      λ r. (∈-∖ b x y).1 ((p.lane l).1 r.0, λ v. r.1 ((q.lane l).0 v)),
    );
  }

pub lanes_none : {P : ℕ → Type 0} → ((b : ℕ) → b < 64 → P b → ⊥) → Lanes P ∅
lanes_none f = record { lane = λ {b} l. (λ m. absurd (∈-∅ m), λ p. absurd (f b l p)) }

pub lanes_of : (P : ℕ → Type 0) (f : ℕ → Bool) → ((b : ℕ) → Decides (P b) (f b)) → Lanes P (set_of f 64)
lanes_of P f d = record { lane = λ {b} l. (λ m. ((∈_set_of_dec P f d 64).0 m).1, λ p. (∈_set_of_dec P f d 64).1 (l, p)) }
