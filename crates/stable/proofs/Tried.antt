-- The search for a smaller model among the sets that contain l: with the subsets, not below t, of what is beyond it. Assumes nothing.
use Prim.Native.Nat.{ℕ, ◌-◌, ◌≤◌, ◌<◌}
use mathlib.Core.Path.{◌≡◌, sym, subst}
use mathlib.Core.Bool.{false}
use Rattle.std.specs.Prelude.{Some}
use mathlib.Core.List.{List}
use mathlib.Core.Logic.{⊎_elim}
use native.Mathlib.Omega.{arith}
use Rattle.sets.specs.Decides.{is_false}
use Rattle.sets.specs.Sets.{◌⊆◌, ◌⊂◌, ◌∩◌, ◌∪◌, ◌∖◌}
use Rattle.sets.specs.Members.{⊆_refl, ⊆_le, ⊂_less, ∩-⊆, none_between, next_less}
use Rattle.semantics.specs.Definitions.Rules.{Rule}
use Rattle.semantics.specs.Definitions.Stable.{smaller_model}
use Rattle.semantics.specs.Theorems.Stable.{Model}
use Rattle.semantics.proofs.Theorems.Stable.{dec_smaller}
use Rattle.semantics.specs.Theorems.SingleHeads.{Positive}
use Rattle.stable.specs.Growth.{Grown}
use Rattle.stable.specs.Smaller.{SmallerIfAny, beyond_smaller, only_beyond}

pub record Tried (p : List Rule) (l beyond t : ℕ) : Type 0 where
  pub within : t ⊆ beyond
  pub none : (u : ℕ) → u ⊂ beyond → t ≤ u → Model p (l ∪ u) → ⊥

module _ (p : List Rule) (l beyond : ℕ) where
  pub tried_first : Tried p l beyond beyond
  tried_first = record { within = ⊆_refl; none = λ u h q m. omega (arith, ⊂_less h) }

  pub tried_next : {t : ℕ} → Tried p l beyond t → (Model p (l ∪ ((t - 1) ∩ beyond)) → ⊥) → Tried p l beyond ((t - 1) ∩ beyond)
  tried_next {t} r f = record {
    within = ∩-⊆ (t - 1) beyond;
    none = λ u h q m. ⊎_elim (λ e. f (subst (λ z. Model p (l ∪ z)) e m)) (λ k. r.none u h k m) (none_between r.within h.within q);
  }

module _ {p : List Rule} {i l beyond t : ℕ} (plain_only : Positive p) (g : Grown p i l) (e : beyond ≡ i ∖ l) (r : Tried p l beyond t) where
  pub tried_all : t ≤ 0 → smaller_model p i ≡ false
  tried_all z = is_false (dec_smaller p i) (λ h.
      let (u, s, k) = (only_beyond plain_only g).0 h in
      r.none u (subst (λ b. u ⊂ b) (sym e) s) (omega arith) k)

  pub found : 0 < t → Model p (l ∪ ((t - 1) ∩ beyond)) → SmallerIfAny p i (Some (l ∪ ((t - 1) ∩ beyond)))
  found h m =
      let u = (t - 1) ∩ beyond in
      let less : u ⊂ beyond = record { within = ∩-⊆ (t - 1) beyond; differ = λ d. omega (arith, d, next_less t beyond h, ⊆_le r.within) } in
      (beyond_smaller plain_only g (subst (λ b. u ⊂ b) e less), m)
