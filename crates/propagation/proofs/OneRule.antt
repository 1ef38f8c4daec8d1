-- What a rule brings to T and keeps out of F: by whether it is sure, how many of its head atoms are outside F, and whether it is dead.
-- Assumes nothing.
use Prim.Native.Nat.{ℕ}
use mathlib.Core.Path.{◌≡◌, ap, ◌∙◌, subst}
use mathlib.Core.List.Memᴰ
use mathlib.Core.List.{[], ◌∷◌}
use mathlib.Core.Logic.{◌↔◌, ⊎_elim}
use native.Mathlib.Omega.{arith}
use Rattle.sets.specs.Decides.{decided, dec_eq}
use Rattle.sets.specs.Lists.{◌among◌, nowhere, all_cons}
use Rattle.sets.specs.Sets.{◌∈◌, ◌∖◌, ∅, size}
use Rattle.sets.specs.Members.{dec_∈, ∈-∅, ∈-∖}
use Rattle.sets.specs.One.{only_one as one-member}
use Rattle.sets.specs.Size.{size-least, size-most}
use Rattle.semantics.specs.Definitions.Rules.{Rule}
use Rattle.semantics.specs.Definitions.Propagation.{Pair}
use Rattle.semantics.specs.Theorems.Closure.{Sure, Dead, OthersOut}
use Rattle.propagation.specs.Pairs.{EntersBy, SupportedBy}

none : (P : ℕ → Type 0) (a : ℕ) → a among [] → P a
none P a m = absurd (nowhere m)

module _ (x : Pair) (r : Rule) where
  -- the head atoms outside F
  abbrev rest : ℕ
  rest = r.head ∖ x.F

  in_f : {a : ℕ} → a ∈ r.head → (a ∈ rest → ⊥) → a ∈ x.F
  in_f {a} h n = ⊎_elim (λ m. m) (λ o. absurd (n ((∈-∖ a r.head x.F).1 (h, o)))) (decided (dec_∈ a x.F))

  -- an atom that enters is the only one outside F, if there is one
  only_one : {a b : ℕ} → OthersOut x r a → b ∈ rest → b ≡ a
  only_one {a} {b} o m =
      let (h, n) = (∈-∖ b r.head x.F).0 m in
      ⊎_elim (λ e. e) (λ d. absurd (n (o b h d))) (decided (dec_eq b a))

  -- h is the head, o its atoms outside F, n how many they are
  module _ {h o n : ℕ} (is-head : h ≡ r.head) (is-rest : o ≡ h ∖ x.F) (is-size : n ≡ size o) where
    same : o ≡ rest
    same = is-rest ∙ ap (λ z. z ∖ x.F) is-head

    same_size : n ≡ size rest
    same_size = is-size ∙ ap size same

    pub enters_all : Sure x r → n ≡ 0 → (a : ℕ) → a ∈ h ↔ EntersBy x r a
    enters_all s e a = rw is-head (λ m. (m, s, λ b k _. in_f k (no_member b)), λ q. q.0)
      where
        no_member : (b : ℕ) → b ∈ rest → ⊥
        no_member b m = omega (arith, same_size, size-least rest (b ∷ []) (none _, tt) (all_cons (λ c. c ∈ rest) m (none _)))

    pub enters_one : Sure x r → n ≡ 1 → (a : ℕ) → a ∈ o ↔ EntersBy x r a
    enters_one s e a = rw same (
      λ m. (((∈-∖ a r.head x.F).0 m).0, s, λ b k d. in_f k (λ u. no_other m u d)),
      λ q. ⊎_elim (λ m. m) (λ u. absurd (no_member q u)) (decided (dec_∈ a rest)),
    )
      where
        no_other : {b : ℕ} → a ∈ rest → b ∈ rest → (b ≡ a → ⊥) → ⊥
        no_other m k d = d (one-member (omega (arith, same_size)) k m)

        no_member : EntersBy x r a → (a ∈ rest → ⊥) → ⊥
        no_member q u = omega (arith, same_size, size-most rest [] (λ b k. absurd (u (subst (λ c. c ∈ rest) (only_one q.2 k) k))))

    pub enters_none : (n ≡ 0 → ⊥) → (n ≡ 1 → ⊥) → (a : ℕ) → a ∈ ∅ ↔ EntersBy x r a
    enters_none d d' a = (
      λ m. absurd (∈-∅ m),
      λ q. absurd (omega (arith, same_size, size-most rest (a ∷ []) (λ b m. Memᴰ.head (only_one q.2 m)))),
    )

  pub enters_unsure : (Sure x r → ⊥) → (a : ℕ) → a ∈ ∅ ↔ EntersBy x r a
  enters_unsure n a = ((λ m. absurd (∈-∅ m)), λ q. absurd (n q.1))

  pub supports_none : Dead x r → (a : ℕ) → a ∈ ∅ ↔ SupportedBy x r a
  supports_none d a = ((λ m. absurd (∈-∅ m)), λ q. absurd (q.1 d))

  pub supports_head : (Dead x r → ⊥) → {h : ℕ} → h ≡ r.head → (a : ℕ) → a ∈ h ↔ SupportedBy x r a
  supports_head n e a = rw e (λ m. (m, n), λ q. q.0)
