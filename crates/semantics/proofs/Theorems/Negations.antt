-- 000, Definition 3: the epistemic negations are those of the literals that appear, each with one number. Assumes nothing.
use Rattle.std.specs.Prelude.{ℕ, ◌<◌, ◌≡◌, refl, Bool, true, false, List, ◌↔◌, ◌⊎◌, length}
use Rattle.std.proofs.Common.{sym, ap, subst, inl, inr, ⊎_elim, arith}
use Rattle.std.proofs.Math.Decide.{ℕ_discrete}
use Rattle.sets.specs.Decides.{unequal, Decides, is_true, dec_and, dec_does}
use Rattle.sets.specs.Lists.{◌among◌, nowhere, among-append, among-only, among-flat, only, up_to, among-up_to, dec_any}
use Rattle.sets.specs.Pairwise.{up_to_rising, Distinct, pairwise_append, pairwise_flat}
use Rattle.sets.specs.Sets.{◌∈◌}
use Rattle.sets.specs.Members.{dec_∈}
use Rattle.semantics.specs.Definitions.Rules.{EpistemicRule, Subjective, K, not_k, M, not_m}
use Rattle.semantics.specs.Definitions.Guesses.{Negation, not_known, may_be, same_negation, mentioned, negations_on, negations_of, numbered, assumed}
use Rattle.semantics.specs.Theorems.Negations.{Mentioned, Appears, atom_of}
use Rattle.semantics.specs.Theorems.Negations as defined

module _ (rs : List EpistemicRule) where
  abbrev dec_mentioned : (m m' : Subjective) (a : ℕ) → Decides (Mentioned rs m m' a) (mentioned rs m m' a)
  dec_mentioned = defined.dec_mentioned rs

  -- a negation d of a that is there if a literal of one of two kinds appears
  from-only : (m m' : Subjective) (a : ℕ) (d : Negation) → atom_of d ≡ a → (Mentioned rs m m' a → Appears rs d) → {e : Negation} → e among only (mentioned rs m m' a) d → (atom_of e ≡ a) × Appears rs e
  from-only m m' a d z f q =
      let (b, y) = (among-only (mentioned rs m m' a)).0 q in
      subst (λ x. (atom_of x ≡ a) × Appears rs x) (sym y) (z, f ((dec_mentioned m m' a).yes b))

  to_only : (m m' : Subjective) {a b : ℕ} (make : ℕ → Negation) → b ≡ a → Mentioned rs m m' b → make b among only (mentioned rs m m' a) (make a)
  to_only m m' {a} make z p = (among-only (mentioned rs m m' a)).1 (is_true (dec_mentioned m m' a) (subst (Mentioned rs m m') z p), ap make z)

  on_atom : (a : ℕ) (e : Negation) → e among negations_on rs a ↔ ((atom_of e ≡ a) × Appears rs e)
  on_atom a e = (
    λ q. ⊎_elim (from-only K not_k a (not_known a) refl (λ p. p)) (from-only M not_m a (may_be a) refl (λ p. p)) ((among-append (only (mentioned rs K not_k a) (not_known a))).0 q),
    λ p. (among-append (only (mentioned rs K not_k a) (not_known a))).1 (back e p),
  )
    where
      back : (e : Negation) → (atom_of e ≡ a) × Appears rs e → (e among only (mentioned rs K not_k a) (not_known a)) ⊎ (e among only (mentioned rs M not_m a) (may_be a))
      back (not_known b) p = inl (to_only K not_k not_known p.0 p.1)
      back (may_be b) p = inr (to_only M not_m may_be p.0 p.1)

  pub definition_3 : (n : ℕ) {e : Negation} → e among negations_of n rs ↔ ((atom_of e < n) × Appears rs e)
  definition_3 n {e} = (
    λ m. let (a, h, q) = (among-flat (negations_on rs) (up_to n)).0 m in
        let (z, p) = (on_atom a e).0 q in let l = (among-up_to n).0 h in (omega arith, p),
    λ p. (among-flat (negations_on rs) (up_to n)).1 (atom_of e, (among-up_to n).1 p.0, (on_atom (atom_of e) e).1 (refl, p.1)),
  )

  -- no negation has two numbers
  pub negations_distinct : (n : ℕ) → Distinct (negations_of n rs)
  negations_distinct n =
      pairwise_flat _ ◌<◌ (negations_on rs) (up_to n) (up_to_rising n) on_one
      (λ a b d e l p q z. let u = ((on_atom a d).0 p).0 in let v = ((on_atom b e).0 q).0 in omega (arith, ap atom_of z))
    where
      single : (b : Bool) (e : Negation) → Distinct (only b e)
      single true e = ((λ _ m. absurd (nowhere m)), tt)
      single false e = tt

      on_one : (a : ℕ) → Distinct (negations_on rs a)
      on_one a =
          let x = mentioned rs K not_k a in
          let y = mentioned rs M not_m a in
          pairwise_append (λ d e. d ≡ e → ⊥) (only x (not_known a)) (only y (may_be a)) (single x (not_known a)) (single y (may_be a))
          (λ d e p q z. let u = ((among-only x).0 p).1 in let v = ((among-only y).0 q).1 in unequal cc)

-- "bit j set means that negation j is assumed to hold"
pub dec_assumed : (es : List Negation) (g : ℕ) (e : Negation) → Decides ((j : ℕ) × (j < length es) × ((j ∈ g) × (numbered es j ≡ e))) (assumed es g e)
dec_assumed es g e = dec_any _ _ (length es) (λ j _. dec_and (dec_∈ j g) (dec_does (same_negation ℕ_discrete (numbered es j) e)))
