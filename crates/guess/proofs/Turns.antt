-- A turn of the two loops over the atoms. Assumes nothing.
use Prim.Native.Nat.{ℕ, suc, ◌+◌, ◌≤◌, ◌<◌}
use native.Mathlib.Numerals.{add-one}
use native.Mathlib.Omega.{arith}
use mathlib.Core.Path.{◌≡◌, refl, sym, ap, ◌∙◌, subst}
use mathlib.Core.Bool.{Bool, true, false, not, cond, ◌&&◌}
use lib.ListN.{length}
use Rattle.std.specs.Int.{from_bool}
use Rattle.sets.specs.Lists.{up_to, flat}
use Rattle.sets.specs.Counting.{one}
use Rattle.sets.specs.Sets.{◌∈?◌, ◌∪◌, ∅, single, set_of}
use Rattle.sets.specs.Members.{set_of-suc}
use Rattle.semantics.specs.Definitions.Guesses.{Negation, not_known, may_be, numbered, assumed}
use Rattle.semantics.specs.Definitions.Check.{most_negations}
use Rattle.semantics.specs.Definitions.Verdict.{found_has}
use Rattle.guess.specs.declared.outline.Outline.{Outline}
use Rattle.guess.specs.Negations.{negations_in, negations_by, Few}
use Rattle.guess.proofs.Numbering.{next_number, assumed-k, assumed-m, found-k, found-m, number_fits}

pub at_most_one : {o : ℕ} (b : Bool) → o ≡ from_bool b → o ≤ 1
at_most_one true e = omega arith
at_most_one false e = omega arith

as_one : (b : Bool) → from_bool b ≡ one b
as_one true = refl
as_one false = refl

module _ (x : Outline) where
  -- how many negations stand on the atoms before a
  abbrev before : ℕ → ℕ
  before a = length (negations_in a x.k_atoms x.m_atoms)

  -- the negation on b is in the guess; negation i is in the guess found
  abbrev pub in_guess : (ℕ → Negation) → (guess : ℕ) → ℕ → Bool
  in_guess on g b = assumed (negations_by x) g (on b)

  abbrev pub in_found : (known possible : ℕ) → ℕ → Bool
  in_found known possible i = found_has known possible (numbered (negations_by x) i)

  -- the code is at atom a, and j is the next number
  pub record At (a j : ℕ) : Type 0 where
    pub few : a ≤ x.atoms
    pub number : j ≡ before a
    pub small : j ≤ most_negations

  pub at_first : At 0 0
  unfolding negations_in flat up_to
  at_first = record { few = omega arith; number = refl; small = omega arith }

  pub at_end : {a j : ℕ} → At a j → x.atoms ≤ a → j ≡ length (negations_by x)
  at_end {a} at h =
      let e : a ≡ x.atoms = omega (arith, at.few) in
      at.number ∙ ap before e

  module _ {a j : ℕ} (at : At a j) (h : a < x.atoms) {b b' : Bool} {o o' : ℕ} (k : b ≡ (a ∈? x.k_atoms)) (n : o ≡ from_bool b)
      (m : b' ≡ (a ∈? x.m_atoms)) (n' : o' ≡ from_bool b') where
    first : o ≡ one (a ∈? x.k_atoms)
    first = n ∙ as_one b ∙ ap one k

    second : o' ≡ one (a ∈? x.m_atoms)
    second = n' ∙ as_one b' ∙ ap one m

    pub at_next : Few x → At (a + 1) (j + o + o')
    at_next limits = record {
      few = omega arith;
      number = subst (λ z. j + o + o' ≡ before z) (sym (add-one a)) whole;
      small = omega (arith, limits.1, whole, next_number x.k_atoms x.m_atoms a, number_fits x.k_atoms x.m_atoms x.atoms a h);
    }
      where
        whole : j + o + o' ≡ before (suc a)
        whole = omega (arith, at.number, first, second, next_number x.k_atoms x.m_atoms a)

    -- the atoms before a whose "not K" is in the guess, and those whose "M" is
    module _ (g : ℕ) {c c' : Bool} (i : c ≡ (j ∈? g)) (i' : c' ≡ (j + o ∈? g)) where
      pub unknown_next : {u u' : ℕ} → u ≡ set_of (in_guess not_known g) a → u' ≡ cond (b && c) (single a) ∅ ∪ u → u' ≡ set_of (in_guess not_known g) (a + 1)
      unknown_next d e =
          e ∙ rw (k, i, d, at.number) (sym (ap (set_of (in_guess not_known g)) (add-one a) ∙ set_of-suc (in_guess not_known g) a
          ∙ ap (λ z. cond z (single a) ∅ ∪ set_of (in_guess not_known g) a) (assumed-k x.k_atoms x.m_atoms x.atoms a h g)))

      pub maybe_next : {p p' : ℕ} → p ≡ set_of (in_guess may_be g) a → p' ≡ cond (b' && c') (single a) ∅ ∪ p → p' ≡ set_of (in_guess may_be g) (a + 1)
      maybe_next d e =
          e ∙ rw (m, i', d, at.number, first) (sym (ap (set_of (in_guess may_be g)) (add-one a) ∙ set_of-suc (in_guess may_be g) a
          ∙ ap (λ z. cond z (single a) ∅ ∪ set_of (in_guess may_be g) a) (assumed-m x.k_atoms x.m_atoms x.atoms a h g)))

    -- the guess found, as far as the negations before a
    pub found_next : (known possible : ℕ) {c c' : Bool} → c ≡ not (a ∈? known) → c' ≡ (a ∈? possible) → {g g₁ g₂ : ℕ} → g ≡ set_of (in_found known possible) j
        → g₁ ≡ cond (b && c) (single j) ∅ ∪ g → g₂ ≡ cond (b' && c') (single (j + o)) ∅ ∪ g₁ → g₂ ≡ set_of (in_found known possible) (j + o + o')
    found_next known possible i i' d e₁ e₂ =
        e₂ ∙ rw (e₁, d, k, i, m, i', first, second, at.number)
        (sym (found-m x.k_atoms x.m_atoms x.atoms a h known possible
        ∙ ap (λ z. cond ((a ∈? x.m_atoms) && (a ∈? possible)) (single (before a + one (a ∈? x.k_atoms))) ∅ ∪ z)
        (found-k x.k_atoms x.m_atoms x.atoms a h known possible)))
