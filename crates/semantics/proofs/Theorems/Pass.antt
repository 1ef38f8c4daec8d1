-- Document 02, K2: the one pass gathers what two walks over the stable sets give, in as many tests as there are sets of atoms, and every
-- verdict is the same. Assumes nothing.
use Rattle.std.specs.Prelude.{ℕ, ◌+◌, ◌^◌, ◌<◌, ◌≡◌, refl, Bool, true, false, cond, ◌↔◌, eqb, length}
use Rattle.std.proofs.Common.{sym, ap₂, ◌∙◌, arith, ne_eqb}
use mathlib.Core.List.{List, [], ◌∷◌, foldl}
use Rattle.std.proofs.Math.Numerals.{add-one}
use Rattle.sets.specs.Lists.{keep, up_to, null, foldl_snoc, length-up_to}
use Rattle.sets.specs.Sets.{◌∈◌, ◌∩◌, ◌∪◌, ⋂, ⋃}
use Rattle.sets.specs.Members.{∈-⋂, ∈-⋃}
use Rattle.semantics.specs.Definitions.Rules.{Rule}
use Rattle.semantics.specs.Definitions.Setting.{Setting}
use Rattle.semantics.specs.Definitions.Stable.{stable, stable_sets}
use Rattle.semantics.specs.Definitions.Verdict.{belief_sets, guess_found, verdict}
use Rattle.semantics.specs.Definitions.Pass.{Gathered, having, gathered, untested, after_test, pass_over, one_pass, verdict_from}
use Rattle.semantics.specs.Theorems.Stable.{Stable}
use Rattle.semantics.proofs.Theorems.Stable.{among_stable_sets}

-- what a pass gathers onto y, where l are the sets and w those that pass: each set of l is a test
abbrev onto : Gathered → (w l : List ℕ) → Gathered
onto y w l = having (foldl ◌∩◌ y.known w) (foldl ◌∪◌ y.possible w) (y.sets + length w) (y.tests + length l)

pass_onto : (f : ℕ → Bool) (y : Gathered) (l : List ℕ) → foldl (λ y i. after_test y (f i) i) y l ≡ onto y (keep f l) l
unfolding keep
pass_onto f y [] = ap₂ (having y.known y.possible) (omega arith) (omega arith)
pass_onto f y (i ∷ l) = pass_onto f (after_test y (f i) i) l ∙ first (f i)
  where
    first : (b : Bool) → onto (after_test y b i) (keep f l) l ≡ onto y (cond b (i ∷ keep f l) (keep f l)) (i ∷ l)
    first true = ap₂ (having _ _) (omega arith) (omega arith)
    first false = ap₂ (having _ _) refl (omega arith)

module _ (n : ℕ) (p : List Rule) where
  -- over any sets: known and possible are those of the sets that are stable, and there are as many tests as sets
  pub pass_gathers : (l : List ℕ) →
      let w = keep (stable p) l in
      pass_over n p l ≡ record { known = ⋂ n w; possible = ⋃ w; sets = length w; tests = length l }
  pass_gathers l = pass_onto (stable p) (untested n) l ∙ ap₂ (having _ _) (omega arith) (omega arith)

  -- the one pass and the two walks give the same
  pub one_pass_lem : one_pass n p ≡ gathered n p
  unfolding one_pass stable_sets
  one_pass_lem = pass_gathers (up_to (2 ^ n)) ∙ rw length-up_to

  -- in the papers' words: known is what is in every stable set, possible what is in some, and each set of atoms is a test
  pub pass_known : (a : ℕ) → a ∈ (one_pass n p).known ↔ ((a < n) × ((i : ℕ) → i < 2 ^ n → Stable p i → a ∈ i))
  pass_known a = rw one_pass_lem (
    λ m. let (l, f) = (∈-⋂ a n (stable_sets n p)).0 m in (l, λ i h t. f i ((among_stable_sets n p).1 (h, t))),
    λ q. (∈-⋂ a n (stable_sets n p)).1 (q.0, λ i m. let (h, t) = (among_stable_sets n p).0 m in q.1 i h t),
  )

  pub pass_possible : (a : ℕ) → a ∈ (one_pass n p).possible ↔ ((i : ℕ) × (i < 2 ^ n) × Stable p i × (a ∈ i))
  pass_possible a = rw one_pass_lem (
    λ m. let (i, k, b) = (∈-⋃ a (stable_sets n p)).0 m in let (h, t) = (among_stable_sets n p).0 k in (i, h, t, b),
    λ q. (∈-⋃ a (stable_sets n p)).1 (q.0, (among_stable_sets n p).1 (q.1, q.2), q.3),
  )

  pub pass_tests : (one_pass n p).tests ≡ 2 ^ n
  pass_tests = rw one_pass_lem

  -- one set more
  pub pass_more : (i : ℕ) → after_test (pass_over n p (up_to i)) (stable p i) i ≡ pass_over n p (up_to (i + 1))
  unfolding up_to
  pass_more i = rw add-one (sym (foldl_snoc _ (untested n) (up_to i) i))

-- "Every verdict is the same as before."
pub same-verdict : (s : Setting) (g : ℕ) → verdict_from s.negations (one_pass s.atoms (s.program g)) g ≡ verdict s g
unfolding verdict belief_sets guess_found
same-verdict s g = rw (one_pass_lem, no_sets)
  where
    no_sets : (w : List ℕ) → eqb (length w) 0 ≡ null w
    no_sets [] = refl
    no_sets (i ∷ w) = ne_eqb (length (i ∷ w)) 0 (λ e. omega arith)
