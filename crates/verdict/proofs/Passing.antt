-- A turn of the pass: what it has gathered from the sets below i, and then from i. Assumes nothing.
use Prim.Native.Nat.{ℕ, ◌+◌}
use mathlib.Core.Path.{◌≡◌, sym, ap, ap₂, ◌∙◌}
use mathlib.Core.Bool.{Bool, true, false}
use mathlib.Core.List.{List, append-nil}
use native.Mathlib.Numerals.{add-one}
use lib.ListN.{set}
use Rattle.sets.specs.Lists.{keep, up_to, keep_snoc}
use Rattle.sets.specs.Sets.{full}
use Rattle.semantics.specs.Definitions.Rules.{Rule}
use Rattle.semantics.specs.Definitions.Stable.{stable}
use Rattle.semantics.specs.Definitions.Pass.{Gathered, having, after_test, pass_over}
use Rattle.semantics.proofs.Theorems.Pass.{pass_gathers, pass_more}
use Rattle.verdict.specs.Over.{over, over-more, over_nothing}

-- the stable sets below i, over the words lent
abbrev pub written_to : List Rule → (i : ℕ) → List ℕ → List ℕ
written_to p i o = over (keep (stable p) (up_to i)) o

module _ (n : ℕ) (p : List Rule) where
  -- before any test
  pub gathered_none : {known : ℕ} → known ≡ full n → having known 0 0 0 ≡ pass_over n p (up_to 0)
  unfolding up_to
  gathered_none e = ap (λ k. having k 0 0 0) e

  pub written_none : (o : List ℕ) → o ≡ written_to p 0 o
  unfolding up_to keep
  written_none o = sym (over_nothing o)

  -- one test more
  module _ (i : ℕ) {y : Gathered} (e : y ≡ pass_over n p (up_to i)) where
    pub gathers : {b : Bool} → b ≡ stable p i → after_test y b i ≡ pass_over n p (up_to (i + 1))
    gathers t = ap₂ (λ y b. after_test y b i) e t ∙ pass_more n p i

    module _ (o : List ℕ) {out : List ℕ} (w : out ≡ written_to p i o) where
      pub writes : stable p i ≡ true → set out y.sets i ≡ written_to p (i + 1) o
      unfolding up_to
      writes t =
          let all = keep (stable p) (up_to i) in
          ap₂ (λ l k. set l k i) w (ap (λ g. g.sets) (e ∙ pass_gathers n p (up_to i)))
          ∙ (over-more all o i ∙ rw (add-one i, keep_snoc (stable p) (up_to i) i, t))

      pub passes_over : stable p i ≡ false → out ≡ written_to p (i + 1) o
      unfolding up_to
      passes_over t = rw (add-one i, keep_snoc (stable p) (up_to i) i, t) (w ∙ ap (λ l. over l o) (sym (append-nil _)))
