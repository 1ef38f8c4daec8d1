-- 000, Definition 6: world views are the reduct-verifiable guesses with no reduct-verifiable proper superset. Assumes nothing.
-- Here the definitions; the theorems are in proofs/Theorems/WorldView.antt.
use Rattle.std.specs.Prelude.{ℕ, ◌^◌, ◌<◌}
use Rattle.sets.specs.Sets.{◌⊂◌}
use Rattle.semantics.specs.Definitions.Setting.{Setting, k}
use Rattle.semantics.specs.Theorems.Verdict.{Verifiable}

module _ (s : Setting) where
  pub record WorldView (g : ℕ) : Type 0 where
    pub verifiable : Verifiable s g
    pub maximal : (h : ℕ) → h < 2 ^ k s → g ⊂ h → Verifiable s h → ⊥

  -- there is a world view
  abbrev pub SomeView : Type 0
  SomeView = (g : ℕ) × (g < 2 ^ k s) × WorldView g

  -- no guess is reduct-verifiable
  abbrev pub NoneVerifiable : Type 0
  NoneVerifiable = (g : ℕ) → g < 2 ^ k s → Verifiable s g → ⊥

  -- "covered: proper subset of a world view's guess"
  abbrev pub Covered : ℕ → Type 0
  Covered g = (h : ℕ) × (h < 2 ^ k s) × ((g ⊂ h) × WorldView h)
