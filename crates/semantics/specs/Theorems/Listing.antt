-- The list of views: one for each world view and no other, larger guesses first; none exactly when no guess is verified. Assumes nothing.
-- Here the definitions; the theorems are in proofs/Theorems/Listing.antt.
use Rattle.std.specs.Prelude.{ℕ, ◌^◌, ◌<◌, ◌≡◌, List, [], ◌↔◌}
use Rattle.sets.specs.Lists.{◌among◌}
use Rattle.sets.specs.Pairwise.{Pairwise}
use Rattle.semantics.specs.Definitions.Setting.{Setting, k}
use Rattle.semantics.specs.Definitions.Listing.{View, view_of}
use Rattle.semantics.specs.Theorems.WorldView.{WorldView, NoneVerifiable}
use Rattle.semantics.specs.Theorems.Order.{Before}

-- vs has a view for each world view (000, Definition 6) and no other
pub record ViewsOf (s : Setting) (vs : List View) : Type 0 where
  pub exactly : {v : View} → v among vs ↔ ((g : ℕ) × (g < 2 ^ k s) × WorldView s g × (v ≡ view_of s g))
  -- no guess gets a second one
  pub once : Pairwise (λ v w. v.guess ≡ w.guess → ⊥) vs
  -- larger guesses first, equal sizes by rising number
  pub ordered : Pairwise (λ v w. Before v.guess w.guess) vs
  -- none exactly when no guess is reduct-verifiable
  pub none_exactly : (vs ≡ []) ↔ NoneVerifiable s
