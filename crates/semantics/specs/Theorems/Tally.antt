-- "each of the six numbers says how many guesses bear its name"; "Each guess counts once": they add up. Assumes nothing.
-- Here the definitions; the theorems are in proofs/Theorems/Tally.antt.
use Rattle.std.specs.Prelude.{ℕ, ◌+◌, ◌^◌, ◌≤◌, ◌<◌, ◌≡◌, List, ◌↔◌}
use Rattle.std.proofs.Math.ListN.{length}
use Rattle.sets.specs.Lists.{◌among◌}
use Rattle.sets.specs.Pairwise.{Distinct}
use Rattle.semantics.specs.Definitions.Setting.{Setting, k}
use Rattle.semantics.specs.Definitions.Verdict.{belief_sets}
use Rattle.semantics.specs.Definitions.Listing.{Tally}
use Rattle.semantics.specs.Theorems.Verdict.{Verifiable}
use Rattle.semantics.specs.Theorems.Contradicted.{Contradicted}
use Rattle.semantics.specs.Theorems.WorldView.{WorldView, Covered}

-- none of the six is over n
abbrev pub AtMost : Tally → ℕ → Type 0
AtMost t n = (t.views ≤ n) × (t.covered ≤ n) × (t.ruled ≤ n) × (t.tested ≤ n) × (t.empty ≤ n) × (t.other ≤ n)

-- ---- how many guesses bear a name
-- n is the number of guesses of which P holds
pub record Number (s : Setting) (P : ℕ → Type 0) (n : ℕ) : Type 0 where
  pub those : List ℕ
  pub once : Distinct those
  pub exactly : (g : ℕ) → g among those ↔ ((g < 2 ^ k s) × P g)
  pub many : length those ≡ n

module _ (s : Setting) where
  -- "ruled: not covered, and contradicted"; "tested: all others"
  abbrev pub Ruled : ℕ → Type 0
  Ruled g = (Covered s g → ⊥) × Contradicted s g

  abbrev pub Tested : ℕ → Type 0
  Tested g = (Covered s g → ⊥) × (Ruled g → ⊥)

  -- "empty [..] by their verdict": no set is stable
  abbrev pub TestedEmpty : ℕ → Type 0
  TestedEmpty g = Tested g × ((i : ℕ) × (i among belief_sets s g) → ⊥)

  -- "other": some set is stable, and the guess is not reduct-verifiable
  abbrev pub TestedOther : ℕ → Type 0
  TestedOther g = Tested g × (((i : ℕ) × (i among belief_sets s g)) × (Verifiable s g → ⊥))

  -- "views": it is
  abbrev pub TestedView : ℕ → Type 0
  TestedView g = Tested g × Verifiable s g

  -- the six numbers are those of the guesses that bear the names, and the two sums
  pub record TallyOf (t : Tally) : Type 0 where
    pub views_are : Number s (WorldView s) t.views
    pub covered_are : Number s (Covered s) t.covered
    pub ruled_are : Number s Ruled t.ruled
    pub tested_are : Number s Tested t.tested
    pub empty_are : Number s TestedEmpty t.empty
    pub other_are : Number s TestedOther t.other
    pub tested_views : Number s TestedView t.views
    pub all_are : t.covered + t.ruled + t.tested ≡ 2 ^ k s
    pub tested_parts : t.tested ≡ t.empty + t.other + t.views
