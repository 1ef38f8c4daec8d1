-- 000, Definitions 1, 2 and 4: a world view as a set W that is the stable sets of its own modal reduct. It is the same as Definition 6.
-- Assumes nothing.
-- Here the definitions; the theorems are in proofs/Theorems/ModalReduct.antt.
use Rattle.std.specs.Prelude.{ℕ, ◌≡◌, Bool, List}
use Rattle.std.proofs.Math.Bool.{not}
use Rattle.sets.specs.Lists.{◌among◌, every, some}
use Rattle.sets.specs.Sets.{◌⊂◌, ◌∈?◌}
use Rattle.semantics.specs.Definitions.Rules.{Rule, EpistemicRule, Subjective, K, not_k, M, not_m}
use Rattle.semantics.specs.Definitions.Reduct.{reduct}
use Rattle.semantics.specs.Definitions.Setting.{Setting, setting_of}
use Rattle.semantics.specs.Definitions.Stable.{stable_sets}
use Rattle.semantics.specs.Definitions.Verdict.{guess_found}

-- Definition 1: which subjective literals W satisfies
abbrev pub satisfied_by : List ℕ → Subjective → ℕ → Bool
satisfied_by w K a = every (λ i. a ∈? i) w
satisfied_by w not_k a = some (λ i. not (a ∈? i)) w
satisfied_by w M a = some (λ i. a ∈? i) w
satisfied_by w not_m a = every (λ i. not (a ∈? i)) w

-- Definition 2: the modal reduct with respect to W
abbrev pub modal_reduct : ℕ → List EpistemicRule → List ℕ → List Rule
modal_reduct n rs w = reduct n (satisfied_by w) rs

-- ---- Definition 4
module _ (n : ℕ) (rs : List EpistemicRule) where
  abbrev pub s : Setting
  s = setting_of n rs

  -- W is not empty, and is the stable sets of its modal reduct
  pub record FixedPoint (w : List ℕ) : Type 0 where
    pub non_empty : (i : ℕ) × (i among w)
    pub same : w ≡ stable_sets n (modal_reduct n rs w)

  -- and no other such W satisfies all its negations and more
  pub record WorldViewSet (w : List ℕ) : Type 0 where
    pub fixed : FixedPoint w
    pub maximal : (v : List ℕ) → FixedPoint v → guess_found s w ⊂ guess_found s v → ⊥
