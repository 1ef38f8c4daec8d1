-- 000, Definition 3: the epistemic negations are those of the literals that appear, each with one number. Assumes nothing.
-- Here the definitions and `dec_mentioned`; the other theorems are in proofs/Theorems/Negations.antt.
use Rattle.std.specs.Prelude.{ℕ, List, ◌⊎◌}
use Rattle.sets.specs.Decides.{Decides, dec_or}
use Rattle.sets.specs.Lists.{◌among◌, dec_some}
use Rattle.sets.specs.Sets.{◌∈◌}
use Rattle.sets.specs.Members.{dec_∈}
use Rattle.semantics.specs.Definitions.Rules.{EpistemicRule, Subjective, K, not_k, M, not_m}
use Rattle.semantics.specs.Definitions.Guesses.{Negation, not_known, may_be, mentioned}

-- a literal of one of two kinds on a appears in the rules
abbrev pub Mentioned : List EpistemicRule → Subjective → Subjective → ℕ → Type 0
Mentioned rs m m' a = (r : EpistemicRule) × (r among rs) × ((a ∈ r.mask m) ⊎ (a ∈ r.mask m'))

-- "not K a" where K a or not K a appears, "M a" where M a or not M a does
abbrev pub Appears : List EpistemicRule → Negation → Type 0
Appears rs (not_known a) = Mentioned rs K not_k a
Appears rs (may_be a) = Mentioned rs M not_m a

abbrev pub atom_of : Negation → ℕ
atom_of (not_known a) = a
atom_of (may_be a) = a

module _ (rs : List EpistemicRule) where
  pub dec_mentioned : (m m' : Subjective) (a : ℕ) → Decides (Mentioned rs m m' a) (mentioned rs m m' a)
  dec_mentioned m m' a = dec_some _ _ rs (λ r _. dec_or (dec_∈ a (r.mask m)) (dec_∈ a (r.mask m')))
