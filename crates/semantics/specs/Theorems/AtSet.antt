-- What is gathered of the rules at a set of atoms says for every guess whether the set is stable. Assumes nothing.
-- Here the definitions; the theorems are in proofs/Theorems/AtSet.antt.
use Rattle.std.specs.Prelude.{ℕ, ◌≡◌}
use Rattle.sets.specs.Sets.{◌∈◌, Meets, single}
use Rattle.semantics.specs.Definitions.Rules.{EpistemicRule}
use Rattle.semantics.specs.Definitions.Setting.{Setting}
use Rattle.semantics.specs.AtSet.{need, barred, GatheredRule}
use Rattle.semantics.specs.Theorems.On.{Body}

-- ---- the rules that are gathered
-- the body holds in i but for K and M, and what bars the rule is not needed
abbrev pub Gathers : Setting → (i : ℕ) → EpistemicRule → Type 0
Gathers s i r = Body i r.objective × (Meets (barred s r) (need s i) → ⊥)

-- ---- the negations of a rule, as a guess is found
-- the rule has that atom as its only head atom in the set, and not among its plain atoms
abbrev pub Supports : GatheredRule → (a : ℕ) → Type 0
Supports e a = (e.head ≡ single a) × (a ∈ e.plain → ⊥)
