-- What the answers of the code mean. Assumes nothing.
use Rattle.std.specs.Prelude.{ℕ, ◌≤◌, ◌<◌, ◌≡◌, true, false, List, take, Result, Ok, Err}
use Rattle.sets.specs.Sets.{◌∪◌}
use Rattle.semantics.specs.Definitions.Rules.{Rule}
use Rattle.semantics.specs.Words.{rule_in, program_in}
use Rattle.semantics.specs.Definitions.Stable.{satisfies, is_model}
use Rattle.semantics.specs.Definitions.Day.{stable_under}
use Rattle.stable.specs.Applied.{applied, positive_program}
use Rattle.stable.specs.Nogoods.{Excludes}
use Rattle.stable.specs.declared.nogood.Nogood.{Nogood}
use Rattle.stable.specs.declared.positive.PositiveRule.{PositiveRule}

-- i is a stable set that the masks allow; or it is not, and the nogood holds
abbrev pub JudgedBy : (ins outs : ℕ) → List Rule → (i : ℕ) → Result Unit Nogood → Type 0
JudgedBy ins outs p i (Ok _) = stable_under ins outs p i ≡ true
JudgedBy ins outs p i (Err r) = (stable_under ins outs p i ≡ false) × Excludes ins outs p r.has r.lacks

-- the nogood of a rule
pub record OfRule (r : Rule) (n : Nogood) : Type 0 where
  pub has : n.has ≡ r.plain ∪ r.not_nots
  pub lacks : n.lacks ≡ r.nots ∪ r.head

-- i is a model of the first rules of a program, and its rules whose bodies hold in i are the first n in `out`; or some rule fails in i, and the
-- nogood is its own
abbrev pub ReducedBy : (program : List ℕ) (rules i : ℕ) (out : List PositiveRule) → Result ℕ Nogood → Type 0
ReducedBy program rules i out (Ok n) =
    (n ≤ rules) × (is_model (program_in program rules) i ≡ true) × (positive_program (take n out) ≡ applied i (program_in program rules))
ReducedBy program rules i out (Err r) =
    (j : ℕ) × (j < rules) × (satisfies i (rule_in program j) ≡ false) × OfRule (rule_in program j) r
