-- The verdict, from what is gathered. Assumes nothing.
use Prim.Native.Nat.{ℕ}
use mathlib.Core.Path.{◌≡◌, sym, ap, ◌∙◌}
use mathlib.Core.List.{List, ◌++◌}
use Rattle.semantics.specs.Definitions.Rules.{Rule}
use Rattle.semantics.specs.Definitions.Verdict.{verdict}
use Rattle.semantics.specs.Definitions.Pass.{Gathered, gathered, verdict_from}
use Rattle.semantics.specs.Definitions.Day.{day_constraints}
use Rattle.semantics.proofs.Theorems.Pass.{one_pass_lem, same-verdict}
use Rattle.guess.specs.declared.outline.Outline.{Outline}
use Rattle.guess.specs.Negations.{negations_by}
use Rattle.guess.specs.Settings.{setting_by}

-- of a guess whose reduct is p, under the day's masks
pub decided_by : (x : Outline) (p : List Rule) (g : ℕ) {y : Gathered} → y ≡ gathered x.atoms (p ++ day_constraints x.ins x.outs)
    → verdict_from (negations_by x) y g ≡ verdict (setting_by x p) g
decided_by x p g e =
    ap (λ y. verdict_from (negations_by x) y g) (e ∙ sym (one_pass_lem x.atoms (p ++ day_constraints x.ins x.outs))) ∙ same-verdict (setting_by x p) g
