-- What a guess that is tested counts as, by the code's verdict. Assumes nothing.
use Prim.Native.Nat.{ℕ, ◌^◌, ◌≤◌}
use mathlib.Core.Path.{◌≡◌, sym, ap, ◌∙◌}
use mathlib.Core.List.{List}
use Rattle.semantics.specs.Definitions.Rules.{Rule}
use Rattle.semantics.specs.Definitions.Verdict as meant
use Rattle.semantics.specs.Walk.{judged_as}
use Rattle.semantics.proofs.Theorems.Verdict.{verified_few}
use Rattle.guess.specs.declared.outline.Outline.{Outline}
use Rattle.guess.specs.Settings.{setting_by}
use Rattle.verdict.specs.declared.Verdict.{Verdict}
use Rattle.verdict.specs.declared.Verdict.TheVariants.{Verified}
use Rattle.verdict.specs.Verdicts.{verdict_of}

pub judged_as_lem : (g : ℕ) {w : meant.Verdict} (v u : Verdict) → verdict_of v ≡ w → v ≡ u → judged_as g (verdict_of u) ≡ judged_as g w
judged_as_lem g v u is told = ap (λ z. judged_as g (verdict_of z)) (sym told) ∙ ap (judged_as g) is

-- the number of belief sets fits a word
pub sets-fit : (x : Outline) (g : ℕ) (p : List Rule) {v : Verdict} {known possible sets : ℕ} → verdict_of v ≡ meant.verdict (setting_by x p) g
    → v ≡ Verified known possible sets → sets ≤ 2 ^ x.atoms
sets-fit x g p is told = verified_few (setting_by x p) g (sym is ∙ ap verdict_of told)
