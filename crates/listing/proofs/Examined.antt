-- What a guess counts as, by its reduct: ruled, or tested and then by its verdict. Assumes nothing.
use Prim.Native.Nat.{ℕ, ◌+◌}
use mathlib.Core.Path.{◌≡◌, refl, sym, ap, ◌∙◌}
use mathlib.Core.Bool.{false}
use mathlib.Core.List.{List}
use Rattle.semantics.specs.Definitions.Verdict as meant
use Rattle.semantics.specs.Definitions.Listing.{Tally, View}
use Rattle.semantics.specs.Words.{program_in}
use Rattle.semantics.specs.Walk.{Outcome, judged_as, outcome_by, counted_by, outcome}
use Rattle.guess.specs.declared.outline.Outline.{Outline}
use Rattle.guess.specs.Programs.{setting_in, Outlines}
use Rattle.guess.specs.Settings.{setting_by, verdict_by_lem}
use Rattle.listing.specs.Pauses.{Ready}
use Rattle.listing.proofs.Steps.{examined_as}

module _ {x : Outline} {words : List ℕ} (o : Outlines x words) where
  -- of one that would be tested
  pub tested_as : {g : ℕ} {met : List View} {program : List ℕ} {rules : ℕ} → Ready x words g met program rules → {a : Outcome}
      → a ≡ judged_as g (meant.verdict (setting_by x (program_in program rules)) g) → a ≡ outcome (setting_in x words) met g
  tested_as {g} {met} ready e =
      examined_as (setting_in x words) met g ready.uncovered
      (e ∙ ap (judged_as g) (verdict_by_lem o g ready.reduct) ∙ ap (λ r. outcome_by g false r (meant.verdict (setting_in x words) g)) (sym ready.free))

-- it counts as a test
pub one_test : (t : Tally) (g : ℕ) (v : meant.Verdict) {a : Outcome} → a ≡ judged_as g v → (counted_by t a).tested ≡ t.tested + 1
one_test t g v e = ap (λ z. (counted_by t z).tested) e ∙ by_verdict v
  where
    by_verdict : (v : meant.Verdict) → (counted_by t (judged_as g v)).tested ≡ t.tested + 1
    by_verdict meant.empty = refl
    by_verdict (meant.other found) = refl
    by_verdict (meant.verified known possible sets) = refl
