-- A guess by itself: the setting that has its reduct as the program of every guess. What is said of a guess looks at no other program.
-- Assumes nothing.
use Rattle.std.specs.Prelude.{ℕ, ◌≡◌, refl, List}
use Rattle.std.proofs.Common.{ap, ◌∙◌}
use Rattle.semantics.specs.Definitions.Rules.{Rule}
use Rattle.semantics.specs.Definitions.Setting.{Setting}
use Rattle.semantics.specs.Definitions.Verdict.{belief_sets, guess_found, verdict}
use Rattle.semantics.specs.Definitions.Propagation.{contradicted}
use Rattle.semantics.specs.Definitions.Day.{under}
use Rattle.guess.specs.declared.outline.Outline.{Outline}
use Rattle.guess.specs.Programs.{unmasked_in, setting_in, Outlines}
use Rattle.guess.specs.Negations.{negations_by}
use Rattle.guess.specs.Numbered.{negations_by_lem}

-- a guess whose reduct is p, under the day's masks
abbrev pub setting_by : Outline → List Rule → Setting
setting_by x p = under x.ins x.outs (record { atoms = x.atoms; negations = negations_by x; program = λ _. p })

-- a setting, for the guess g alone
abbrev alone : Setting → (g : ℕ) → Setting
alone s g = record { atoms = s.atoms; negations = s.negations; program = λ _. s.program g }

verdict-alone : (s : Setting) (g : ℕ) → verdict (alone s g) g ≡ verdict s g
unfolding verdict belief_sets guess_found
verdict-alone s g = refl

contradicted-alone : (s : Setting) (g : ℕ) → contradicted (alone s g) g ≡ contradicted s g
unfolding contradicted
contradicted-alone s g = refl

-- of rules in words, with their outline
module _ {x : Outline} {words : List ℕ} (o : Outlines x words) (g : ℕ) {p : List Rule} (reduct : p ≡ (unmasked_in x words).program g) where
  same : setting_by x p ≡ alone (setting_in x words) g
  same i = under x.ins x.outs (record { atoms = x.atoms; negations = negations_by_lem o i; program = λ _. reduct i })

  pub verdict_by_lem : verdict (setting_by x p) g ≡ verdict (setting_in x words) g
  verdict_by_lem = ap (λ z. verdict z g) same ∙ verdict-alone (setting_in x words) g

  pub contradicted_by : contradicted (setting_by x p) g ≡ contradicted (setting_in x words) g
  contradicted_by = ap (λ z. contradicted z g) same ∙ contradicted-alone (setting_in x words) g
