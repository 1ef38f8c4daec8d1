-- The listing as it is run: a walk along a list of guesses with the views met so far. The definitions of document 01 do not rest on
-- it; Theorems/Walk.antt shows that it gives what they say.
use Rattle.std.specs.Prelude.{ℕ, ◌+◌, ◌^◌, Bool, cond}
use mathlib.Core.List.{List, [], ◌∷◌, ◌++◌, foldl}
use Rattle.sets.specs.Lists.{some}
use Rattle.sets.specs.Sets.{◌⊂?◌}
use Rattle.semantics.specs.Definitions.Setting.{Setting}
use Rattle.semantics.specs.Definitions.Check.{most_negations}
use Rattle.semantics.specs.Definitions.Verdict.{Verdict, empty, other, verified, verdict}
use Rattle.semantics.specs.Definitions.Propagation.{contradicted}
use Rattle.semantics.specs.Definitions.Listing.{Tally, View}

-- as many records as a listing has room for: one for each guess of as many negations as refusal 7 allows
abbrev pub records_room : ℕ
records_room = 2 ^ most_negations

pub record Walked : Type 0 where
  pub met : List View
  pub tally : Tally

abbrev pub start : Walked
start = record { met = []; tally = record { views = 0; covered = 0; ruled = 0; tested = 0; empty = 0; other = 0 } }

-- what a guess counts as
pub data Outcome : Type 0 where
  Covered Ruled Empty Other : Outcome
  IsView : View → Outcome

-- "they are empty, other or views by their verdict"
abbrev pub judged_as : (guess : ℕ) → Verdict → Outcome
judged_as g empty = Empty
judged_as g (other found) = Other
judged_as g (verified known possible sets) = IsView (record { guess = g; known = known; possible = possible; sets = sets })

-- covered; "ruled: not covered, and contradicted"; "tested: all others"
abbrev pub outcome_by : (guess : ℕ) (covered contradicted : Bool) → Verdict → Outcome
outcome_by g c r v = cond c Covered (cond r Ruled (judged_as g v))

-- the six numbers with one guess more
abbrev pub counted_by : Tally → Outcome → Tally
counted_by t Covered = record { views = t.views; covered = t.covered + 1; ruled = t.ruled; tested = t.tested; empty = t.empty; other = t.other }
counted_by t Ruled = record { views = t.views; covered = t.covered; ruled = t.ruled + 1; tested = t.tested; empty = t.empty; other = t.other }
counted_by t Empty = record { views = t.views; covered = t.covered; ruled = t.ruled; tested = t.tested + 1; empty = t.empty + 1; other = t.other }
counted_by t Other = record { views = t.views; covered = t.covered; ruled = t.ruled; tested = t.tested + 1; empty = t.empty; other = t.other + 1 }
counted_by t (IsView v) = record { views = t.views + 1; covered = t.covered; ruled = t.ruled; tested = t.tested + 1; empty = t.empty; other = t.other }

-- the view that it adds
abbrev pub views_by : Outcome → List View
views_by Covered = []
views_by Ruled = []
views_by Empty = []
views_by Other = []
views_by (IsView v) = v ∷ []

-- covered where it is a proper subset of the guess of a view met, then ruled where it is contradicted; else judged
abbrev pub outcome : Setting → (met : List View) → ℕ → Outcome
outcome s met g = outcome_by g (some (λ v. g ⊂? v.guess) met) (contradicted s g) (verdict s g)

abbrev pub advance : Setting → Walked → ℕ → Walked
advance s x g = let o = outcome s x.met g in record { met = x.met ++ views_by o; tally = counted_by x.tally o }

unfoldable pub walk : Setting → List ℕ → Walked
walk s l = foldl (advance s) start l
