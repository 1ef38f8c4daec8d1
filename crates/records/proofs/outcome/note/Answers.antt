-- `records::outcome::note` meets its contract. Assumes nothing.
use mathlib.Core.Path.{◌≡◌, refl, sym, ap, ◌∙◌}
use mathlib.Core.List.{[]}
use Rattle.sets.specs.Lists.{flat}
use Rattle.semantics.specs.Definitions.Returned.{written}
use Rattle.semantics.specs.Definitions.Listing.{words}
use Rattle.records.specs.declared.outcome.Outcome.{Outcome}
use Rattle.records.specs.declared.outcome.Outcome.TheVariants as outcomes
use Rattle.semantics.specs.Walk.{views_by}
use Rattle.records.specs.Outcomes.{outcome_from}
use mathlib.Core.Path.{◌≡◌}
use Rattle.records.specs.declared.View.{View}
use Rattle.records.proofs.outcome.note.Goals as goal

-- an outcome of the first four adds no view
no_view : (o : Outcome) → ((v : View) → o ≡ outcomes.View v → ⊥) → [] ≡ views_by (outcome_from o)
no_view outcomes.Covered h = refl
no_view outcomes.Ruled h = refl
no_view outcomes.Empty h = refl
no_view outcomes.Other h = refl
no_view (outcomes.View v) h = absurd (h v refl)

pub returns-in_default : goal.returns-in_default
unfolding flat
returns-in_default c =
    let a = c.args in
    ap (λ vs. written (words vs) a.part.now) (no_view a.outcome c.in_default.not-View)

pub returns : goal.returns
unfolding flat
returns c =
    let a = c.args in
    c.write_record.ensures
    ∙ ap (λ vs. written (words vs) a.part.now) (sym (ap (λ o. views_by (outcome_from o)) c.in-View.is))
