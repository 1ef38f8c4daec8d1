-- The desk call under the day's masks: what it owes (document 02, K3 and K7). Assumes nothing.
use Rattle.std.specs.Prelude.{ℕ, ◌+◌, ◌*◌, ◌/◌, ◌<◌, ◌≡◌, refl, List, length}
use Rattle.std.proofs.Common.{ap, ap₂, ◌∙◌, ⊎_elim, arith}
use Rattle.semantics.specs.Definitions.Setting.{Setting}
use Rattle.semantics.specs.Definitions.Returned.{Returned, accepted, refusal, afterwards}
use Rattle.semantics.specs.Definitions.Calls.{Result}
use Rattle.semantics.specs.Definitions.Desk.{desk_need, desk_bytes, desk_call, desk_number}
use Rattle.semantics.specs.Definitions.Day.{of_day}
use Rattle.semantics.proofs.Theorems.ListCall.{list_refused}
use Rattle.semantics.proofs.Theorems.Desk.{refused_small}
use Rattle.semantics.proofs.Theorems.DaySource.{day_bounded}
use Rattle.semantics.specs.Theorems.DayCall.{DayDemand}
use Rattle.semantics.proofs.Theorems.DayCall.{day_demand}
use Rattle.desk.specs.Demand3.{desk_demand}

-- r is what the desk call returns of that source where it is lent `before`, and leaves `after`
abbrev pub Returns : (from : Returned Setting) (r : ℕ) (before after : List ℕ) → Type 0
Returns from r before after =
    (r ≡ desk_number (desk_call from (length before))) × (after ≡ afterwards desk_bytes (desk_call from (length before)) before)

-- "the refusal's number times 65,536 plus its place", which is below 65,536
abbrev pub NumberPlace : (r number place : ℕ) → Type 0
NumberPlace r number place = (r ≡ number * 65536 + place) × (place < 65536)

module _ (sheet : List ℕ) (ins outs r : ℕ) (before after : List ℕ) where
  abbrev pub DeskDay : Type 0
  DeskDay = DayDemand sheet ins outs (λ from. Returns from r before after) (NumberPlace r)

  -- ---- proof
  abbrev source : Returned Setting
  source = of_day sheet ins outs

  module _ (p : Returns source r before after) where
    -- 13 is not 9
    thirteen : (q : Returned Result) → desk_call source (length before) ≡ q → (place : ℕ) → NumberPlace r 13 place → source ≡ refusal 13 place
    thirteen (accepted v) e place h = let z = p.0 ∙ ap desk_number e in absurd (omega (arith, h.0))
    thirteen (refusal number q) e place h =
        let z : r ≡ number * 65536 + q = p.0 ∙ ap desk_number e in
        let (_, small) = refused_small (day_bounded sheet ins outs) (length before / 2) number q desk_need e in
        let same : number ≡ 13 = omega (arith, h.0, h.1) in
        let there : q ≡ place = omega (arith, h.0, h.1) in
        ⊎_elim (λ d. d ∙ ap₂ refusal same there) (λ (s, d, l, n, _). absurd (omega arith)) ((list_refused desk_need source (length before / 2) number q).0 e)

    pub desk_day : DeskDay
    desk_day =
        day_demand sheet ins outs (λ from. Returns from r before after) (NumberPlace r) p
        (λ number place e.
        let (d, _, small) = (desk_demand source (day_bounded sheet ins outs) r before after p.0 p.1).refused_before number place e in
        (d, small))
        (thirteen (desk_call source (length before)) refl)
