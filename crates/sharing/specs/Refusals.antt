-- Refusals of a shared call, as the code finds them. Assumes nothing.
use Rattle.std.specs.Prelude.{ℕ, ◌*◌, ◌≤◌, ◌<◌, ◌≡◌, List, get_or, Option, Some, None, Ok, Err}
use Rattle.guess.specs.declared.outline.Outline.{Outline}
use Rattle.answers.specs.declared.reason.Reason.TheVariants.{ShortBuffer}
use Rattle.source.specs.Sources.{Source}
use Rattle.listing.specs.declared.paused.Paused.{Paused}
use Rattle.sharing.specs.declared.result.SharedRefusal.{SharedRefusal}
use Rattle.listing.specs.Pauses.{fresh}
use Rattle.sharing.specs.Held.{unread}

-- the first q are accepted
abbrev pub AcceptedTo : List Source → ℕ → Type 0
AcceptedTo sources n = (q : ℕ) → q < n → (x : Outline) × (get_or sources q unread ≡ Ok x)

-- the first of the n sheets that is refused
abbrev pub FirstRefused : List Source → (n : ℕ) → Option SharedRefusal → Type 0
FirstRefused sources n None = AcceptedTo sources n
FirstRefused sources n (Some r) = (r.position < n) × AcceptedTo sources r.position × (get_or sources r.position unread ≡ Err r.refusal)

-- the first q have room for their records
abbrev pub FitTo : List Paused → (rooms : List ℕ) → ℕ → Type 0
FitTo states rooms n = (q : ℕ) → q < n → 4 * (get_or states q fresh).tally.views ≤ get_or rooms q 0

-- the first of the n whose records don't fit: 9, with the number of its views
abbrev pub FirstShort : List Paused → (rooms : List ℕ) (n : ℕ) → Option SharedRefusal → Type 0
FirstShort states rooms n None = FitTo states rooms n
FirstShort states rooms n (Some r) =
    (r.position < n) × FitTo states rooms r.position × (get_or rooms r.position 0 < 4 * (get_or states r.position fresh).tally.views)
    × (r.refusal ≡ record { reason = ShortBuffer; place = (get_or states r.position fresh).tally.views })
