-- What the desk call returns, from what `engine::list` answers. Assumes nothing.
use Prim.Native.Nat.{ℕ, ◌+◌, ◌*◌, ◌/◌, ◌≤◌, ◌<◌}
use mathlib.Core.Path.{◌≡◌, sym, ap, ap₂, ◌∙◌, subst}
use mathlib.Core.List.{List, ◌++◌}
use mathlib.Core.Logic.{inl}
use native.Mathlib.Omega.{arith}
use lib.ListN.{length, take, drop, length-append}
use lib.Seq.{take_at}
use Rattle.semantics.specs.Definitions.Setting.{Setting}
use Rattle.semantics.specs.Definitions.Returned.{Returned, accepted, refusal, answer, written, afterwards}
use Rattle.semantics.specs.Definitions.Listing.{Tally, six, tallied, tally_of, listing, words}
use Rattle.semantics.specs.Definitions.Calls.{result_of, records_need, list_call, records_of}
use Rattle.semantics.specs.Definitions.Day.{of_day}
use Rattle.semantics.specs.Definitions.Desk.{bytes_of, desk_need, desk_bytes, desk_call, desk_number}
use Rattle.semantics.specs.Theorems.Returned.{fits_limited, short_limited, answer_accepted, answer_refused}
use Rattle.semantics.specs.Walk.{records_room}
use Rattle.semantics.specs.Theorems.Source.{Bounded}
use Rattle.semantics.specs.Theorems.Tally.{AtMost}
use Rattle.semantics.proofs.Theorems.Listing.{listing_long}
use Rattle.semantics.proofs.Theorems.Records.{words_long}
use Rattle.semantics.proofs.Theorems.ListCall.{result-given, result_says, list_refused}
use Rattle.semantics.proofs.Theorems.DaySource.{day_bounded}
use Rattle.semantics.proofs.Theorems.Desk.{tally_small, refused_small, never_short}
use Rattle.std.specs.Prelude.{Ok, Err}
use Rattle.answers.specs.Refusals.{number_of}
use Rattle.answers.specs.declared.refusal.Refusal.{Refusal}
use Rattle.answers.specs.declared.tally.Tally.{Tally as Counts}
use Rattle.engine.specs.Answers.{OrRefused, listed}
use Rattle.desk.specs.Demand3.{DeskDemand, desk_demand}
use Rattle.desk.specs.Days.{Returns, DeskDay, desk_day}

-- ---- what is returned, and the lent bytes
-- with the demands that follow
pub met : (sheet : List ℕ) (ins outs : ℕ) (out : List ℕ) {r : ℕ} {after : List ℕ} →
    let from = of_day sheet ins outs in
    Returns from r out after
    → (r ≡ desk_number (desk_call from (length out)))
    × ((after ≡ afterwards desk_bytes (desk_call from (length out)) out) × (DeskDemand from r out after × DeskDay sheet ins outs r out after))
met sheet ins outs out {r} {after} p =
    let from = of_day sheet ins outs in
    (p.0, (p.1, (desk_demand from (day_bounded sheet ins outs) r out after p.0 p.1, desk_day sheet ins outs r out after p)))

kept : (from : Returned Setting) (out : List ℕ) (number place : ℕ) → desk_call from (length out) ≡ refusal number place → Returns from (number * 65536 + place) out out
kept from out number place e = (sym (ap desk_number e), sym (ap (λ q. afterwards desk_bytes q out) e))

-- ---- a buffer of so many words was lent to `list`, which answered r
module _ (from : Returned Setting) (bounded : Bounded from) (size : ℕ) {r : OrRefused Counts} (answered : listed r ≡ answer (λ v. v.tally) (list_call from size)) where
  -- a refusal comes before the listing where the buffer is never too short
  module _ {q : Refusal} (told : r ≡ Err q) (long : 4 * records_room ≤ size) where
    abbrev number : ℕ
    number = number_of q.reason

    abbrev place : ℕ
    place = q.place

    returned : list_call from size ≡ refusal number place
    returned = answer_refused (λ v. v.tally) (list_call from size) (sym answered ∙ ap listed told)

    pub small_refusal : (1 ≤ number) × (place < 65536)
    small_refusal = refused_small bounded size number place records_need returned

    pub refused_too : (out : List ℕ) → Returns from (number * 65536 + place) out out
    refused_too out =
        kept from out number place ((list_refused desk_need from (length out / 2) number place).1 (inl (never_short bounded size number place long returned)))

  module _ {t : Counts} (told : r ≡ Ok t) where
    abbrev tally : Tally
    tally = tallied t.views t.covered t.ruled t.tested t.empty t.other

    abbrev views : ℕ
    views = t.views

    found : (s : Setting) × (from ≡ accepted s) × (list_call from size ≡ accepted (result_of s)) × (tally_of s ≡ tally) × (4 * length (listing s) ≤ size)
    found =
        let (v, d, e) = answer_accepted (λ v. v.tally) (list_call from size) (sym answered ∙ ap listed told) in
        let (s, h, same, fit) = result_says records_need from size d in
        (s, h, d ∙ ap accepted same, sym (ap (λ z. z.tally) same) ∙ e, fit)

    long : (s : Setting) → tally_of s ≡ tally → length (listing s) ≡ views
    long s e = listing_long s ∙ ap (λ t. t.views) e

    pub small : AtMost tally 65535
    small =
        let (s, h, _, e, _) = found in
        let (a, b, c, d, f, g) = tally_small bounded h in
        subst (λ t. AtMost t 65535) e
        (omega (arith, a), omega (arith, b), omega (arith, c), omega (arith, d), omega (arith, f), omega (arith, g))

    pub too_short : (out : List ℕ) → length out / 2 < 6 + 4 * views → Returns from (9 * 65536 + views) out out
    too_short out l =
        let (s, h, _, e, _) = found in
        let n = long s e in
        kept from out 9 views (result-given desk_need from (length out / 2) h
        ∙ short_limited _ (length out / 2) _ (result_of s) (subst (λ m. length out / 2 < 6 + 4 * m) (sym n) l) ∙ ap (refusal 9) n)

    -- the buffer of `list` after it answered: the records of the views are its first words
    pub fits : (part out : List ℕ) {after final : List ℕ} → after ≡ afterwards records_of (list_call from size) part
        → 6 + 4 * views ≤ length out / 2 → final ≡ written (bytes_of (six tally ++ take (4 * views) after)) out
        → Returns from 0 out final
    fits part out {after} {final} left l f =
        let (s, h, d, t, _) = found in
        let ws = words (listing s) in
        let first : take (4 * views) after ≡ ws =
        ap (take (4 * views)) (left ∙ ap (λ q. afterwards records_of q part) d)
        ∙ take_at ws (drop (length ws) part) (4 * views) (words_long (listing s) ∙ ap (λ n. 4 * n) (long s t)) in
        let call : desk_call from (length out) ≡ accepted (result_of s) =
        result-given desk_need from (length out / 2) h
        ∙ fits_limited _ (length out / 2) _ (result_of s) (subst (λ m. 6 + 4 * m ≤ length out / 2) (sym (long s t)) l) in (
          sym (ap desk_number call),
          f ∙ ap (λ b. written (bytes_of b) out) (ap₂ (λ u w. six u ++ w) (sym t) first) ∙ sym (ap (λ q. afterwards desk_bytes q out) call),
        )

    pub records_fit : (part : List ℕ) {after : List ℕ} → size ≡ length part → after ≡ afterwards records_of (list_call from size) part → 4 * views ≤ length after
    records_fit part e left =
        let (s, h, d, t, fit) = found in
        let ws = words (listing s) in
        let whole = ap length (left ∙ ap (λ q. afterwards records_of q part) d) ∙ length-append ws (drop (length ws) part) in
        omega (arith, whole, words_long (listing s), long s t)
