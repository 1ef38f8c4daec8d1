-- Document 02, K4, of the answers of the call `share`. Assumes nothing.
use Rattle.std.specs.Prelude.{ℕ, ◌*◌, ◌≤◌, ◌<◌, ◌≡◌, refl, List, map, ◌↔◌, ◌⊎◌, length, get_or, Ok}
use Rattle.std.proofs.Common.{sym, ap, ◌∙◌, subst, inl, inr, ⊎_elim, arith}
use Rattle.sets.specs.Decides.{unequal}
use Rattle.semantics.specs.Definitions.Reading.{field}
use Rattle.semantics.specs.Definitions.Sheet.{Sheet, longest_sheet, two_sections}
use Rattle.semantics.specs.Definitions.Setting.{Setting}
use Rattle.semantics.specs.Definitions.Returned.{accepted}
use Rattle.semantics.specs.Definitions.Check.{of_sheet}
use Rattle.semantics.specs.Definitions.Sharing.{turns_at, paid, shares_of, granted, denied, share_call, carried, lent_after}
use Rattle.semantics.specs.Definitions.Sharing as meant
use Rattle.semantics.proofs.Theorems.Source.{sheet_refused}
use Rattle.semantics.specs.Theorems.Places.{SheetRefusal}
use Rattle.semantics.proofs.Theorems.Places.{refusal_number, refusal_place}
use Rattle.semantics.specs.Theorems.Check.{Refuses}
use Rattle.semantics.proofs.Theorems.Check.{opened_refuses}
use Rattle.semantics.proofs.Theorems.TwoSections.{two_sections_short}
use Rattle.semantics.specs.Theorems.WorldView.{WorldView}
use Rattle.semantics.specs.Theorems.Tally.{Number}
use Rattle.semantics.proofs.Theorems.Tally.{is_tally}
use Rattle.semantics.proofs.Theorems.Listing.{listing-many}
use Rattle.allowance.specs.Shares.{no_sheet, met_few}
use Rattle.allowance.specs.ShareCall.{AllRead, SheetRefused, reached, Denied, share_granted, share_denied}
use Rattle.allowance.specs.Carried.{Reached, met, reached_so, reached-only}
use Rattle.sharing.specs.declared.result.Shares.{Shares}
use Rattle.sharing.specs.Answers.{Shared, shared}
use Rattle.sharing.specs.Shares.{at, AsShared}
use Rattle.sharing.specs.Accepted.{SharedOut, is_accepted, room, accepted_granted, shared-out}

-- a sheet that is accepted
abbrev pub Accepts : List ℕ → Type 0
Accepts sheet = (s : Setting) × (of_sheet sheet ≡ accepted s)

-- ---- r is what `share` answers where it is lent `before`, a buffer for each of four sheets, and leaves `after`
pub record SharingDemand (count : ℕ) (sheets : List (List ℕ)) (allowance : ℕ) (r : Shared) (before after : List (List ℕ)) : Type 0 where
  -- "14, place and position 0, for no sheet or more than four, before any sheet is read": exactly then, whatever the sheets hold
  pub fourteen_exactly : (place position : ℕ) → (shared r ≡ denied 14 place position) ↔ (((count ≡ 0) ⊎ (4 < count)) × (place ≡ 0) × (position ≡ 0))
  -- "the first refusal, sheet by sheet, is returned with the sheet's position from 0": exactly as the check refuses that sheet, those before it accepted
  pub sheet_refused_exactly : (number place position : ℕ) → (number ≡ 9 → ⊥) → (number ≡ 14 → ⊥)
      → (shared r ≡ denied number place position) ↔ ((0 < count) × (count ≤ 4) × (position < count) × ((q : ℕ) → q < position → Accepts (at sheets q))
      × Refuses (at sheets position) number place)
  -- "Here 9 is given, with the number of views reached, when those don't fit, and only after every sheet has passed the other checks": exactly then,
  -- with the position of the first such sheet
  pub nine_exactly : (place position : ℕ) → (shared r ≡ denied 9 place position) ↔ ((0 < count) × (count ≤ 4)
      × (of : List Setting) × (tests : ℕ → ℕ) × Reached count sheets allowance of tests
      × (position < count) × (place ≡ length (met of tests position)) × (length (at before position) < 4 * place)
      × ((q : ℕ) → q < position → 4 * length (met of tests q) ≤ length (at before q)))
  -- accepted exactly when there are one to four sheets, all are accepted, and all views reached fit
  pub accepted_exactly : ((s : Shares) × (r ≡ Ok s)) ↔ ((0 < count) × (count ≤ 4)
      × (of : List Setting) × (tests : ℕ → ℕ) × Reached count sheets allowance of tests
      × ((q : ℕ) → q < count → 4 * length (met of tests q) ≤ length (at before q)))
  -- "with buffers long enough": those that would take the whole listings, whatever the allowance
  pub long_enough : 0 < count → count ≤ 4 → (of : List Setting) → AllRead count sheets of
      → ((q n : ℕ) → q < count → Number (get_or of q no_sheet) (WorldView (get_or of q no_sheet)) n → 4 * n ≤ length (at before q)) → (s : Shares) × (r ≡ Ok s)
  -- what each sheet then gets: its tests, its views and its records
  pub accepted_shares : (s : Shares) → r ≡ Ok s → SharedOut count sheets allowance s before after
  -- where it is refused, "all buffers holding what they held"
  pub refused_keeps : (number place position : ℕ) → shared r ≡ denied number place position → after ≡ before
  -- the numbers are 14, 9, and those of the check, 1 to 7 and 15
  pub refused_within : (number place position : ℕ) → shared r ≡ denied number place position
      → (position < 4) × ((number ≡ 14) ⊎ ((number ≡ 9) ⊎ (SheetRefusal 7 number × (place ≤ longest_sheet))))
  -- K7: "a two-section sheet gives 1"
  pub two-sections : (position : ℕ) (x : Sheet) (end : ℕ) → count ≤ 4 → position < count → ((q : ℕ) → q < position → Accepts (at sheets q))
      → two_sections (at sheets position) ≡ field x end → shared r ≡ denied 1 (length (at sheets position)) position

-- ---- proofs
carried_denied : (c : meant.Shared meant.Shares) {number place position : ℕ} → carried c ≡ denied number place position → c ≡ denied number place position
carried_denied (granted v) e = unequal cc
carried_denied (denied number place position) e = cc

-- The last four hypotheses: four sheets and four buffers, and what the call ensures.
module _ (count : ℕ) (sheets : List (List ℕ)) (allowance : ℕ) (r : Shared) (before after : List (List ℕ))
    (four-sheets : length sheets ≡ 4) (four_buffers : length before ≡ 4)
    (answers : shared r ≡ carried (share_call count sheets allowance (map length before)))
    (leaves : after ≡ lent_after (share_call count sheets allowance (map length before)) before) where
  abbrev rooms : List ℕ
  rooms = map length before

  call : AsShared count sheets allowance r before after
  call = record { four-sheets = four-sheets; four_buffers = four_buffers; answers = answers; leaves = leaves }

  -- refused exactly when the definition has it
  told : (number place position : ℕ) → (shared r ≡ denied number place position) ↔ Denied count sheets allowance rooms number place position
  told number place position =
      let (there, back) = share_denied count sheets four-sheets allowance rooms number place position in
      (λ e. there (carried_denied _ (sym answers ∙ e)), λ h. answers ∙ ap carried (back h))

  -- no sheet is refused with 9 or 14
  of_check : {number place position : ℕ} → SheetRefused count sheets number place position → SheetRefusal 7 number × (place ≤ longest_sheet)
  of_check {number} {place} d =
      let e = (sheet_refused _ number place).0 d.refuses in
      (refusal_number _ number place e, refusal_place _ number place e)

  not_over : {number place position : ℕ} → SheetRefused count sheets number place position → 7 < number → number < 15 → ⊥
  not_over d l h = ⊎_elim (λ few. omega arith) (λ e. omega arith) (of_check d).0

  fourteen : (place position : ℕ) → (shared r ≡ denied 14 place position) ↔ (((count ≡ 0) ⊎ (4 < count)) × (place ≡ 0) × (position ≡ 0))
  fourteen place position =
      let (there, back) = told 14 place position in (
        λ e. ⊎_elim (λ (o, _, p, i). (o, p, i))
            (λ (_, why). absurd (⊎_elim (λ d. not_over d (omega arith) (omega arith)) (λ (_, _, s). omega (arith, s.nine)) why))
            (there e),
        λ (o, p, i). back (inl (o, refl, p, i)),
      )

  by_sheet : (number place position : ℕ) → (number ≡ 9 → ⊥) → (number ≡ 14 → ⊥)
      → (shared r ≡ denied number place position) ↔ ((0 < count) × (count ≤ 4) × (position < count) × ((q : ℕ) → q < position → Accepts (at sheets q))
      × Refuses (at sheets position) number place)
  by_sheet number place position not-9 not-14 =
      let (there, back) = told number place position in (
        λ e. ⊎_elim (λ (_, n, _, _). absurd (not-14 n))
            (λ (i, why).
            ⊎_elim (λ d. (i.0, i.1, d.there, d.earlier, (opened_refuses _ number place).0 ((sheet_refused _ number place).0 d.refuses)))
            (λ (_, _, s). absurd (not-9 s.nine))
            why)
            (there e),
        λ (some, few, h, f, d). back (inr (
          (some, few),
          inl (record {
            there = h;
            earlier = f;
            refuses = (sheet_refused _ number place).1 ((opened_refuses _ number place).1 d);
          }),
        )),
      )

  nine : (place position : ℕ) → (shared r ≡ denied 9 place position) ↔ ((0 < count) × (count ≤ 4)
      × (of : List Setting) × (tests : ℕ → ℕ) × Reached count sheets allowance of tests
      × (position < count) × (place ≡ length (met of tests position)) × (length (at before position) < 4 * place)
      × ((q : ℕ) → q < position → 4 * length (met of tests q) ≤ length (at before q)))
  nine place position =
      let (there, back) = told 9 place position in (
        λ e. ⊎_elim (λ (_, n, _, _). absurd (omega arith))
            (λ (i, why).
            ⊎_elim (λ d. absurd (not_over d (omega arith) (omega arith)))
            (λ (of, read, s). (
              i.0,
              i.1,
              of,
              turns_at (paid allowance of),
              reached_so allowance read _ (λ q h. refl),
              s.there,
              s.views,
              omega (arith, s.short, room before position),
              λ q h. omega (arith, s.earlier q h, room before q),
            ))
            why)
            (there e),
        λ (some, few, of, tests, m, h, views, short, f). back (inr (
          (some, few),
          inr (
            of,
            m.read,
            record {
              there = h;
              earlier = λ q l. omega (arith, f q l, room before q, ap length (reached-only allowance m q (omega arith)));
              short = omega (arith, room before position);
              views = views ∙ ap length (reached-only allowance m position h);
              nine = refl;
            },
          ),
        )),
      )

  -- all sheets accepted, and room for what they reach
  fitting : (of : List Setting) → 0 < count → count ≤ 4 → AllRead count sheets of → ((q : ℕ) → q < count → 4 * length (reached allowance of q) ≤ length (at before q))
      → (s : Shares) × (r ≡ Ok s)
  fitting of some few read f =
      let d = (share_granted count sheets four-sheets allowance rooms (shares_of allowance of)).1
      (of, record { some = (some, few); read = read; fit = λ q h. omega (arith, f q h, room before q) }, refl) in
      let (s, e, _) = is_accepted r (answers ∙ ap carried d) in
      (s, e)

  pub sharing_demand : SharingDemand count sheets allowance r before after
  sharing_demand = record {
    fourteen_exactly = fourteen;
    sheet_refused_exactly = by_sheet;
    nine_exactly = nine;
    accepted_exactly = (
      λ (s, e).
          let (of, g) = accepted_granted (subst (λ r. AsShared count sheets allowance r before after) e call) in
          (g.some.0, g.some.1, of, turns_at (paid allowance of), reached_so allowance g.read _ (λ q h. refl), λ q h. omega (arith, g.fit q h, room before q)),
      λ (some, few, of, tests, m, f).
          fitting of some few m.read (λ q h. subst (λ vs. 4 * length vs ≤ length (at before q)) (reached-only allowance m q h) (f q h)),
    );
    long_enough = λ some few of read f. fitting of some few read (λ q h.
        let u = get_or of q no_sheet in
        let n = (is_tally u).views_are in
        omega (arith, f q _ h n, listing-many u n, (met_few u (turns_at (paid allowance of) q)).0));
    accepted_shares = λ s e. shared-out (subst (λ r. AsShared count sheets allowance r before after) e call);
    refused_keeps = λ number place position e. leaves ∙ ap (λ c. lent_after c before) (carried_denied (share_call count sheets allowance rooms) (sym answers ∙ e));
    refused_within = λ number place position e.
        ⊎_elim (λ (_, n, _, i). (omega arith, inl n))
        (λ (i, why).
        ⊎_elim (λ d. (omega (arith, d.there, i.1), inr (inr (of_check d)))) (λ (_, _, s). (omega (arith, s.there, i.1), inr (inl s.nine))) why)
        ((told number place position).0 e);
    two-sections = λ position x end few h f e.
        (by_sheet 1 (length (at sheets position)) position (λ n. omega arith) (λ n. omega arith)).1
        (omega arith, few, h, f, (opened_refuses _ 1 _).0 (two_sections_short (at sheets position) x end e));
  }
