-- What the check answers: it accepts exactly the layouts of names, rules and pairs that fit, with their numbers; it refuses exactly what the reading
-- of the sections refuses, and k over 12; and its refusals are 1 to 7 and 15, each at a place of at most 1,236, the length of the longest sheet.
-- Assumes nothing.
use Rattle.std.specs.Prelude.{ℕ, ◌≤◌, ◌≡◌, refl, List, ◌↔◌}
use Rattle.std.proofs.Common.{sym, ap, ◌∙◌, arith}
use Rattle.std.proofs.Math.Bool.{Bool}
use Rattle.std.proofs.Math.Logic.{inl, inr, ⊎_elim}
use borrow.Author.Tests.{leb-false, lt-leb}
use Rattle.std.proofs.Math.Dec.{leb}
use Rattle.semantics.specs.Definitions.Reading.{field, refused}
use Rattle.semantics.specs.Definitions.Sheet.{Opposites, Sheet, longest_sheet, sections}
use Rattle.semantics.specs.Definitions.Setting.{Setting, k}
use Rattle.semantics.specs.Definitions.Check.{most_negations, setting, opened, of_sheet, Numbers, numbers_of, check}
use Rattle.semantics.specs.Definitions.Returned.{accepted, refusal}
use Rattle.semantics.specs.Theorems.Reading.{then_field, require_refused}
use Rattle.semantics.proofs.Theorems.Source.{said_accepted, said_refused, sheet_accepted, sheet_refused}
use Rattle.semantics.specs.Theorems.Places.{SheetRefusal}
use Rattle.semantics.proofs.Theorems.Places.{refusal_place, refusal_number, sections_number}
use Rattle.semantics.specs.Theorems.Layout.{IsBytes, sheet_bytes, Fits}
use Rattle.semantics.proofs.Theorems.Fitting.{fits_accepted}
use Rattle.semantics.proofs.Theorems.Exact.{accepted_exactly}
use Rattle.semantics.specs.Theorems.Check.{numbers_for, LaidOut}
use Rattle.semantics.specs.Theorems.Check as defined

-- ---- accepted
pub check_accepts : (names rules : List (List ℕ)) (pairs : List Opposites) → Fits names rules pairs
    → check (sheet_bytes names rules pairs) ≡ accepted (numbers_for names rules)
unfolding check
check_accepts names rules pairs f =
    (said_accepted numbers_of (sheet_bytes names rules pairs) (numbers_for names rules)).1 (_, _, fits_accepted names rules pairs f, refl)

pub check_exactly : (s : List ℕ) → IsBytes s → (n : Numbers) → check s ≡ accepted n ↔ LaidOut s n
unfolding check
check_exactly s small n = (
  λ e.
      let (x, end, d, told) = (said_accepted numbers_of s n).0 e in
      let (names, rules, pairs, fits, laid, same, _) = (accepted_exactly s small x end).0 d in
      record { names = names; rules = rules; pairs = pairs; fit = fits; layout = laid; counted = told ∙ ap numbers_of same },
  λ l. ap check l.layout ∙ check_accepts l.names l.rules l.pairs l.fit ∙ ap accepted (sym l.counted),
)

-- its sections are read whole
pub laid_out_read : (s : List ℕ) (n : Numbers) → LaidOut s n → (x : Sheet) × (end : ℕ) × (sections s ≡ field x end)
unfolding opened
laid_out_read s n l =
    let (x, end, e, _) = then_field (sections s) _ (ap opened l.layout ∙ fits_accepted l.names l.rules l.pairs l.fit) in
    (x, end, e)

-- the setting of a sheet that was accepted
pub checked-sheet : (s : List ℕ) {n : Numbers} → check s ≡ accepted n → (o : Setting) × (of_sheet s ≡ accepted o)
unfolding check
checked-sheet s {n} e =
    let (x, end, d, _) = (said_accepted numbers_of s n).0 e in
    (setting x, (sheet_accepted s (setting x)).1 (x, end, d, refl))

-- ---- refused
module _ (s : List ℕ) (number place : ℕ) where
  -- "7, 0" where "k over 12"
  abbrev OverNegations : Type 0
  OverNegations = defined.OverNegations s number place

  -- 1 to 6 or 15 where the reading of the sections ends so, or 7 after it
  abbrev Refuses : Type 0
  Refuses = defined.Refuses s number place

  pub opened_refuses : opened s ≡ refused number place ↔ Refuses
  unfolding opened
  opened_refuses =
      let few : Sheet → Bool = λ x. leb (k (setting x)) most_negations in
      let both = require_refused (sections s) few 7 0 number place in (
        λ e. ⊎_elim inl (λ h. inr (record {
          says = h.value;
          end = h.next;
          reads = h.yields;
          over = leb-false (k (setting h.value)) most_negations h.fails;
          seven = h.numbered;
          at_0 = h.placed;
        })) (both.0 e),
        ⊎_elim (λ e. both.1 (inl e)) (λ h. both.1 (inr (record {
          value = h.says;
          next = h.end;
          yields = h.reads;
          fails = lt-leb (k (setting h.says)) most_negations h.over;
          numbered = h.seven;
          placed = h.at_0;
        }))),
      )

  check-opened : check s ≡ refusal number place ↔ (opened s ≡ refused number place)
  unfolding check
  check-opened = said_refused numbers_of s number place

  -- and 7 for nothing else
  pub seven_over : number ≡ 7 → Refuses → OverNegations
  seven_over e = ⊎_elim (λ d. ⊎_elim (λ l. absurd (omega arith)) (λ n. absurd (omega arith)) (sections_number s number place d)) (λ h. h)

  pub check_refused : check s ≡ refusal number place ↔ Refuses
  check_refused = (λ e. opened_refuses.0 (check-opened.0 e), λ h. check-opened.1 (opened_refuses.1 h))

  pub check_refuses : check s ≡ refusal number place → SheetRefusal 7 number × (place ≤ longest_sheet)
  check_refuses e =
      let r = check-opened.0 e in
      (refusal_number s number place r, refusal_place s number place r)

  -- the source that a sheet is, is refused exactly as the check refuses
  pub refused_as_checked : of_sheet s ≡ refusal number place ↔ (check s ≡ refusal number place)
  refused_as_checked = (λ e. check-opened.1 ((sheet_refused s number place).0 e), λ e. (sheet_refused s number place).1 (check-opened.0 e))
