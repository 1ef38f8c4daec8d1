-- Demand 1, of the answer of the call `check`. Assumes nothing.
use Rattle.std.specs.Prelude.{ℕ, ◌≤◌, ◌<◌, ◌≡◌, refl, List, [], ◌∷◌, ◌++◌, ◌↔◌, ◌⊎◌, length}
use Rattle.std.proofs.Common.{sym, ap, ◌∙◌, inl, inr, ⊎_elim, arith}
use Rattle.semantics.specs.Definitions.Reading.{field, refused}
use Rattle.semantics.specs.Definitions.Sheet.{Sheet, atoms, longest_sheet, front, two_sections, sections}
use Rattle.semantics.specs.Definitions.Setting.{k}
use Rattle.semantics.specs.Definitions.Check.{unpaired, opened_two_sections, Numbers, numbers, check}
use Rattle.semantics.specs.Theorems.Places.{SheetRefusal}
use Rattle.semantics.specs.Theorems.Layout.{IsBytes}
use Rattle.semantics.specs.Theorems.PairCases.{BadPair, ExtraBytes, PairsRefuse}
use Rattle.semantics.proofs.Theorems.PairExact as pairs
use Rattle.semantics.proofs.Theorems.PairExact.{third_refused}
use Rattle.semantics.proofs.Theorems.TwoSections.{two_sections_short, last_0_check}
use Rattle.semantics.specs.Theorems.Check.{LaidOut, OverNegations, Refuses}
use Rattle.semantics.proofs.Theorems.Check.{check_exactly, laid_out_read, opened_refuses, seven_over, check_refused, check_refuses}
use Rattle.semantics.proofs.Theorems.Following as following
use Rattle.semantics.proofs.Theorems.Following.{still_refused}
use Rattle.engine.specs.declared.Checked.{Checked}
use Rattle.semantics.specs.Definitions.Returned.{Returned, accepted, refusal}
use Rattle.engine.specs.Answers.{OrRefused, checked}

-- Of a sheet: r is what `check` answers. "Every bad sheet [..] is refused with the number and place fixed in document 01 [..]; every other call
-- is accepted".
pub record CheckDemand (sheet : List ℕ) (r : OrRefused Checked) : Type 0 where
  -- accepted exactly when the bytes are the layout of names, rules and pairs that fit, with the numbers of atoms, rules and negations that these have
  pub accepted_exactly : (atoms rules negations : ℕ) → (checked r ≡ accepted (numbers atoms rules negations)) ↔ LaidOut sheet (numbers atoms rules negations)
  -- refused exactly when the reading of the sections ends with this number and place, or ends well and k is over 12 (7, place 0)
  pub refused_exactly : (number place : ℕ) → (checked r ≡ refusal number place) ↔ Refuses sheet number place
  -- 7 exactly in that last case
  pub seven_exactly : (place : ℕ) → (checked r ≡ refusal 7 place) ↔ OverNegations sheet 7 place
  -- the numbers are 1 to 7 and 15, and no place is beyond the longest sheet
  pub refused_within : (number place : ℕ) → checked r ≡ refusal number place → SheetRefusal 7 number × (place ≤ longest_sheet)
  -- K7, of the third section, once names and rules are read: "A count over 7 gives 2"; "15 with the pair's place, [..] pair by pair after its bytes
  -- are present and before 6"; "extra bytes are those after the last pair"
  pub third_section : (x : Sheet) (at number place : ℕ) → front sheet ≡ field x at → (number ≡ 7 → ⊥)
      → (checked r ≡ refusal number place) ↔ PairsRefuse sheet (atoms x) at number place
  -- 15 exactly for a bad pair, and 6 exactly for bytes after the last one
  pub fifteen_exactly : (place : ℕ) → (checked r ≡ refusal 15 place) ↔ ((x : Sheet) × (at : ℕ) × (front sheet ≡ field x at) × BadPair sheet (atoms x) at 15 place)
  pub six_exactly : (place : ℕ) → (checked r ≡ refusal 6 place) ↔ ((x : Sheet) × (at : ℕ) × (front sheet ≡ field x at) × ExtraBytes sheet (atoms x) at 6 place)
  -- "a two-section sheet gives 1"
  pub two-sections : (x : Sheet) (end : ℕ) → two_sections sheet ≡ field x end → checked r ≡ refusal 1 (length sheet)
  -- and "a last byte 0" makes it a sheet, with the numbers that document 01 gives it
  pub last_byte_0 : (before : List ℕ) (x : Sheet) (end : ℕ) → sheet ≡ before ++ 0 ∷ [] → opened_two_sections before ≡ field x end
      → checked r ≡ accepted (numbers (atoms x) (length x.rules) (k (unpaired x)))
  -- "Checks go in reading order": what some first bytes are refused with, but for 1, whatever follows them
  pub in_reading_order : (begun more : List ℕ) (number place : ℕ) → sheet ≡ begun ++ more → 0 < length more → sections begun ≡ refused number place
      → (number ≡ 1 → ⊥) → checked r ≡ refusal number place
  -- "1, sheet length" where "the bytes end too soon": a layout that fits, cut short
  pub cut_short : (more : List ℕ) (n : Numbers) → 0 < length more → LaidOut (sheet ++ more) n → checked r ≡ refusal 1 (length sheet)
  -- "6, first extra byte": a layout that fits, and bytes after it
  pub extra_bytes : (begun more : List ℕ) (n : Numbers) → sheet ≡ begun ++ more → 0 < length more → LaidOut begun n → checked r ≡ refusal 6 (length begun)
  -- every sheet is the one or the other
  pub laid_out_or_refused : ((n : Numbers) × LaidOut sheet n) ⊎ ((number : ℕ) × (place : ℕ) × Refuses sheet number place)

-- ---- proofs
-- The two hypotheses: the numbers in the sheet are those of bytes, and what the call ensures.
module _ (sheet : List ℕ) (bytes : IsBytes sheet) (r : OrRefused Checked) (answered : checked r ≡ check sheet) where
  -- an answer, exactly when the definition has it
  told : (q : Returned Numbers) → (checked r ≡ q) ↔ (check sheet ≡ q)
  told q = (λ e. sym answered ∙ e, λ e. answered ∙ e)

  accepted_so : (atoms rules negations : ℕ) → (checked r ≡ accepted (numbers atoms rules negations)) ↔ LaidOut sheet (numbers atoms rules negations)
  accepted_so atoms rules negations =
      let (there, back) = told (accepted (numbers atoms rules negations)) in
      let (yes-so, so) = check_exactly sheet bytes (numbers atoms rules negations) in
      (λ e. yes-so (there e), λ l. back (so l))

  refused_so : (number place : ℕ) → (checked r ≡ refusal number place) ↔ Refuses sheet number place
  refused_so number place =
      let (there, back) = told (refusal number place) in
      let (yes-so, so) = check_refused sheet number place in
      (λ e. yes-so (there e), λ h. back (so h))

  -- any number but 7 comes from the sections
  of_sections : (number place : ℕ) → (number ≡ 7 → ⊥) → (checked r ≡ refusal number place) ↔ (sections sheet ≡ refused number place)
  of_sections number place other =
      let (there, back) = refused_so number place in
      (λ e. ⊎_elim (λ d. d) (λ h. absurd (other h.seven)) (there e), λ d. back (inl d))

  either : (q : Returned Numbers) → checked r ≡ q → ((n : Numbers) × LaidOut sheet n) ⊎ ((number : ℕ) × (place : ℕ) × Refuses sheet number place)
  either (accepted n) e = inl (n, (accepted_so n.atoms n.rules n.negations).0 e)
  either (refusal number place) e = inr (number, place, (refused_so number place).0 e)

  -- a refusal of the sections
  sections_so : (s : List ℕ) {number place : ℕ} → sheet ≡ s → sections s ≡ refused number place → checked r ≡ refusal number place
  sections_so s e d = (refused_so _ _).1 (inl (ap sections e ∙ d))

  pub check_demand : CheckDemand sheet r
  check_demand = record {
    accepted_exactly = accepted_so;
    refused_exactly = refused_so;
    seven_exactly = λ place. (λ e. seven_over sheet 7 place refl ((refused_so 7 place).0 e), λ h. (refused_so 7 place).1 (inr h));
    refused_within = λ number place e. check_refuses sheet number place ((told (refusal number place)).0 e);
    third_section = λ x at number place e other.
        let (there, back) = of_sections number place other in
        let (yes-so, so) = third_refused sheet x at number place e in
        (λ q. yes-so (there q), λ h. back (so h));
    fifteen_exactly = λ place.
        let (there, back) = of_sections 15 place (λ e. omega arith) in
        let (yes-so, so) = pairs.fifteen_exactly sheet place in
        (λ e. yes-so (there e), λ h. back (so h));
    six_exactly = λ place.
        let (there, back) = of_sections 6 place (λ e. omega arith) in
        let (yes-so, so) = pairs.six_exactly sheet place in
        (λ e. yes-so (there e), λ h. back (so h));
    two-sections = λ x end e. (refused_so 1 (length sheet)).1 ((opened_refuses sheet 1 (length sheet)).0 (two_sections_short sheet x end e));
    last_byte_0 = λ before x end e opens.
        (told (accepted (numbers (atoms x) (length x.rules) (k (unpaired x))))).1 (ap check e ∙ last_0_check before x end opens);
    in_reading_order = λ begun more number place e some_more d other. sections_so (begun ++ more) e (still_refused begun more some_more number place d other);
    cut_short = λ more n some_more l.
        let (x, end, e) = laid_out_read (sheet ++ more) n l in
        sections_so sheet refl (following.cut_short sheet more some_more x end e);
    extra_bytes = λ begun more n e some_more l.
        let (x, end, d) = laid_out_read begun n l in
        sections_so (begun ++ more) e (following.extra_bytes begun more some_more x end d);
    laid_out_or_refused = either (checked r) refl;
  }
