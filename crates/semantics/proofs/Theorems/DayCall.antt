-- What a call under the day's masks owes, whichever call it is (document 02, K3), and what it owes to sheets of two sections (K7). Assumes
-- nothing.
use Rattle.std.specs.Prelude.{ℕ, ◌≡◌, refl, List, length}
use Rattle.std.proofs.Common.{ap, ap₂, ◌∙◌, subst, inl}
use Rattle.semantics.specs.Definitions.Reading.{refused}
use Rattle.semantics.specs.Definitions.Setting.{Setting}
use Rattle.semantics.specs.Definitions.Returned.{Returned, accepted, refusal}
use Rattle.semantics.specs.Definitions.Check.{unpaired, opened, of_sheet}
use Rattle.semantics.specs.Definitions.Day.{under, of_day}
use Rattle.semantics.proofs.Theorems.Source.{sheet_refused}
use Rattle.semantics.proofs.Theorems.Check.{opened_refuses}
use Rattle.semantics.specs.Theorems.DaySource.{MasksFit}
use Rattle.semantics.proofs.Theorems.DaySource.{masks_accepted, masks_refused, no_masks, thirteen_exactly}
use Rattle.semantics.proofs.Theorems.TwoSections.{two_sections_short, last_0_setting}
use Rattle.semantics.proofs.Theorems.DayRules.{as_rules}
use Rattle.semantics.specs.Theorems.DayCall.{DayDemand}

-- By what the call ensures, that a refusal of the source is the call's, and that 13 comes from there.
module _ (sheet : List ℕ) (ins outs : ℕ) (Says : (from : Returned Setting) → Type 0) (IsRefused : (number place : ℕ) → Type 0)
    (says : Says (of_day sheet ins outs))
    (refused_before : (number place : ℕ) → of_day sheet ins outs ≡ refusal number place → IsRefused number place)
    (thirteen-before : (place : ℕ) → IsRefused 13 place → of_day sheet ins outs ≡ refusal 13 place) where
  -- as the sheet is refused
  refuses : (number place : ℕ) → opened sheet ≡ refused number place → IsRefused number place
  refuses number place e = refused_before number place ((masks_refused (of_sheet sheet) ins outs number place).1 (inl ((sheet_refused sheet number place).1 e)))

  -- what is said of the source that the sheet is, under the masks
  added : (s : Setting) → of_sheet sheet ≡ accepted s → MasksFit ins outs s.atoms → Says (accepted (under ins outs s))
  added s e fits = subst Says ((masks_accepted (of_sheet sheet) ins outs (under ins outs s)).1 (s, e, fits, refl)) says

  pub day_demand : DayDemand sheet ins outs Says IsRefused
  day_demand = record {
    sheet-first = λ number place h. refuses number place ((opened_refuses sheet number place).1 h);
    then-masks = λ s e b. refused_before 13 0 ((thirteen_exactly sheet ins outs 0).1 (s, e, b, refl, refl));
    thirteen-only = λ place h. (thirteen_exactly sheet ins outs place).0 (thirteen-before place h);
    constraints-added = added;
    as_written = λ x end e fits few. subst Says (as_rules sheet x end e ins outs fits few) says;
    two-sections = λ x end e. refuses 1 (length sheet) (two_sections_short sheet x end e);
    last_byte_0 = λ before x end e opens fits. added (unpaired x) (ap of_sheet e ∙ last_0_setting before x end opens) fits;
    both_zero = λ i o. subst Says (ap₂ (of_day sheet) i o ∙ no_masks (of_sheet sheet)) says;
  }
