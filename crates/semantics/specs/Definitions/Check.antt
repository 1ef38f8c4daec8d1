-- Document 01, "Turned back at the door": refusal 7, what the check answers, and the source that a sheet is; with the pairs of document 02, K7.
use Rattle.std.specs.Prelude.{ℕ, leb, length, List, map}
use Rattle.sets.specs.Sets.{◌∪◌, ∅, single}
use Rattle.semantics.specs.Definitions.Rules.{Rule}
use Rattle.semantics.specs.Definitions.Reading.{Reading, field, ◌then◌, require}
use Rattle.semantics.specs.Definitions.Sheet.{Opposites, Sheet, atoms, epistemic_rules, two_sections, sections}
use Rattle.semantics.specs.Definitions.Setting.{Setting, setting_of, add, k}
use Rattle.semantics.specs.Definitions.Returned.{Returned, read, answer}

-- "k of 12 passes, 13 gives 7."
abbrev pub most_negations : ℕ
most_negations = 12

-- K7: "A pair acts as a constraint with both atoms plain"
abbrev pub opposed : Opposites → Rule
opposed p = record { head = ∅; plain = single p.first ∪ single p.second; nots = ∅; not_nots = ∅ }

-- what the rest of document 01 is said of, for a sheet without pairs
abbrev pub unpaired : Sheet → Setting
unpaired x = setting_of (atoms x) (epistemic_rules x)

-- and for any sheet: the pairs stand "beyond the 64 rules [..] in every definition including ruling out"
abbrev pub setting : Sheet → Setting
setting x = add (map opposed x.pairs) (unpaired x)

-- a sheet that was read, and then "7, 0" where "k over 12"
abbrev pub with_few_negations : Reading Sheet → Reading Sheet
with_few_negations r =
    r then λ x end.
    require (leb (k (setting x)) most_negations) 7 0
    (field x end)

-- What every call checks first: 1 to 6 and 15, and then 7
unfoldable pub opened : List ℕ → Reading Sheet
opened s = with_few_negations (sections s)

-- what the calls of document 01 check first, of its two sections: 1 to 7
unfoldable pub opened_two_sections : List ℕ → Reading Sheet
opened_two_sections s = with_few_negations (two_sections s)

-- something of what an accepted sheet says; or the sheet's refusal, 1 to 7 or 15
abbrev pub said : {A : Type 0} → (Sheet → A) → List ℕ → Returned A
said of s = answer of (read (opened s))

-- The source that a sheet is: its setting, or its refusal. The calls of document 01 but the check are said of it; document 02 adds masks.
unfoldable pub of_sheet : List ℕ → Returned Setting
of_sheet = said setting

-- "The check of an accepted sheet answers with the numbers of atoms, of rules and of negations (k, below)."
pub record Numbers : Type 0 where
  pub atoms : ℕ
  pub rules : ℕ
  pub negations : ℕ

abbrev pub numbers : (atoms rules negations : ℕ) → Numbers
numbers atoms rules negations = record { atoms = atoms; rules = rules; negations = negations }

abbrev pub numbers_of : Sheet → Numbers
numbers_of x = numbers (atoms x) (length x.rules) (k (setting x))

unfoldable pub check : List ℕ → Returned Numbers
check = said numbers_of
