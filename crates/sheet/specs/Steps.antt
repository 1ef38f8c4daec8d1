-- The answers of the reading steps, from what document 01 says that a reading answers.
use Rattle.std.specs.Prelude.{ℕ, cond, length, Result, Ok, Err}
use mathlib.Core.List.{List, foldl}
use Rattle.sets.specs.Sets.{◌∪◌}
use Rattle.semantics.specs.Definitions.Reading.{Reading, field, refused}
use Rattle.semantics.specs.Definitions.Sheet.{Opposites, Sheet, atoms, between}
use Rattle.semantics.specs.Fields.{masks_of, k_atoms, m_atoms}
use Rattle.sheet.specs.declared.steps.Cursor.{Cursor}
use Rattle.answers.specs.declared.refusal.Refusal.{Refusal}
use Rattle.sheet.specs.Refused.{refusal_of}

-- what a step answers: the code's `Field`
abbrev pub Field : Type 0
Field = Result (ℕ × Cursor) Refusal

-- a field and the cursor after it
abbrev pub Got : ℕ → Cursor → Field
Got number next = Ok (number, next)

-- the refusal of that number and place
abbrev pub Refused : (number place : ℕ) → Field
Refused number place = Err (refusal_of number place)

-- A reading as a step's answer: a field by the number that the code answers for it and the cursor after it, or the refusal.
abbrev pub field_of : {A : Type 0} → (A → ℕ) → (A → ℕ → Cursor) → Reading A → Field
field_of number cursor (field value next) = Got (number value) (cursor value next)
field_of number cursor (refused n place) = Refused n place

-- the cursor at another place
abbrev pub moved : Cursor → ℕ → Cursor
moved c at = record {
  at = at;
  atoms = c.atoms;
  rules = c.rules;
  pairs = c.pairs;
  rules_at = c.rules_at;
  k_atoms = c.k_atoms;
  m_atoms = c.m_atoms;
}

-- the cursor with other sets of atoms under K and under M
abbrev pub with_sets : Cursor → (k m : ℕ) → Cursor
with_sets c k m = record { at = c.at; atoms = c.atoms; rules = c.rules; pairs = c.pairs; rules_at = c.rules_at; k_atoms = k; m_atoms = m }

-- the cursor after rules with these masks
abbrev pub noted : Cursor → List (List ℕ) → Cursor
noted c rules = with_sets c (foldl ◌∪◌ c.k_atoms (masks_of 4 5 rules)) (foldl ◌∪◌ c.m_atoms (masks_of 6 7 rules))

-- the cursor after mask i
abbrev pub noted_mask : ℕ → Cursor → ℕ → Cursor
noted_mask i c w = with_sets c (cond (between 4 5 i) (c.k_atoms ∪ w) c.k_atoms) (cond (between 6 7 i) (c.m_atoms ∪ w) c.m_atoms)

-- the cursor after the front, or after all sections
abbrev pub cursor_of : Sheet → ℕ → Cursor
cursor_of x end = record {
  at = end;
  atoms = atoms x;
  rules = length x.rules;
  pairs = length x.pairs;
  rules_at = x.rules_at;
  k_atoms = k_atoms x.rules;
  m_atoms = m_atoms x.rules;
}

-- two atoms as a pair
abbrev pub opposites : (first second : ℕ) → Opposites
opposites first second = record { first = first; second = second }
