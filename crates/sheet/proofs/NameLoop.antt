-- The loop over names. Assumes nothing.
use mathlib.Core.List.{List, [], ◌∷◌, ◌++◌}
use mathlib.Core.Path.{◌≡◌, refl, sym, ap, ◌∙◌}
use Prim.Native.Nat.{ℕ, suc}
use Rattle.semantics.specs.Definitions.Reading.{field}
use Rattle.semantics.specs.Definitions.Sheet.{name_at}
use Rattle.semantics.specs.Fields.{names_from, after_names}
use Rattle.semantics.proofs.Theorems.Fields.{names_from-more, after_names-more, name_field_lem}
use Rattle.sheet.specs.declared.steps.Cursor.{Cursor}
use Rattle.sheet.specs.Steps.{moved}
use Rattle.sheet.proofs.Loops.{Loop}

module _ (s : List ℕ) (from : ℕ) where
  pub none : names_from s 0 from ≡ []
  unfolding names_from
  none = refl

  pub start : from ≡ after_names s 0 from
  unfolding after_names
  start = refl

  pub next_name : (i : ℕ) (name : List ℕ) (at : ℕ) → name_at s (names_from s i from) (after_names s i from) ≡ field name at
      → (at ≡ after_names s (suc i) from) × (names_from s (suc i) from ≡ names_from s i from ++ name ∷ [])
  next_name i name at e =
      let (v, next, _) = name_field_lem s (names_from s i from) (after_names s i from) at name e in
      (next ∙ sym (after_names-more s i from), rw v (names_from-more s i from))

abbrev pub loop : List ℕ → Cursor → Loop (List ℕ)
loop s first = record {
  step = name_at s;
  turns = first.atoms;
  first = first;
  earlier = λ i. names_from s i first.at;
  cursor = λ i. moved first (after_names s i first.at);
  none = none s first.at;
  start = ap (moved first) (start s first.at);
  number = λ i _. i;
  next = λ _ c _. moved c;
  turn = λ i name at e. let (place, more) = next_name s first.at i name at e in (ap (moved first) place, place, more);
  whole = first.atoms;
  last = λ _. moved first;
  end = refl;
}
