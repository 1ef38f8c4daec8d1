-- The loop over the masks of a rule. Assumes nothing.
use mathlib.Core.List.{List, [], ◌∷◌, ◌++◌}
use mathlib.Core.Path.{◌≡◌, refl, ap, ◌∙◌}
use native.Mathlib.Omega.{arith}
use Prim.Native.Nat.{ℕ, zero, suc, ◌+◌, ◌*◌}
use Rattle.sets.specs.Lists.{flat, up_to}
use Rattle.semantics.specs.Definitions.Reading.{field}
use Rattle.semantics.specs.Definitions.Sheet.{word_at, mask_at}
use Rattle.semantics.specs.Fields.{masks_from}
use Rattle.semantics.proofs.Theorems.Fields.{masks_from-more, mask_field}
use Rattle.sheet.specs.declared.steps.Cursor.{Cursor}
use Rattle.sheet.specs.Steps.{moved, noted, noted_mask}
use Rattle.sheet.proofs.Loops.{Loop, Reached}

-- what i masks of the rule at a cursor have noted
unfoldable pub noting : List ℕ → Cursor → ℕ → Cursor
noting s c zero = c
noting s c (suc i) = noted_mask i (noting s c i) (word_at s (c.at + 2 * i))

module _ (s : List ℕ) (first : Cursor) where
  pub none : masks_from s 0 first.at ≡ []
  unfolding up_to
  none = refl

  pub start : first ≡ moved (noting s first 0) (first.at + 2 * 0)
  unfolding noting
  start =
      let e : first.at + 2 * 0 ≡ first.at = omega arith in
      rw e

  pub next_mask : (i w at : ℕ) → mask_at s first.atoms (first.at + 2 * i) ≡ field w at
      → (moved (noted_mask i (noting s first i) w) at ≡ moved (noting s first (suc i)) (first.at + 2 * suc i)) × (at ≡ first.at + 2 * suc i)
      × (masks_from s (suc i) first.at ≡ masks_from s i first.at ++ w ∷ [])
  unfolding noting
  next_mask i w at e =
      let (v, next, _) = mask_field s first.atoms (first.at + 2 * i) w at e in
      let place : at ≡ first.at + 2 * suc i = omega arith in
      (rw (v, place), place, rw v (masks_from-more s i first.at))

  pub end : moved (noted first (masks_from s 8 first.at ∷ [])) (first.at + 2 * 8) ≡ moved (noting s first 8) (first.at + 2 * 8)
  unfolding noting flat up_to
  end = refl

  same-atoms : (i : ℕ) → (noting s first i).atoms ≡ first.atoms
  unfolding noting
  same-atoms zero = refl
  same-atoms (suc i) = same-atoms i

abbrev pub loop : List ℕ → Cursor → Loop ℕ
loop s first = record {
  step = λ _. mask_at s first.atoms;
  turns = 8;
  first = first;
  earlier = λ i. masks_from s i first.at;
  cursor = λ i. moved (noting s first i) (first.at + 2 * i);
  none = none s first;
  start = start s first;
  number = λ _ w. w;
  next = λ i c w. moved (noted_mask i c w);
  turn = next_mask s first;
  whole = 8;
  last = λ masks. moved (noted first (masks ∷ []));
  end = end s first;
}

-- at the cursor of turn i
module _ (s : List ℕ) (first : Cursor) {i : ℕ} {c : Cursor} (r : Reached (loop s first) i c) where
  pub place : c.at ≡ first.at + 2 * i
  place = ap (λ z. z.at) r.stands

  pub atoms : c.atoms ≡ first.atoms
  atoms = ap (λ z. z.atoms) r.stands ∙ same-atoms s first i

  pub same : mask_at s c.atoms c.at ≡ mask_at s first.atoms c.at
  same = ap (λ n. mask_at s n c.at) atoms
