-- The loop over rules. Assumes nothing.
use mathlib.Core.List.{List, [], ◌∷◌, ◌++◌}
use mathlib.Core.Path.{◌≡◌, refl, ap, ap₂}
use native.Mathlib.Omega.{arith}
use Prim.Native.Nat.{ℕ, suc, ◌+◌, ◌*◌}
use Rattle.sets.specs.Lists.{flat, up_to}
use Rattle.semantics.specs.Definitions.Reading.{field}
use Rattle.semantics.specs.Definitions.Sheet.{rule_at}
use Rattle.semantics.specs.Fields.{rules_from}
use Rattle.semantics.proofs.Theorems.Fields.{rules_from-more, rule_field}
use Rattle.semantics.specs.Theorems.Subjects.{masks-more}
use Rattle.sheet.specs.declared.steps.Cursor.{Cursor}
use Rattle.sheet.specs.Steps.{moved, with_sets, noted}
use Rattle.sheet.proofs.Loops.{Loop, Reached}

noted_more : (c : Cursor) (rs : List (List ℕ)) (r : List ℕ) → noted (noted c rs) (r ∷ []) ≡ noted c (rs ++ r ∷ [])
unfolding flat
noted_more c rs r = ap₂ (with_sets c) (masks-more c.k_atoms 4 5 rs r) (masks-more c.m_atoms 6 7 rs r)

module _ (s : List ℕ) (first : Cursor) where
  abbrev pub cursor : ℕ → Cursor
  cursor i = moved (noted first (rules_from s i first.at)) (first.at + 16 * i)

  pub none : rules_from s 0 first.at ≡ []
  unfolding up_to
  none = refl

  pub start : first ≡ cursor 0
  unfolding flat up_to
  start =
      let e : first.at + 16 * 0 ≡ first.at = omega arith in
      rw e

  pub next_rule : (i : ℕ) (r : List ℕ) (at : ℕ) → rule_at s first.atoms (cursor i).at ≡ field r at
      → (moved (noted (cursor i) (r ∷ [])) at ≡ cursor (suc i)) × (at ≡ (cursor (suc i)).at) × (rules_from s (suc i) first.at ≡ rules_from s i first.at ++ r ∷ [])
  next_rule i r at e =
      let (v, next, _) = rule_field s first.atoms (cursor i).at at r e in
      let place : at ≡ first.at + 16 * suc i = omega arith in
      let more : rules_from s (suc i) first.at ≡ rules_from s i first.at ++ r ∷ [] = rw v (rules_from-more s i first.at) in
      (rw (more, ← place) (ap (λ c. moved c at) (noted_more first (rules_from s i first.at) r)), place, more)

abbrev pub loop : List ℕ → Cursor → Loop (List ℕ)
loop s first = record {
  step = λ _. rule_at s first.atoms;
  turns = first.rules;
  first = first;
  earlier = λ i. rules_from s i first.at;
  cursor = cursor s first;
  none = none s first;
  start = start s first;
  number = λ _ _. 8;
  next = λ _ c masks. moved (noted c (masks ∷ []));
  turn = next_rule s first;
  whole = first.rules;
  last = λ rules. moved (noted first rules);
  end = refl;
}

-- at the cursor of turn i
module _ (s : List ℕ) (first : Cursor) {i : ℕ} {c : Cursor} (r : Reached (loop s first) i c) where
  pub atoms : c.atoms ≡ first.atoms
  atoms = ap (λ z. z.atoms) r.stands

  pub same : rule_at s c.atoms c.at ≡ rule_at s first.atoms c.at
  same = ap (λ n. rule_at s n c.at) atoms
