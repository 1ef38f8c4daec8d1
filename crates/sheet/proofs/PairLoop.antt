-- The loop over pairs. Assumes nothing.
use mathlib.Core.List.{List, [], ◌∷◌, ◌++◌}
use mathlib.Core.Path.{◌≡◌, refl, ap}
use native.Mathlib.Omega.{arith}
use Prim.Native.Nat.{ℕ, suc, ◌+◌, ◌*◌}
use Rattle.sets.specs.Lists.{up_to}
use Rattle.semantics.specs.Definitions.Reading.{field}
use Rattle.semantics.specs.Definitions.Sheet.{Opposites, pair_at}
use Rattle.semantics.specs.Fields.{pairs_from}
use Rattle.semantics.proofs.Theorems.Fields.{pairs_from-more, pair_field}
use Rattle.sheet.specs.declared.steps.Cursor.{Cursor}
use Rattle.sheet.specs.Steps.{moved}
use Rattle.sheet.proofs.Loops.{Loop, Reached}

module _ (s : List ℕ) (first : Cursor) where
  abbrev pub cursor : ℕ → Cursor
  cursor i = moved first (first.at + 2 * i)

  pub none : pairs_from s 0 first.at ≡ []
  unfolding up_to
  none = refl

  pub start : first ≡ cursor 0
  start =
      let e : first.at + 2 * 0 ≡ first.at = omega arith in
      rw e

  pub next_pair : (i : ℕ) (p : Opposites) (at : ℕ) → pair_at s first.atoms (pairs_from s i first.at) (cursor i).at ≡ field p at
      → (moved (cursor i) at ≡ cursor (suc i)) × (at ≡ (cursor (suc i)).at) × (pairs_from s (suc i) first.at ≡ pairs_from s i first.at ++ p ∷ [])
  next_pair i p at e =
      let (v, next, _, _) = pair_field s first.atoms (pairs_from s i first.at) (cursor i).at at p e in
      let place : at ≡ first.at + 2 * suc i = omega arith in
      (ap (moved first) place, place, rw v (pairs_from-more s i first.at))

abbrev pub loop : List ℕ → Cursor → Loop Opposites
loop s first = record {
  step = pair_at s first.atoms;
  turns = first.pairs;
  first = first;
  earlier = λ i. pairs_from s i first.at;
  cursor = cursor s first;
  none = none s first;
  start = start s first;
  number = λ i _. i;
  next = λ _ c _. moved c;
  turn = next_pair s first;
  whole = first.pairs;
  last = λ _. moved first;
  end = refl;
}

-- at the cursor of turn i
module _ (s : List ℕ) (first : Cursor) {i : ℕ} {c : Cursor} (r : Reached (loop s first) i c) where
  pub same : pair_at s c.atoms (pairs_from s i first.at) c.at ≡ pair_at s first.atoms (pairs_from s i first.at) c.at
  same = ap (λ n. pair_at s n (pairs_from s i first.at) c.at) (ap (λ z. z.atoms) r.stands)
