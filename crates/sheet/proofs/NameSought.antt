-- The search for a name among n names. Assumes nothing.
use mathlib.Core.Bool.{Bool, true, false}
use mathlib.Core.List.{List}
use mathlib.Core.Path.{◌≡◌}
use native.Mathlib.Omega.{arith}
use Prim.Native.Nat.{ℕ, ◌+◌, ◌-◌, ◌≤◌, ◌<◌}
use Rattle.sets.specs.Lists.{some, same_list}
use Rattle.semantics.specs.Fields.{name_from, after_name, names_from, after_names}
use Rattle.semantics.proofs.Theorems.Fields.{after_names_rises}
use Rattle.semantics.specs.Theorems.Turns.{one_left}

-- one of the n names is the name at q, with i of them passed and the next one at p
abbrev pub found : List ℕ → (n q i p : ℕ) → Bool
found s n q i p = some (same_list (name_from s q)) (names_from s (n - i) p)

-- one turn, with the name at p
module _ (s : List ℕ) (n q i p : ℕ) where
  pub ends : i < n → after_names s (n - i) p ≡ after_names s (n - (i + 1)) (after_name s p)
  unfolding after_names
  ends h = rw (one_left n i h)

  pub within : i < n → after_names s (n - i) p ≤ q → after_name s p ≤ q
  unfolding after_names
  within h l =
      let rises : after_name s p ≤ after_names s (n - (i + 1)) (after_name s p) = after_names_rises s 0 (n - (i + 1)) (after_name s p) (omega arith) in
      omega (arith, ends h, rises)

  pub is_it : i < n → same_list (name_from s q) (name_from s p) ≡ true → found s n q i p ≡ true
  unfolding names_from some
  is_it h t = rw (one_left n i h) (rw t)

  pub is_not : i < n → same_list (name_from s q) (name_from s p) ≡ false → found s n q i p ≡ found s n q (i + 1) (after_name s p)
  unfolding names_from some
  is_not h t = rw (one_left n i h) (rw t)

  pub is_none : n ≤ i → found s n q i p ≡ false
  unfolding names_from some
  is_none h =
      let e : n - i ≡ 0 = omega arith in
      rw e

pub start : (s : List ℕ) (n q from : ℕ) → some (same_list (name_from s q)) (names_from s n from) ≡ found s n q 0 from
start s n q from =
    let e : n - 0 ≡ n = omega arith in
    rw e
