-- The tests that std's `==` and `contains` of slices are. Assumes nothing.
use Rattle.std.specs.Prelude.{ℕ, ◌≡◌, refl, ◌&&◌, ◌||◌, eqb, List, [], ◌∷◌}
use Rattle.std.proofs.Common.{ap, ap₂, arith}
use Rattle.std.specs.List.{list_any}
use Rattle.std.specs.Cmp.Lexicographic.{pointwise}
use Rattle.sets.specs.Lists.{some, same_list}

pub pointwise-same : (l m : List ℕ) → pointwise eqb l m ≡ same_list l m
unfolding same_list
pointwise-same [] [] = refl
pointwise-same [] (y ∷ m) = refl
pointwise-same (x ∷ l) [] = refl
pointwise-same (x ∷ l) (y ∷ m) = ap (λ b. eqb x y && b) (pointwise-same l m)

turned : (x y : ℕ) → eqb y x ≡ eqb x y
turned x y = grind arith

pub any-some : (x : ℕ) (l : List ℕ) → list_any (λ y. eqb y x) l ≡ some (eqb x) l
unfolding some
any-some x [] = refl
any-some x (y ∷ l) = ap₂ ◌||◌ (turned x y) (any-some x l)
