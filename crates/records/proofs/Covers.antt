-- A guess g against another, h: a larger guess covers it where it is a subset. Assumes nothing.
use Prim.Native.Nat.{ℕ, ◌≤◌, ◌<◌}
use mathlib.Core.Path.{◌≡◌, ap}
use mathlib.Core.Bool.{true, false}
use native.Mathlib.Omega.{arith}
use Rattle.sets.specs.Decides.{is_true, is_false}
use Rattle.sets.specs.Sets.{◌⊆?◌, ◌⊂?◌, size}
use Rattle.sets.specs.Members.{dec_⊆, dec_⊂}
use Rattle.sets.specs.Size.{size-⊂}

module _ (g h : ℕ) where
  pub covered : (g ⊆? h) ≡ true → size g < size h → (g ⊂? h) ≡ true
  covered t l = is_true (dec_⊂ g h) (record { within = (dec_⊆ g h).yes t; differ = λ e. omega (arith, l, ap size e) })

  pub not_within : (g ⊆? h) ≡ false → (g ⊂? h) ≡ false
  not_within f = is_false (dec_⊂ g h) (λ s. (dec_⊆ g h).no f s.within)

  pub not_larger : size h ≤ size g → (g ⊂? h) ≡ true → ⊥
  not_larger l t = omega (arith, l, size-⊂ ((dec_⊂ g h).yes t))
