-- The test of a set under day masks, by its two parts. Assumes nothing.
use Prim.Native.Nat.{ℕ}
use mathlib.Core.Path.{◌≡◌, sym, ap, ◌∙◌}
use mathlib.Core.Bool.{Bool, true, false, ◌&&◌, and-false}
use mathlib.Core.List.{List}
use Rattle.semantics.specs.Definitions.Rules.{Rule}
use Rattle.semantics.specs.Definitions.Stable.{stable}
use Rattle.semantics.specs.Definitions.Day.{allowed, stable_under}

module _ (ins outs i : ℕ) (p : List Rule) where
  -- an allowed set passes where it is stable
  pub if_allowed : allowed ins outs i ≡ true → {b : Bool} → b ≡ stable p i → b ≡ stable_under ins outs p i
  if_allowed e d = rw e d

  -- a set that is not stable does not pass
  pub not_stable : false ≡ stable p i → false ≡ stable_under ins outs p i
  not_stable e = sym (and-false (allowed ins outs i)) ∙ ap (λ b. allowed ins outs i && b) e
