-- Some rule of a program in words, as rules are added. Assumes nothing.
use Prim.Native.Nat.{ℕ, ◌+◌, ◌<◌}
use mathlib.Core.Path.{refl, sym, subst}
use mathlib.Core.List.{List}
use mathlib.Core.Logic.{◌↔◌, ◌⊎◌}
use Rattle.sets.specs.Lists.{◌among◌, nowhere, up_to, any_snoc, among-map, among-up_to}
use Rattle.semantics.specs.Words.{rule_in, program_in, program-more}
use Rattle.semantics.specs.Definitions.Rules.{Rule}

module _ (words : List ℕ) (P : Rule → Type 0) where
  abbrev Any : List Rule → Type 0
  Any p = (r : Rule) × (r among p) × P r

  -- P holds of one of the first n rules
  abbrev pub Some : ℕ → Type 0
  Some n = Any (program_in words n)

  pub some-none : Some 0 → ⊥
  unfolding program_in up_to
  some-none q = nowhere q.1

  pub some_more : (j : ℕ) → Some (j + 1) ↔ (Some j ⊎ P (rule_in words j))
  some_more j =
      let s = any_snoc P (program_in words j) (rule_in words j) in
      (λ q. s.0 (subst Any (program-more words j) q), λ q. subst Any (sym (program-more words j)) (s.1 q))

  pub some_at : {j n : ℕ} → j < n → P (rule_in words j) → Some n
  unfolding program_in
  some_at {j} {n} l p = (rule_in words j, (among-map (rule_in words) (up_to n)).1 (j, (among-up_to n).1 l, refl), p)
