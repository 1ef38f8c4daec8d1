-- The search for a sure rule with an empty head, turn by turn. Assumes nothing.
use Prim.Native.Nat.{ℕ, ◌+◌, ◌<◌}
use mathlib.Core.Path.{◌≡◌}
use mathlib.Core.Bool.{true, false, ◌&&◌}
use mathlib.Core.List.{List}
use mathlib.Core.Logic.{⊎_elim}
use lib.Dec.{eqb}
use Rattle.sets.specs.Decides.{Decides, dec_and, dec_eq}
use Rattle.sets.specs.Sets.{∅}
use Rattle.semantics.specs.Words.{rule_in, program_in}
use Rattle.semantics.specs.Definitions.Rules.{Rule}
use Rattle.semantics.specs.Definitions.Propagation.{Pair, sure}
use Rattle.semantics.specs.Theorems.Closure.{Sure}
use Rattle.semantics.proofs.Theorems.Closure.{dec_sure}
use Rattle.semantics.specs.Theorems.Contradicted.{EmptyHead}
use Rattle.propagation.proofs.Programs.{some-none, some_more, some_at}

module _ (words : List ℕ) (x : Pair) where
  abbrev SureEmpty : Rule → Type 0
  SureEmpty r = Sure x r × (r.head ≡ ∅)

  dec_empty : (r : Rule) → Decides (SureEmpty r) (sure x r && eqb r.head ∅)
  dec_empty r = dec_and (dec_sure x r) (dec_eq r.head ∅)

  pub heads_first : EmptyHead (program_in words 0) x → ⊥
  heads_first = some-none words SureEmpty

  pub heads_next : (j : ℕ) → (EmptyHead (program_in words j) x → ⊥) → sure x (rule_in words j) && eqb (rule_in words j).head ∅ ≡ false
      → EmptyHead (program_in words (j + 1)) x → ⊥
  heads_next j n e q = ⊎_elim n ((dec_empty (rule_in words j)).no e) ((some_more words SureEmpty j).0 q)

  pub head_found : {j n : ℕ} → j < n → sure x (rule_in words j) && eqb (rule_in words j).head ∅ ≡ true → EmptyHead (program_in words n) x
  head_found {j} l e = some_at words SureEmpty l ((dec_empty (rule_in words j)).yes e)
