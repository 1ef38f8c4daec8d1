-- A guess is contradicted where a sure rule has an empty head, a constraint added is sure or a negation clashes: T and F never meet. Assumes
-- nothing.
use Prim.Native.Nat.{ℕ}
use mathlib.Core.Path.{◌≡◌, subst}
use mathlib.Core.Bool.{Bool, ◌||◌}
use mathlib.Core.List.{List, ◌++◌}
use mathlib.Core.Logic.{inl, inr, ⊎_elim}
use Rattle.sets.specs.Decides.{Decides, dec_one, dec_iff, dec_or}
use Rattle.sets.specs.Sets.{Meets}
use Rattle.semantics.specs.Definitions.Rules.{Rule}
use Rattle.semantics.specs.Definitions.Setting.{Setting, add}
use Rattle.semantics.specs.Definitions.Propagation.{Pair, contradicted}
use Rattle.semantics.specs.Theorems.Closure.{LeastClosed}
use Rattle.semantics.proofs.Theorems.Closure.{least-only}
use Rattle.semantics.proofs.Theorems.Apart.{never_meet}
use Rattle.semantics.specs.Theorems.Contradicted.{EmptyHead, pair_of, ContradictedBy}
use Rattle.semantics.proofs.Theorems.Contradicted.{dec_contradicted_by}
use Rattle.semantics.specs.Theorems.Constraints.{Constraints, SureConstraint}
use Rattle.semantics.proofs.Theorems.Constraints.{least-added, empty_head_added}
use Rattle.propagation.specs.Pairs.{Clashes}

module _ (cs : List Rule) (empty : Constraints cs) (s : Setting) (g : ℕ) where
  pub by_parts : {y : Pair} {a b d : Bool} → LeastClosed s.atoms (s.program g) y → Decides (EmptyHead (s.program g) y) a
      → Decides (SureConstraint cs y) b → Decides (Clashes s.negations g y) d → a || b || d ≡ contradicted (add cs s) g
  by_parts {y} {a} {b} {d} l of-heads of-constraints of-negations =
      let p = s.program g in
      let h = empty_head_added cs empty p y in
      let same : y ≡ pair_of (add cs s) g = least-only s.atoms (p ++ cs) (least-added cs empty s.atoms p l) in
      dec_one (subst (λ z. Decides (ContradictedBy (add cs s) g z) (a || b || d)) same (dec_iff (
        ⊎_elim (λ q. inl (inr (h.1 q))) inr,
        ⊎_elim (⊎_elim (λ m. absurd (never_meet s.atoms (p ++ cs) (subst (λ z. Meets z.T z.F) same m))) (λ q. inl (h.0 q))) inr,
      ) (dec_or (dec_or of-heads of-constraints) of-negations))) (dec_contradicted_by (add cs s) g)
