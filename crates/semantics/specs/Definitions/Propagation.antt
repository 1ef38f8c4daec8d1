-- Document 01, "Ruling out".
use Rattle.std.specs.Prelude.{ℕ, zero, suc, ◌*◌, Bool, not, ◌&&◌, ◌||◌, cond, List, eqb}
use Rattle.sets.specs.Lists.{every, some, up_to}
use Rattle.sets.specs.Sets.{◌∈?◌, ◌⊆?◌, ◌meets?◌, ◌∪◌, ∅, single, set_of}
use Rattle.semantics.specs.Definitions.Rules.{Rule}
use Rattle.semantics.specs.Definitions.Guesses.{Negation, not_known, may_be}
use Rattle.semantics.specs.Definitions.Setting.{Setting, k, negation}

-- Two sets T and F of atoms.
pub record Pair : Type 0 where
  pub T : ℕ
  pub F : ℕ

-- "A rule is sure when its plain and "not not" atoms are in T and its "not" atoms in F"
abbrev pub sure : Pair → Rule → Bool
sure x r = r.plain ⊆? x.T && r.not_nots ⊆? x.T && r.nots ⊆? x.F

-- "it is dead when a plain or "not not" atom is in F or a "not" atom in T"
abbrev pub dead : Pair → Rule → Bool
dead x r = r.plain meets? x.F || r.not_nots meets? x.F || r.nots meets? x.T

-- "An atom whose sure rule has all other head atoms in F enters T."
abbrev pub enters_t : List Rule → Pair → ℕ → Bool
enters_t p x a = some (λ r. a ∈? r.head && sure x r && r.head ⊆? single a ∪ x.F) p

-- "An atom, all of whose head rules are dead, enters F (so does an atom with none)."
abbrev pub enters_f : List Rule → Pair → ℕ → Bool
enters_f p x a = every (λ r. not (a ∈? r.head) || dead x r) p

-- one step: to T and F is added all that enters by them. n is the number of atoms.
abbrev pub step : ℕ → List Rule → Pair → Pair
step n p x = record {
  T = set_of (λ a. a ∈? x.T || enters_t p x a) n;
  F = set_of (λ a. a ∈? x.F || enters_f p x a) n;
}

-- from two empty sets, i times
unfoldable pub steps : ℕ → List Rule → ℕ → Pair
steps n p zero = record { T = ∅; F = ∅ }
steps n p (suc i) = step n p (steps n p i)

-- "T and F are the least sets of atoms closed under these rules." A step that adds nothing is followed only by such, and any other adds an
-- atom to T or to F: after 2n steps nothing more enters. Theorems/Closure.antt: closed, and least.
abbrev pub propagated : ℕ → List Rule → Pair
propagated n p = steps n p (2 * n)

-- ""not K a" is in the guess and a in T, or is a negation left out and a in F, or "M a" is in the guess and a in F, or is a negation left
-- out and a in T"
abbrev pub clashes : (in_guess : Bool) → Negation → Pair → Bool
clashes in_guess (not_known a) x = cond in_guess (a ∈? x.T) (a ∈? x.F)
clashes in_guess (may_be a) x = cond in_guess (a ∈? x.F) (a ∈? x.T)

-- "A guess is contradicted when T and F meet, or a sure rule has an empty head, or" one of those
unfoldable pub contradicted : Setting → ℕ → Bool
contradicted s g =
    let p = s.program g in
    let x = propagated s.atoms p in
    x.T meets? x.F || some (λ r. sure x r && eqb r.head ∅) p || some (λ j. clashes (j ∈? g) (negation s j) x) (up_to (k s))
