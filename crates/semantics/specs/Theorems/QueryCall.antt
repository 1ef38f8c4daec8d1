-- What the query returns: refusal 10, exactly when; otherwise the answer for the setting. Assumes nothing.
-- Here the definitions; the theorems are in proofs/Theorems/QueryCall.antt.
use Rattle.std.specs.Prelude.{ℕ}
use Rattle.semantics.specs.Definitions.Setting.{Setting}
use Rattle.semantics.specs.Definitions.Returned.{Returned}
use Rattle.semantics.specs.Theorems.Source.{BelowOf, NotBelow}

-- s is the setting of the source, and a is an atom of it
abbrev pub AtomOf : (from : Returned Setting) (a : ℕ) (s : Setting) → Type 0
AtomOf = BelowOf (λ s. s.atoms)

-- a is not below the atom count, and the refusal is "10, 0"
abbrev pub NoAtom : (from : Returned Setting) (a number place : ℕ) → Type 0
NoAtom = NotBelow (λ s. s.atoms) 10
