-- What the rest of document 01 is said of: a number of atoms, the epistemic negations, and for each guess its program: the reduct, and constraints added to it. A sheet gives one
-- setting; what is said of every setting holds too where rules are added or left out, or another reduct is taken.
use Rattle.std.specs.Prelude.{ℕ, ◌^◌, List, ◌++◌, length}
use Rattle.sets.specs.Lists.{up_to}
use Rattle.semantics.specs.Definitions.Rules.{Rule, EpistemicRule}
use Rattle.semantics.specs.Definitions.Guesses.{Negation, negations_of, numbered}
use Rattle.semantics.specs.Definitions.Reduct.{holds_by, reduct}

pub record Setting : Type 0 where
  pub atoms : ℕ
  pub negations : List Negation
  pub program : ℕ → List Rule

-- of n atoms and the rules of a sheet, whose masks have no bit at or above n
abbrev pub setting_of : ℕ → List EpistemicRule → Setting
setting_of n rs =
    let es = negations_of n rs in
    record { atoms = n; negations = es; program = λ g. reduct n (holds_by es g) rs }

-- constraints added to a setting: they follow the program of every guess
abbrev pub add : List Rule → Setting → Setting
add cs s = record { atoms = s.atoms; negations = s.negations; program = λ g. s.program g ++ cs }

-- "k is how many there are"
abbrev pub k : Setting → ℕ
k s = length s.negations

-- negation j of the setting
abbrev pub negation : Setting → ℕ → Negation
negation s j = numbered s.negations j

-- "A guess is a number below 2^k": all of them, rising. ("Its size is the number of set bits": `size` of sets.)
abbrev pub guesses : Setting → List ℕ
guesses s = up_to (2 ^ k s)
