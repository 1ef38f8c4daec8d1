-- Document 02, K2, "Known and possible in one walk".
use Rattle.std.specs.Prelude.{ℕ, ◌+◌, ◌^◌, Bool, true, false, not, eqb, length}
use mathlib.Core.List.{List, foldl}
use Rattle.sets.specs.Lists.{up_to}
use Rattle.sets.specs.Sets.{◌∩◌, ◌∪◌, ∅, full, set_of, ⋂, ⋃}
use Rattle.semantics.specs.Definitions.Rules.{Rule}
use Rattle.semantics.specs.Definitions.Guesses.{Negation, numbered}
use Rattle.semantics.specs.Definitions.Stable.{stable, stable_sets}
use Rattle.semantics.specs.Definitions.Verdict.{Verdict, found_has, judge}

-- "what it gathered", known, possible and the number of stable sets; and "its number of tests"
pub record Gathered : Type 0 where
  pub known : ℕ
  pub possible : ℕ
  pub sets : ℕ
  pub tests : ℕ

-- the four, in this order
abbrev pub having : (known possible sets tests : ℕ) → Gathered
having known possible sets tests = record { known = known; possible = possible; sets = sets; tests = tests }

-- what has to come out: what two walks over the stable sets gave, "once for known and once for possible"; the number of stable sets; and
-- "its number of tests: 2 to the number of atoms"
abbrev pub gathered : (atoms : ℕ) → List Rule → Gathered
gathered n p = let w = stable_sets n p in record { known = ⋂ n w; possible = ⋃ w; sets = length w; tests = 2 ^ n }

-- before any test
abbrev pub untested : (atoms : ℕ) → Gathered
untested n = record { known = full n; possible = ∅; sets = 0; tests = 0 }

-- after a test more, of the set i. Where i passed it, that is one stable set more
abbrev pub after_test : Gathered → (passed : Bool) → (i : ℕ) → Gathered
after_test y true i = record { known = y.known ∩ i; possible = y.possible ∪ i; sets = y.sets + 1; tests = y.tests + 1 }
after_test y false i = record { known = y.known; possible = y.possible; sets = y.sets; tests = y.tests + 1 }

-- the pass over the sets of a list
abbrev pub pass_over : (atoms : ℕ) → List Rule → List ℕ → Gathered
pass_over n p l = foldl (λ y i. after_test y (stable p i) i) (untested n) l

-- "one pass that tests each set of atoms once", by rising number
unfoldable pub one_pass : (atoms : ℕ) → List Rule → Gathered
one_pass n p = pass_over n p (up_to (2 ^ n))

-- the verdict on a guess, by its negations and by what is gathered
abbrev pub verdict_from : List Negation → Gathered → ℕ → Verdict
verdict_from ns y g =
    let found = set_of (λ j. found_has y.known y.possible (numbered ns j)) (length ns) in
    judge (eqb y.sets 0) (not (eqb found g)) found y.known y.possible y.sets
