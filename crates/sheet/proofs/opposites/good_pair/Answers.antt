-- `sheet::opposites::good_pair` meets its contract. Assumes nothing.
use borrow.Author.Tests.{lt-ltb, ne_eqb}
use lib.Dec.{eqb}
use lib.ListN.{length}
use mathlib.Core.Bool.{Bool, true, false, not}
use mathlib.Core.List.{List}
use mathlib.Core.Path.{◌≡◌, sym, ap, ◌∙◌}
use native.Mathlib.Omega.{arith}
use Prim.Native.Nat.{ℕ, ◌+◌, ◌*◌, ◌≤◌, ◌<◌}
use Rattle.sets.specs.Decides.{is_false}
use Rattle.sets.specs.Lists.{some}
use Rattle.semantics.specs.Definitions.Sheet.{Opposites, atoms_of, good_pair}
use Rattle.semantics.specs.Fields.{bytes_from, pairs_from}
use Rattle.semantics.specs.Theorems.Pairs.{GoodPair}
use Rattle.semantics.proofs.Theorems.Pairs.{dec_member, dec_good_pair, atoms-bytes}
use Rattle.sheet.specs.Steps.{opposites}
use Rattle.sheet.proofs.opposites.good_pair.Goals as goal

module _ (s : List ℕ) (i from atoms first second : ℕ) where
  abbrev earlier : List Opposites
  earlier = pairs_from s i from

  bad : (GoodPair atoms earlier (opposites first second) → ⊥) → false ≡ good_pair atoms earlier (opposites first second)
  bad f = sym (is_false (dec_good_pair atoms earlier (opposites first second)) f)

  -- what `taken` answers, of the bytes of these pairs
  module _ (there : from + 2 * i ≤ length s) {t : Bool} where
    among-earlier : (atom : ℕ) → t ≡ some (eqb atom) (bytes_from s (2 * i) from) → t ≡ some (eqb atom) (atoms_of earlier)
    among-earlier atom e = e ∙ ap (some (eqb atom)) (sym (atoms-bytes s i from there))

    first_taken : t ≡ some (eqb first) (bytes_from s (2 * i) from) → t ≡ true → false ≡ good_pair atoms earlier (opposites first second)
    first_taken e found = bad (λ g. g.first_new ((dec_member first (atoms_of earlier)).yes (sym (among-earlier first e) ∙ found)))

    second_decides : first < atoms → second < atoms → (first ≡ second → ⊥) → some (eqb first) (atoms_of earlier) ≡ false
        → t ≡ some (eqb second) (bytes_from s (2 * i) from) → not t ≡ good_pair atoms earlier (opposites first second)
    second_decides l m differ new e =
        ap not (among-earlier second e) ∙ rw (lt-ltb first atoms l, lt-ltb second atoms m, ne_eqb first second differ, new)

pub returns-then-atoms-first : goal.returns-then-atoms-first
returns-then-atoms-first c =
    let a = c.args in
    let h = c.if-atoms-first.true in
    bad a.s.now a.i a.from a.atoms a.first a.second (λ g. omega (arith, g.first_below))

pub returns-then-atoms-second : goal.returns-then-atoms-second
returns-then-atoms-second c =
    let a = c.args in
    let h = c.if-atoms-second.true in
    bad a.s.now a.i a.from a.atoms a.first a.second (λ g. omega (arith, g.second_below))

pub returns-then-first-second : goal.returns-then-first-second
returns-then-first-second c =
    let a = c.args in
    bad a.s.now a.i a.from a.atoms a.first a.second (λ g. g.differ c.if-first-second.true)

pub returns-then-taken : goal.returns-then-taken
returns-then-taken c =
    let a = c.args in
    first_taken a.s.now a.i a.from a.atoms a.first a.second c.requires c.taken.ensures c.if-taken.true

pub returns : goal.returns
returns c =
    let a = c.args in
    let l : a.first < a.atoms = omega (arith, c.if-atoms-first.false) in
    let m : a.second < a.atoms = omega (arith, c.if-atoms-second.false) in
    let new = sym (among-earlier a.s.now a.i a.from a.atoms a.first a.second c.requires a.first c.taken.ensures) ∙ c.if-taken.false in
    second_decides a.s.now a.i a.from a.atoms a.first a.second c.requires l m c.if-first-second.false new c.taken-2.ensures
