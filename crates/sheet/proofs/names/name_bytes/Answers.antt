-- `sheet::names::name_bytes` meets its contract. Assumes nothing.
use borrow.Author.Tests.{ne_eqb}
use lib.Dec.{eqb}
use lib.ListN.{length, length-take, length-drop}
use mathlib.Core.Bool.{true, false}
use mathlib.Core.List.{List, [], ◌∷◌, ◌++◌}
use mathlib.Core.Path.{◌≡◌, refl, sym, ap, ◌∙◌}
use native.Mathlib.Numerals.{add-one}
use native.Mathlib.Omega.{arith}
use Prim.Native.Nat.{ℕ, ◌+◌, ◌-◌, ◌≤◌, ◌<◌}
use Rattle.sets.specs.Lists.{null}
use Rattle.semantics.specs.Definitions.Reading.{Reading, refused, times}
use Rattle.semantics.specs.Definitions.Sheet.{byte_at, name_byte, name_byte_at}
use Rattle.semantics.specs.Fields.{bytes_from}
use Rattle.semantics.proofs.Theorems.Fields.{bytes_from-more}
use Rattle.sheet.specs.Steps.{Got, field_of, moved}
use Rattle.semantics.specs.Theorems.Turns.{starts, goes_on, stops, is_done}
use Rattle.sheet.proofs.names.name_bytes.Goals as goal

none_yet : (l : List ℕ) → null l ≡ eqb (length l) 0
none_yet [] = refl
none_yet (x ∷ l) = sym (ne_eqb (length (x ∷ l)) 0 (λ e. omega arith))

-- one turn, with byte i there: the whole reading is what is left of it

module _ (s : List ℕ) (n from i : ℕ) (h : i < n) (l : from + n ≤ length s) where
  first-only : null (bytes_from s i from) ≡ eqb i 0
  first-only =
      let e : length (bytes_from s i from) ≡ i = simp (length-take, length-drop) (omega arith) in
      none_yet (bytes_from s i from) ∙ rw e

  module _ {whole : Reading (List ℕ)} (left : whole ≡ times (n - i) (bytes_from s i from) (name_byte_at s) (from + i)) where
    good : name_byte (eqb i 0) (byte_at s (from + i)) ≡ true → whole ≡ times (n - (i + 1)) (bytes_from s (i + 1) from) (name_byte_at s) (from + (i + 1))
    unfolding name_byte_at
    good e =
        let more : bytes_from s (i + 1) from ≡ bytes_from s i from ++ byte_at s (from + i) ∷ [] = rw add-one (bytes_from-more s i from (omega arith)) in
        let place : from + (i + 1) ≡ from + i + 1 = omega arith in
        rw (more, place) (goes_on (name_byte_at s) n i (from + i) (bytes_from s i from) left h (simp (first-only, e)))

    bad : name_byte (eqb i 0) (byte_at s (from + i)) ≡ false → whole ≡ refused 3 (from + i)
    unfolding name_byte_at
    bad e = stops (name_byte_at s) n i (from + i) (bytes_from s i from) left h (simp (first-only, e))

pub loop-i-init : goal.loop-i-init
loop-i-init c =
    let a = c.args in
    let e : a.c.at + 0 ≡ a.c.at = omega arith in
    (omega arith, rw e (starts (name_byte_at a.s.now) a.n a.c.at))

pub loop-i-preserved : goal.loop-i-preserved
loop-i-preserved c =
    let a = c.args in
    let l = c.loop-i in
    let answered = sym c.name_byte.ensures ∙ c.if-not-name_byte.false in
    (omega arith, good a.s.now a.n a.c.at l.i c.loop-i-test.true c.requires l.invariant.1 answered)

pub returns-then-not-name_byte : goal.returns-then-not-name_byte
returns-then-not-name_byte c =
    let a = c.args in
    let l = c.loop-i in
    let answered = sym c.name_byte.ensures ∙ c.if-not-name_byte.true in
    sym (ap (field_of (λ _. a.n) (λ _. moved a.c))
    (bad a.s.now a.n a.c.at l.i c.loop-i-test.true c.requires l.invariant.1 answered))

pub returns : goal.returns
returns c =
    let a = c.args in
    let l = c.loop-i in
    let e : a.n ≡ l.i = omega (arith, l.invariant.0, c.loop-i-test.false) in
    ap (λ i. Got a.n (moved a.c (a.c.at + i))) e
    ∙ sym (ap (field_of (λ _. a.n) (λ _. moved a.c))
    (is_done (name_byte_at a.s.now) a.n l.i (a.c.at + l.i) (bytes_from a.s.now l.i a.c.at) l.invariant.1 c.loop-i-test.false))
