-- `sheet::names::name_byte` meets its contract. Assumes nothing.
use borrow.Author.Tests.{le-leb, lt-leb, eq-eqb, ne_eqb}
use mathlib.Core.Bool.{and-false, or-false}
use native.Mathlib.Omega.{arith}
use Rattle.sheet.proofs.names.name_byte.Goals as goal

pub returns-then-b-ge97 : goal.returns-then-b-ge97
returns-then-b-ge97 c =
    let b = c.args.b in
    simp (le-leb 97 b (omega arith), lt-leb b 57 (omega arith), ne_eqb b 95 (λ e. omega arith), and-false, or-false)

pub returns-then-i-eq0 : goal.returns-then-i-eq0
returns-then-i-eq0 c = simp (lt-leb _ _ c.if-b-ge97.false, eq-eqb _ _ c.if-i-eq0.true)

pub returns-then-b-eq95 : goal.returns-then-b-eq95
returns-then-b-eq95 c =
    let a = c.args in
    let b = a.b in
    simp (lt-leb 97 b (omega arith), ne_eqb a.i 0 c.if-i-eq0.false, lt-leb b 57 (omega arith), le-leb 48 b (omega arith), eq-eqb b 95 c.if-b-eq95.true)

pub returns-then-b-ge48 : goal.returns-then-b-ge48
returns-then-b-ge48 c =
    let a = c.args in
    let b = a.b in
    simp (lt-leb 97 b (omega arith), ne_eqb a.i 0 c.if-i-eq0.false, le-leb 48 b c.if-b-ge48.true, ne_eqb b 95 c.if-b-eq95.false, or-false)

pub returns : goal.returns
returns c =
    let a = c.args in
    let b = a.b in
    simp (lt-leb 97 b (omega arith), ne_eqb a.i 0 c.if-i-eq0.false, lt-leb 48 b c.if-b-ge48.false, ne_eqb b 95 c.if-b-eq95.false)
