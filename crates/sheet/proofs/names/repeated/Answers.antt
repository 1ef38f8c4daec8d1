-- `sheet::names::repeated` meets its contract. Assumes nothing.
use mathlib.Core.Path.{◌≡◌, refl, sym, ◌∙◌}
use native.Mathlib.Omega.{arith}
use Prim.Native.Nat.{◌-◌}
use Rattle.sheet.proofs.NameSought.{within, ends, start, is_it, is_not, is_none}
use Rattle.sheet.proofs.names.repeated.Goals as goal

pub loop-i-init : goal.loop-i-init
loop-i-init c =
    let a = c.args in
    let e : a.n - 0 ≡ a.n = omega arith in
    (omega arith, rw e c.requires.0, refl)

pub same_name-requires : goal.same_name-requires
same_name-requires c =
    let a = c.args in
    let l = c.loop-i in
    let h = within a.s.now a.n a.q l.i l.p c.loop-i-test.true l.invariant.1 in
    (c.requires.1, omega arith)

pub returns-then-same_name : goal.returns-then-same_name
returns-then-same_name c =
    let a = c.args in
    let l = c.loop-i in
    sym (start a.s.now a.n a.q a.from ∙ (l.invariant.2 ∙ is_it a.s.now a.n a.q l.i l.p
    c.loop-i-test.true (sym c.same_name.ensures ∙ c.if-same_name.true)))

pub overflow_add-p : goal.overflow_add-p
overflow_add-p c =
    let a = c.args in
    let l = c.loop-i in
    omega (arith, within a.s.now a.n a.q l.i l.p c.loop-i-test.true l.invariant.1)

pub bounds-s-p : goal.bounds-s-p
bounds-s-p c =
    let a = c.args in
    let l = c.loop-i in
    omega (arith, within a.s.now a.n a.q l.i l.p c.loop-i-test.true l.invariant.1)

pub overflow_add-p-in-loop-i : goal.overflow_add-p-in-loop-i
overflow_add-p-in-loop-i c =
    let a = c.args in
    let l = c.loop-i in
    omega (arith, within a.s.now a.n a.q l.i l.p c.loop-i-test.true l.invariant.1)

pub loop-i-preserved : goal.loop-i-preserved
loop-i-preserved c =
    let a = c.args in
    let l = c.loop-i in
    let h = c.loop-i-test.true in
    let more = ends a.s.now a.n a.q l.i l.p h in
    (omega arith, omega arith, l.invariant.2 ∙ is_not a.s.now a.n a.q l.i l.p h (sym c.same_name.ensures ∙ c.if-same_name.false))

pub returns : goal.returns
returns c =
    let a = c.args in
    let l = c.loop-i in
    sym (start a.s.now a.n a.q a.from ∙ (l.invariant.2 ∙ is_none a.s.now a.n a.q l.i l.p c.loop-i-test.false))
