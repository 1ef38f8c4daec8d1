-- `sheet::rules::masks` meets its contract. Assumes nothing.
use native.Mathlib.Omega.{arith}
use Rattle.sheet.proofs.Loops.{entered, turned, refuses, finished}
use Rattle.sheet.proofs.MaskLoop.{loop, place, atoms, same}
use Rattle.sheet.proofs.rules.masks.Goals as goal

pub loop-i-init : goal.loop-i-init
loop-i-init c = let a = c.args in entered (loop a.s.now a.first)

pub mask-f-requires : goal.mask-f-requires
mask-f-requires c =
    let a = c.args in
    let r = c.loop-i.invariant in
    (omega (arith, place a.s.now a.first r), omega (arith, atoms a.s.now a.first r))

pub returns-in_default : goal.returns-in_default
returns-in_default c =
    let a = c.args in
    let l = c.loop-i in
    refuses (loop a.s.now a.first) l.invariant c.loop-i-test.true (same a.s.now a.first l.invariant)
    c.mask-f.ensures c.in_default.is

pub loop-i-preserved : goal.loop-i-preserved
loop-i-preserved c =
    let a = c.args in
    let l = c.loop-i in
    turned (loop a.s.now a.first) l.invariant c.loop-i-test.true (same a.s.now a.first l.invariant)
    c.mask-f.ensures c.in-Ok.is

pub returns : goal.returns
returns c = let a = c.args in finished (loop a.s.now a.first) c.loop-i.invariant c.loop-i-test.false
