-- `sheet::names::names` meets its contract. Assumes nothing.
use mathlib.Core.Path.{refl, sym, ap}
use Rattle.sheet.proofs.Loops.{entered, turned, refuses, finished}
use Rattle.sheet.proofs.NameLoop.{loop}
use Rattle.sheet.proofs.names.names.Goals as goal

pub loop-i-init : goal.loop-i-init
loop-i-init c = let a = c.args in entered (loop a.s.now a.first)

pub name-f-requires : goal.name-f-requires
name-f-requires c = sym (ap (λ z. z.at) c.loop-i.invariant.stands)

pub returns-in_default : goal.returns-in_default
returns-in_default c =
    let a = c.args in
    let l = c.loop-i in
    refuses (loop a.s.now a.first) l.invariant c.loop-i-test.true refl c.name-f.ensures c.in_default.is

pub loop-i-preserved : goal.loop-i-preserved
loop-i-preserved c =
    let a = c.args in
    let l = c.loop-i in
    turned (loop a.s.now a.first) l.invariant c.loop-i-test.true refl c.name-f.ensures c.in-Ok.is

pub returns : goal.returns
returns c = let a = c.args in finished (loop a.s.now a.first) c.loop-i.invariant c.loop-i-test.false
