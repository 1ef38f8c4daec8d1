-- `sheet::fields::present` meets its contract. Assumes nothing.
use borrow.Author.Tests.{le-leb, lt-leb}
use lib.ListN.{length}
use mathlib.Core.Path.{sym}
use native.Mathlib.Omega.{arith}
use Prim.Native.Nat.{◌+◌, ◌<◌, ◌≤◌}
use Rattle.sheet.proofs.fields.present.Goals as goal

pub returns-then-n-s : goal.returns-then-n-s
returns-then-n-s c =
    let a = c.args in
    let h : a.at + a.n ≤ length a.s.now = omega arith in
    sym (le-leb _ _ h)

pub returns-else-n-s : goal.returns-else-n-s
returns-else-n-s c =
    let a = c.args in
    let h : length a.s.now < a.at + a.n = omega arith in
    sym (lt-leb _ _ h)

pub returns-else-at-s : goal.returns-else-at-s
returns-else-at-s c =
    let a = c.args in
    let h : length a.s.now < a.at + a.n = omega arith in
    sym (lt-leb _ _ h)
