-- `stable::nogood::block` meets its contract. Assumes nothing.
use Prim.Native.Nat.{◌+◌, ◌*◌, ◌<◌}
use mathlib.Core.Path.{◌≡◌, sym, subst, ◌∙◌}
use native.Mathlib.Omega.{arith}
use lib.ListN.{get_or}
use Rattle.sets.specs.Sets.{◌∩◌}
use Rattle.sets.specs.One.{OneOf}
use Rattle.semantics.specs.Words.{rule_in}
use Rattle.stable.proofs.Excluding.{first_test, idle, asks, forbids, stays, head_stays}
use Rattle.stable.proofs.nogood.block.Goals as goal

pub returns-then-meets-inside : goal.returns-then-meets-inside
returns-then-meets-inside c =
    let a = c.args in
    idle (rule_in a.program.now a.j) a.i a.s a.r.has a.r.lacks
    (first_test a.program.now a.j c.minus-u.ensures c.meets-inside.ensures c.meets.ensures ∙ c.if-meets-inside.true)

pub returns-then-missing-ne0 : goal.returns-then-missing-ne0
returns-then-missing-ne0 c =
    let a = c.args in
    asks (rule_in a.program.now a.j) a.i a.s a.r.has a.r.lacks
    (subst (λ z. OneOf z c.highest.result) c.minus-missing.ensures c.highest.ensures)

pub returns-then-forbidden-ne0 : goal.returns-then-forbidden-ne0
returns-then-forbidden-ne0 c =
    let a = c.args in
    forbids (rule_in a.program.now a.j) a.i a.s a.r.has a.r.lacks c.highest-then-forbidden-ne0.ensures

pub highest-requires-2 : goal.highest-requires-2
highest-requires-2 c =
    let a = c.args in
    let z : 4 * a.j + 0 ≡ 4 * a.j = omega arith in
    subst (λ y. 0 < get_or a.program.now y 0 ∩ a.s) z
    (head_stays (rule_in a.program.now a.j) a.i a.s c.requires.1
    (first_test a.program.now a.j c.minus-u.ensures c.meets-inside.ensures c.meets.ensures ∙ c.if-meets-inside.false)
    (sym c.minus-missing.ensures ∙ c.if-missing-ne0.false) c.if-forbidden-ne0.false)

pub returns : goal.returns
returns c =
    let a = c.args in
    let z : 4 * a.j ≡ 4 * a.j + 0 = omega arith in
    stays (rule_in a.program.now a.j) a.i a.s a.r.has a.r.lacks
    (subst (λ y. OneOf (get_or a.program.now y 0 ∩ a.s) c.highest-2.result) z c.highest-2.ensures)
