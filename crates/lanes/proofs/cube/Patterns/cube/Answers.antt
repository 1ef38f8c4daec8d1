-- `lanes::cube::Patterns::cube` meets its contract. Assumes nothing.
use Prim.Native.Nat.{◌/◌}
use mathlib.Core.Path.{sym, ◌∙◌}
use native.Mathlib.Omega.{arith}
use Rattle.sets.specs.Members.{dec_⊆, dec_meets}
use Rattle.lanes.specs.Cube.{cube_some, cube_meets, cube_lacks}
use Rattle.lanes.proofs.cube.Patterns.cube.Goals as goal

pub returns-then-meets : goal.returns-then-meets
returns-then-meets c = let a = c.args in cube_meets a.z a.o a.w ((dec_meets (a.z / 64) a.w).yes (sym c.meets.ensures ∙ c.if-meets.true))

pub returns-then-subset : goal.returns-then-subset
returns-then-subset c =
    let a = c.args in
    let t = a.self.now.table in
    let m = c.meets.ensures in
    let s = c.subset.ensures in
    cube_some a.z a.o a.w _ _ ((dec_meets (a.z / 64) a.w).no (sym m ∙ c.if-meets.false))
    ((dec_⊆ (a.o / 64) a.w).yes (sym s ∙ c.if-subset.true)) (t.none (omega arith)) (t.every (omega arith))

pub returns : goal.returns
returns c = let a = c.args in cube_lacks a.z a.o a.w ((dec_⊆ (a.o / 64) a.w).no (sym c.subset.ensures ∙ c.if-subset.false))
