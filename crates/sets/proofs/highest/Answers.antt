-- `sets::highest` meets its contract: the members are left out one by one, the lowest first, until one is left. Assumes nothing.
use Prim.Native.Nat.{◌-◌}
use mathlib.Core.Path.{refl, sym, ◌∙◌}
use native.Mathlib.Omega.{arith}
use lib.Bits.{and_le_r}
use Rattle.sets.specs.Sets.{◌⊆◌}
use Rattle.sets.specs.Members.{⊆_refl, ⊆_trans, ∈-∩}
use Rattle.sets.specs.One.{lowest_alone, alone}
use Rattle.sets.proofs.highest.Goals as goal

pub loop-rest-init : goal.loop-rest-init
loop-rest-init c = (c.requires, ⊆_refl, refl)

pub loop-rest-smaller : goal.loop-rest-smaller
loop-rest-smaller c =
    let l = c.loop-rest in
    omega (arith, l.invariant.0, l.invariant.2, and_le_r l.m (l.m - 1))

pub loop-rest-preserved : goal.loop-rest-preserved
loop-rest-preserved c =
    let l = c.loop-rest in
    let part : l.rest ⊆ l.m = record { into = λ {a} k. ((∈-∩ a l.m (l.m - 1)).0 (rw l.invariant.2 at k)).0 } in
    (omega arith, ⊆_trans part l.invariant.1, refl)

pub returns : goal.returns
returns c =
    let l = c.loop-rest in
    let (a, k, e) = alone l.invariant.0 (lowest_alone l.m (sym l.invariant.2 ∙ c.loop-rest-test.false)) in
    (a, l.invariant.1.into k, e)
