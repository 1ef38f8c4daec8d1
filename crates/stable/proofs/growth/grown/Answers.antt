-- `stable::growth::grown` meets its contract: it has nothing that a closed set lacks, and each pass but the last adds an atom of i. Assumes
-- nothing.
use native.Mathlib.Omega.{arith}
use Rattle.sets.specs.Members.{⊆_le, ⊂_less}
use Rattle.stable.specs.Applied.{positive_program}
use Rattle.stable.specs.Smaller.{whole_closed}
use Rattle.stable.proofs.Growing.{all_grown}
use Rattle.stable.proofs.growth.grown.Goals as goal

pub loop-l-smaller : goal.loop-l-smaller
loop-l-smaller c =
    let l = c.loop-l in
    let g = c.pass-m.ensures in
    let a = c.args in
    let whole = whole_closed (positive_program a.positive.now) a.i in
    let more = ⊂_less (record { within = g.kept; differ = λ e. omega arith }) in
    omega (arith, more, ⊆_le (g.within whole (l.invariant a.i whole)))

pub returns : goal.returns
returns c =
    let l = c.loop-l in
    let a = c.args in
    all_grown (positive_program a.positive.now) l.invariant c.loop-l-test.false
