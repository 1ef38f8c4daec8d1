-- `source::masks_fit` meets its contract. Assumes nothing.
use mathlib.Core.Path.{ap₂}
use mathlib.Core.Bool.{not, ◌&&◌}
use lib.Dec.{ltb}
use Rattle.source.proofs.masks_fit.Goals as goal

pub returns : goal.returns
returns c =
    let a = c.args in
    ap₂ (λ end both. ltb a.ins end && ltb a.outs end && not both) c.power-end.ensures c.meets-both.ensures
