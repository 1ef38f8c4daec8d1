-- `propagation::clash` meets its contract. Assumes nothing.
use Rattle.propagation.specs.Pairs.{pair_from}
use Rattle.propagation.proofs.Bounds.{dec_clashes}
use Rattle.propagation.proofs.clash.Goals as goal

pub returns : goal.returns
returns c =
    let a = c.args in
    dec_clashes a.x a.guess (pair_from a.pair)
    c.requires.1
    c.full.ensures
    c.minus-outside.ensures
    c.found-least.ensures
    c.found-most.ensures
    c.subset-above.ensures
    c.subset-below.ensures
