-- `ruling::literals::dead` meets its contract. Assumes nothing.
use Rattle.ruling.specs.Literals.{dead_by}
use Rattle.ruling.proofs.literals.dead.Goals as goal

pub returns : goal.returns
returns c =
    let a = c.args in
    dead_by a.words.now a.j a.truths.now a.falsities.now c.in_some-plain.ensures.0 c.in_some-nots.ensures.0 c.in_some-not_nots.ensures.0
    c.in_some-known.ensures.0 c.in_some-not_known.ensures.0 c.in_some-may_be.ensures.0 c.in_some-not_may_be.ensures.0
