-- `ruling::literals::sure` meets its contract. Assumes nothing.
use Rattle.ruling.specs.Literals.{sure_by}
use Rattle.ruling.proofs.literals.sure.Goals as goal

pub returns : goal.returns
returns c =
    let a = c.args in
    sure_by a.words.now a.j a.truths.now a.falsities.now c.in_all-plain.ensures c.in_all-nots.ensures c.in_all-not_nots.ensures
    c.in_all-known.ensures c.in_all-not_known.ensures c.in_all-may_be.ensures c.in_all-not_may_be.ensures
