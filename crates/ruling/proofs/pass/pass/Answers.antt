-- `ruling::pass::pass` meets its contract. Assumes nothing.
use lib.ListN.{get_or-replicate}
use Rattle.ruling.specs.Literals.{every_lane}
use Rattle.ruling.specs.Pass.{next_by}
use Rattle.ruling.proofs.pass.pass.Goals as goal

pub returns : goal.returns
returns c =
    let a = c.args in
    next_by a.words.now a.rules a.n a.truths.now a.falsities.now (λ i l. get_or-replicate 16 i every_lane 0 l) c.follow.ensures c.enter.ensures
