-- `ruling::test` meets its contract. Assumes nothing.
use Rattle.ruling.specs.Contradiction.{tested}
use Rattle.ruling.proofs.test.Goals as goal

pub returns : goal.returns
returns c =
    let a = c.args in
    tested a.x a.words.now a.assumed.now.unknown a.assumed.now.maybe c.lay-truths.ensures c.lay-falsities.ensures c.empty_head-rule.ensures c.in_some-in_atom.ensures
    c.in_some-out_atom.ensures c.clashes-unknown.ensures c.clashes-maybe.ensures
