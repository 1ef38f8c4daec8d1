-- `sharing::sheets::first_refused` meets its contract. Assumes nothing.
use mathlib.Core.Path.{◌∙◌}
use native.Mathlib.Omega.{arith}
use borrow.Author.Count.{below_more}
use Rattle.sharing.specs.Held.{unread}
use Rattle.sharing.proofs.Reading.{get_or_within}
use Rattle.sharing.proofs.sheets.first_refused.Goals as goal

pub loop-p-preserved : goal.loop-p-preserved
loop-p-preserved c =
    let l = c.loop-p in
    let within = get_or_within c.args.sources l.p unread _ (omega (arith, c.requires.0, c.requires.1, c.loop-p-test.true)) in
    below_more _ l.p l.invariant (_, within ∙ c.in_default.is)
