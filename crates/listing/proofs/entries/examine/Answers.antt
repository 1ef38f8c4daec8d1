-- `listing::entries::examine` meets its contract. Assumes nothing.
use native.Mathlib.Omega.{arith}
use borrow.Author.Tests.{not-true, not-false}
use Rattle.guess.specs.Numbered.{few_of}
use Rattle.listing.proofs.Entered.{examined_ruled, examined_other, examined_entry}
use Rattle.listing.proofs.entries.examine.Goals as goal

pub holds-requires : goal.holds-requires
holds-requires c = omega (arith, c.requires.1, c.requires.2.wide)

pub returns-then-not-holds : goal.returns-then-not-holds
returns-then-not-holds c =
    let (o, h, t) = c.requires in
    examined_ruled o t h (c.holds.ensures.no (not-true _ c.if-not-holds.true-raw))

pub holds-requires-2 : goal.holds-requires-2
holds-requires-2 c = omega (arith, c.requires.1, c.requires.2.wide, c.requires.2.long)

pub returns-then-not-holds-2 : goal.returns-then-not-holds-2
returns-then-not-holds-2 c =
    let (o, h, t) = c.requires in
    examined_other o t h (c.holds.ensures.yes (not-false _ c.if-not-holds.false-raw)) (c.holds-2.ensures.no (not-true _ c.if-not-holds-2.true-raw))

pub bounds-table-g : goal.bounds-table-g
bounds-table-g c = let (o, h, t) = c.requires in omega (arith, h, t.wide, t.stand)

pub by_entry-requires : goal.by_entry-requires
by_entry-requires c = few_of c.requires.0

pub returns : goal.returns
returns c =
    let (o, h, t) = c.requires in
    examined_entry o t h (c.holds.ensures.yes (not-false _ c.if-not-holds.false-raw)) (c.holds-2.ensures.yes (not-false _ c.if-not-holds-2.false-raw)) c.by_entry.ensures
