-- `calendar::force::open_at` meets its contract. Assumes nothing.
use borrow.Author.Tests.{lt-ltb, le-ltb}
use Rattle.calendar.proofs.force.open_at.Goals as goal

pub returns-then-end-first : goal.returns-then-end-first
returns-then-end-first c = rw (lt-ltb _ _ c.if-end-first.true)

pub returns : goal.returns
returns c = rw (le-ltb _ _ c.if-end-first.false)
