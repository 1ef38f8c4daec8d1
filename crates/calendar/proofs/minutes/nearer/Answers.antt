-- `calendar::minutes::nearer` meets its contract. Assumes nothing.
use borrow.Author.Tests.{lt-ltb, le-ltb}
use Rattle.calendar.proofs.minutes.nearer.Goals as goal

pub returns-then-at-best : goal.returns-then-at-best
returns-then-at-best c = rw (lt-ltb _ _ c.if-minute-at.true, lt-ltb _ _ c.if-at-best.true)

pub returns-else-at-best : goal.returns-else-at-best
returns-else-at-best c = rw (lt-ltb _ _ c.if-minute-at.true, le-ltb _ _ c.if-at-best.false)

pub returns-else-minute-at : goal.returns-else-minute-at
returns-else-minute-at c = rw (le-ltb _ _ c.if-minute-at.false)
