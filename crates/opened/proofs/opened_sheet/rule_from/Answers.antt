-- `opened::opened_sheet::rule_from` meets its contract. Assumes nothing.
use borrow.Author.Tests.{lt-ltb, le-ltb}
use Rattle.opened.proofs.opened_sheet.rule_from.Goals as goal

pub returns-then-number-rules : goal.returns-then-number-rules
returns-then-number-rules c = rw (lt-ltb _ _ c.if-number-rules.true)

pub returns : goal.returns
returns c = rw (le-ltb _ _ c.if-number-rules.false)
