-- `calendar::entries::proper` meets its contract. Assumes nothing.
use native.Mathlib.Omega.{arith}
use Rattle.calendar.specs.Entries.{entry_of}
use Rattle.calendar.proofs.Written.{no_rule, first-over, end_over, by_ends}
use Rattle.calendar.proofs.entries.proper.Goals as goal

pub returns-then-rules-e : goal.returns-then-rules-e
returns-then-rules-e c = no_rule c.args.rules (entry_of c.args.e) (omega (arith, c.if-rules-e.true))

pub returns-then-e-gt10079 : goal.returns-then-e-gt10079
returns-then-e-gt10079 c = first-over c.args.rules (entry_of c.args.e) (omega (arith, c.if-rules-e.false)) (omega (arith, c.if-e-gt10079.true))

pub returns-then-e-gt10079-2 : goal.returns-then-e-gt10079-2
returns-then-e-gt10079-2 c =
    end_over c.args.rules (entry_of c.args.e) (omega (arith, c.if-rules-e.false)) (omega (arith, c.if-e-gt10079.false)) (omega (arith, c.if-e-gt10079-2.true))

pub returns : goal.returns
returns c =
    by_ends c.args.rules (entry_of c.args.e) (omega (arith, c.if-rules-e.false)) (omega (arith, c.if-e-gt10079.false)) (omega (arith, c.if-e-gt10079-2.false))
