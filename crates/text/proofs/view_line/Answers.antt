-- `text::view_line` meets its contract. Assumes nothing.
use Rattle.text.proofs.Append.{and_then}
use Rattle.text.proofs.Fields.{whole, same_line}
use Rattle.text.proofs.Named.{view_says}
use Rattle.text.proofs.view_line.Goals as goal

pub returns-clause-holds : goal.returns-clause-holds
returns-clause-holds c =
    (whole (and_then (and_then (and_then (and_then c.put-a.ensures
    c.put_field-b.ensures.appended)
    c.put_field-c.ensures.appended)
    c.put_names-d.ensures.appended)
    c.put.ensures)).1

pub returns-clause-holds_for : goal.returns-clause-holds_for
returns-clause-holds_for c = λ names e.
    same_line (view_says c.args.sheet.now names e c.args.guess c.args.sets c.args.known) (returns-clause-holds c)
