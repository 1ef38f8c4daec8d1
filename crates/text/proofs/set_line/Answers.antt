-- `text::set_line` meets its contract. Assumes nothing.
use Rattle.text.proofs.Append.{and_then}
use Rattle.text.proofs.Fields.{whole, same_line}
use Rattle.text.proofs.Named.{set_says}
use Rattle.text.proofs.set_line.Goals as goal

pub returns-clause-holds_for : goal.returns-clause-holds_for
returns-clause-holds_for c = λ names e.
    same_line (set_says c.args.sheet.now names e c.args.set) (whole (and_then (and_then c.put-a.ensures c.put_names-b.ensures.appended) c.put.ensures)).1
