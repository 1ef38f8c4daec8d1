-- `text::refused_line` meets its contract. Assumes nothing.
use Rattle.text.proofs.Fields.{begin, one_more, finish}
use Rattle.text.proofs.refused_line.Goals as goal

pub returns-clause-holds : goal.returns-clause-holds
returns-clause-holds c =
    (finish (one_more (one_more (begin c.put-a.ensures)
    c.put_field-b.ensures.appended)
    c.put_field-c.ensures.appended)
    c.put.ensures).1
