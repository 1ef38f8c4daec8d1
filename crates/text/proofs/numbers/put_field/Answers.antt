-- `text::numbers::put_field` meets its contract. Assumes nothing.
use Rattle.text.proofs.Append.{and_then}
use Rattle.text.proofs.numbers.put_field.Goals as goal

pub returns-clause-appended : goal.returns-clause-appended
returns-clause-appended c = and_then c.put-a.ensures c.put_decimal.ensures.appended
