-- `guesses` meets its contract: the code's table is the list of specs, entry by entry. Assumes nothing.
use Rattle.order.specs.Table.{table}
use Rattle.order.proofs.Ordered.{table_is}
use Rattle.order.proofs.guesses.Goals as goal

pub returns : goal.returns
unfolding table
returns c = table_is
