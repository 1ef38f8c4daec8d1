-- The constant list is the order. Assumes nothing.
use Rattle.std.specs.Prelude.{◌≡◌, T}
use Rattle.std.specs.Int.Count.{ones_in}
use Rattle.sets.specs.Decides.{passed}
use Rattle.sets.specs.Lists.{every}
use Rattle.sets.specs.Pairwise.{neighbours}
use Rattle.semantics.specs.Definitions.Order.{order}
use Rattle.order.specs.Test.{in_order, dec_order}
use Rattle.order.specs.Table.{table_width, table}

-- computed, entry by entry
table-passes : T (in_order table_width table)
unfolding in_order table every neighbours ones_in
table-passes = tt

pub table_is : table ≡ order table_width
table_is = passed (dec_order table_width table) table-passes
