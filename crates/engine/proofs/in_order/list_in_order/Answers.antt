-- `engine::in_order::list_in_order` meets its contract. Assumes nothing.
use Prim.Native.Nat.{◌≤◌}
use mathlib.Core.Path.{ap, ◌∙◌}
use native.Mathlib.Omega.{arith}
use Rattle.semantics.specs.Definitions.Setting.{k}
use Rattle.semantics.specs.Definitions.Listing.{views_along}
use Rattle.order.specs.Table.{table_width}
use Rattle.order.specs.Ordered.{table-members, table_enumerates}
use Rattle.guess.specs.Programs.{setting_in}
use Rattle.engine.proofs.in_order.list_in_order.Goals as goal

pub walk-requires : goal.walk-requires
walk-requires c =
    let pre = c.requires in
    (pre.0, table_enumerates c.guesses-order.ensures (omega (arith, pre.0.few_negations)), pre.1)

pub returns : goal.returns
returns c =
    let a = c.args in
    let o = c.requires.0 in
    let w = c.walk.ensures in
    let few : k (setting_in a.x a.words.now) ≤ table_width = omega (arith, o.counted, o.few_negations) in
    record {
      records_len_unchanged = w.records_len_unchanged;
      views_in_bounds = w.views_in_bounds;
      result_value = w.listing_along.0;
      views_after = w.listing_along.1 ∙ ap (views_along (setting_in a.x a.words.now)) (table-members c.guesses-order.ensures few);
    }
