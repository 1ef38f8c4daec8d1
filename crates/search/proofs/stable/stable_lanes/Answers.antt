-- `search::stable::stable_lanes` meets its contract. Assumes nothing.
use lib.ListN.{length}
use Rattle.lanes.specs.Lanes.{lanes_is}
use Rattle.search.specs.Stable.{stable-some}
use Rattle.search.proofs.stable.stable_lanes.Goals as goal

pub returns : goal.returns
returns c =
    let a = c.args in
    let model = c.models-model.ensures in
    let on = c.switch_on.ensures in
    lanes_is c.minus.ensures
    (stable-some a.rules.now _ (length a.rules.now) a.i a.w a.lanes model on c.supported-left.ensures c.smaller-small.ensures)
