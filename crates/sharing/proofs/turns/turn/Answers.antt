-- `sharing::turns::turn` meets its contract. Assumes nothing.
use mathlib.Core.Path.{sym, subst}
use Rattle.order.specs.Ordered.{table_enumerates}
use Rattle.sharing.specs.Held.{setting_from, IsRead, Has}
use Rattle.sharing.proofs.Turned.{has_of}
use Rattle.sharing.proofs.turns.turn.Goals as goal

pub reach-requires-clause-outlines : goal.reach-requires-clause-outlines
reach-requires-clause-outlines c =
    let o = subst (λ z. IsRead z c.args.words.now) c.in-Ok.is c.requires.read.0 in
    (o, table_enumerates c.requires.order_value.0 o.few_negations)

pub returns-in-Ok-clause-has : goal.returns-in-Ok-clause-has
returns-in-Ok-clause-has c =
    let a = c.args in
    let told = c.in-Ok.is in
    let reach = c.reach in
    let o = subst (λ z. IsRead z a.words.now) told c.requires.read.0 in
    let has = has_of o a.order.now c.requires.order_value.0 a.t reach.result reach.new.records reach.ensures.stands in
    subst (λ z. Has (setting_from z a.words.now) a.t reach.result reach.new.records) (sym told) has
