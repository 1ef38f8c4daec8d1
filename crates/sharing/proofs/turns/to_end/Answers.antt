-- `sharing::turns::to_end` meets its contract. Assumes nothing.
use Prim.Native.Nat.{◌^◌}
use mathlib.Core.Path.{sym, subst}
use Rattle.semantics.specs.Definitions.Check.{most_negations}
use Rattle.order.specs.Ordered.{table_enumerates}
use Rattle.sharing.specs.Held.{setting_from, IsRead, Has}
use Rattle.sharing.proofs.Turned.{has_end}
use Rattle.sharing.proofs.turns.to_end.Goals as goal

pub whole-requires : goal.whole-requires
whole-requires c =
    let (is, program, records, read) = c.requires in
    let o = subst (λ z. IsRead z c.args.words.now) c.in-Ok.is read in
    (o, table_enumerates is o.few_negations, program, records)

pub returns-in-Ok-clause-has : goal.returns-in-Ok-clause-has
returns-in-Ok-clause-has c =
    let a = c.args in
    let told = c.in-Ok.is in
    let end = c.whole in
    let o = subst (λ z. IsRead z a.words.now) told c.requires.3 in
    let has = has_end o a.order.now c.requires.0 end.result end.new.program end.new.records end.ensures.along end.ensures.waits_value.1 in
    subst (λ z. Has (setting_from z a.words.now) (2 ^ most_negations) end.result end.new.records) (sym told) has
