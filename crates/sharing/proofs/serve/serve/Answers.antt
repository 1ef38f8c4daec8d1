-- `sharing::serve::serve` meets its contract. Assumes nothing.
use mathlib.Core.Path.{sym, ap, ◌∙◌}
use mathlib.Core.List.{map}
use lib.ListN.{length}
use Rattle.semantics.specs.Definitions.Sharing.{granted, carried, lent_after}
use Rattle.sharing.specs.Handed.{four}
use Rattle.sharing.proofs.Handing.{carried_is, handed_is, all_fit, one_short}
use Rattle.sharing.proofs.serve.serve.Goals as goal

pub returns-in-Some : goal.returns-in-Some
returns-in-Some c =
    let a = c.args in
    let run = c.rounds-states.ensures.result_len in
    let states = c.rounds-states.result in
    let records = c.rounds-states.new.records in
    let rooms = map length (four a.oa.now a.ob.now a.oc.now a.od.now) in
    let short = c.in-Some.ensures in
    let is = one_short a.sources a.words.now a.n a.allowance states records c.requires.0 run.1 run.2 run.3 rooms short in
    record {
      result_value = sym (ap carried is);
      od_after = sym (ap (λ r. lent_after r (four a.oa.now a.ob.now a.oc.now a.od.now)) is);
    }

pub returns-in-None : goal.returns-in-None
returns-in-None c =
    let a = c.args in
    let run = c.rounds-states.ensures.result_len in
    let states = c.rounds-states.result in
    let records = c.rounds-states.new.records in
    let few = c.requires.0 in
    let rooms = map length (four a.oa.now a.ob.now a.oc.now a.od.now) in
    let fits = c.in-None.ensures in
    let is = all_fit a.sources a.words.now a.n a.allowance states records few run.1 run.2 run.3 rooms fits in
    let put = c.hand_all.ensures in record {
      result_value = ap granted (c.shares_of.ensures ∙ carried_is a.sources a.words.now a.n a.allowance states records few run.1 run.2 run.3) ∙ sym (ap carried is);
      od_after = (λ i. four (put.oa_after i) (put.ob_after i) (put.oc_after i) (put.od_after i))
          ∙ sym (handed_is a.sources a.words.now a.n a.allowance states records few run.1 run.2 run.3 a.oa.now a.ob.now a.oc.now a.od.now)
          ∙ sym (ap (λ r. lent_after r (four a.oa.now a.ob.now a.oc.now a.od.now)) is);
    }
