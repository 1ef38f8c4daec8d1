-- `sharing::share` meets its contract. Assumes nothing.
use Prim.Native.Nat.{ℕ, ◌≤◌, ◌<◌}
use mathlib.Core.Path.{◌≡◌, refl, sym, ap, ◌∙◌}
use mathlib.Core.List.{List, map}
use native.Mathlib.Omega.{arith}
use lib.ListN.{length}
use Rattle.semantics.specs.Definitions.Sharing.{shares_of, ◌and_so◌, shares_into, share_call, carried, lent_after}
use Rattle.sharing.specs.Handed.{four}
use Rattle.sharing.specs.Answers.{Shared, shared}
use Rattle.sharing.specs.Demand.{SharingDemand, sharing_demand}
use Rattle.sharing.proofs.Called.{sheets_granted, sheets_denied, without_sheets, over-four, one_to_four}
use Rattle.sharing.proofs.share.Goals as goal

-- what the call ensures
called : (count : ℕ) (sheets : List (List ℕ)) (allowance : ℕ) (r : Shared) (before after : List (List ℕ)) → length sheets ≡ 4 → length before ≡ 4
    → shared r ≡ carried (share_call count sheets allowance (map length before)) → after ≡ lent_after (share_call count sheets allowance (map length before)) before
    → (shared r ≡ carried (share_call count sheets allowance (map length before)))
    × ((after ≡ lent_after (share_call count sheets allowance (map length before)) before) × SharingDemand count sheets allowance r before after)
called count sheets allowance r before after s b answers leaves = (answers, (leaves, sharing_demand count sheets allowance r before after s b answers leaves))

pub returns-then-count-eq0 : goal.returns-then-count-eq0
returns-then-count-eq0 c =
    let a = c.args in
    let sheets = four a.a.now a.b.now a.c.now a.d.now in
    let outs = four a.oa.now a.ob.now a.oc.now a.od.now in
    let is = without_sheets a.count sheets a.allowance (map length outs) c.if-count-eq0.true in
    let met = called a.count sheets a.allowance _ outs _ refl refl (sym (ap carried is)) (sym (ap (λ r. lent_after r outs) is)) in
    record { result_value = met.0; od_after = met.1.0; sharing_demand = met.1.1 }

pub returns-then-count-gt4 : goal.returns-then-count-gt4
returns-then-count-gt4 c =
    let a = c.args in
    let sheets = four a.a.now a.b.now a.c.now a.d.now in
    let outs = four a.oa.now a.ob.now a.oc.now a.od.now in
    let is = over-four a.count sheets a.allowance (map length outs) (omega (arith, c.if-count-gt4.true)) in
    let met = called a.count sheets a.allowance _ outs _ refl refl (sym (ap carried is)) (sym (ap (λ r. lent_after r outs) is)) in
    record { result_value = met.0; od_after = met.1.0; sharing_demand = met.1.1 }

pub returns-in-Some : goal.returns-in-Some
returns-in-Some c =
    let a = c.args in
    let sheets = four a.a.now a.b.now a.c.now a.d.now in
    let outs = four a.oa.now a.ob.now a.oc.now a.od.now in
    let few : a.count ≤ 4 = omega (arith, c.if-count-gt4.false) in
    let some : 0 < a.count = omega arith in
    let read = c.read_sheets-sources in
    let refused = c.in-Some.ensures in
    let is = one_to_four a.count sheets a.allowance (map length outs) some few
    ∙ ap (λ r. r and_so λ ss. shares_into (map length outs) (shares_of a.allowance ss)) (sheets_denied read.result read.new.words sheets a.count few read.ensures.result_len.1 refused) in
    let met = called a.count sheets a.allowance _ outs _ refl refl (sym (ap carried is)) (sym (ap (λ r. lent_after r outs) is)) in
    record { result_value = met.0; od_after = met.1.0; sharing_demand = met.1.1 }

pub returns-in-None : goal.returns-in-None
returns-in-None c =
    let a = c.args in
    let sheets = four a.a.now a.b.now a.c.now a.d.now in
    let outs = four a.oa.now a.ob.now a.oc.now a.od.now in
    let few : a.count ≤ 4 = omega (arith, c.if-count-gt4.false) in
    let some : 0 < a.count = omega arith in
    let read = c.read_sheets-sources in
    let all = c.in-None.ensures in
    let is = one_to_four a.count sheets a.allowance (map length outs) some few
    ∙ ap (λ r. r and_so λ ss. shares_into (map length outs) (shares_of a.allowance ss)) (sheets_granted read.result read.new.words sheets a.count few read.ensures.result_len.1 all) in
    let met = called a.count sheets a.allowance c.serve.result outs _ refl refl (c.serve.ensures.result_value ∙ sym (ap carried is)) (c.serve.ensures.od_after ∙ sym (ap (λ r. lent_after r outs) is)) in
    record { result_value = met.0; od_after = met.1.0; sharing_demand = met.1.1 }
