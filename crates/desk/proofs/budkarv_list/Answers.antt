-- `desk::budkarv_list` meets its contract. Assumes nothing.
use mathlib.Core.Path.{refl}
use native.Mathlib.Omega.{arith}
use Rattle.semantics.proofs.Theorems.DaySource.{day_bounded}
use Rattle.desk.proofs.Laws.{small, small_refusal, met, too_short, refused_too, fits, records_fit}
use Rattle.desk.proofs.budkarv_list.Goals.{In-Ok, In-Err}
use Rattle.desk.proofs.budkarv_list.Goals as goal

pub overflow_mul-tally : goal.overflow_mul-tally
overflow_mul-tally c = omega (arith, small _ (day_bounded _ _ _) _ c.list.ensures.result_value c.in-Ok.is)

pub overflow_add-tally : goal.overflow_add-tally
overflow_add-tally c = omega (arith, small _ (day_bounded _ _ _) _ c.list.ensures.result_value c.in-Ok.is)

pub overflow_cast-result : goal.overflow_cast-result
overflow_cast-result c = omega (arith, small _ (day_bounded _ _ _) _ c.list.ensures.result_value c.in-Ok.is)

pub overflow_add-result : goal.overflow_add-result
overflow_add-result c = omega (arith, small _ (day_bounded _ _ _) _ c.list.ensures.result_value c.in-Ok.is)

pub returns-then-bytes-tally : goal.returns-then-bytes-tally
returns-then-bytes-tally c =
    let a = c.args in
    let l = c.list in
    let met = met a.sheet.now a.ins a.outs a.bytes.now (too_short _ (day_bounded _ _ _) _ l.ensures.result_value c.in-Ok.is a.bytes.now (omega (arith, c.if-bytes-tally.true))) in
    record { value = met.0; bytes_after = met.1.0; desk_demand = met.1.1.0; desk_day = met.1.1.1 }

pub write_listing-requires : goal.write_listing-requires
write_listing-requires c =
    let l = c.list in
    let told = c.in-Ok.is in
    (small _ (day_bounded _ _ _) _ l.ensures.result_value told, records_fit _ (day_bounded _ _ _) _ l.ensures.result_value told _ refl l.ensures.out_after, omega (arith, c.if-bytes-tally.false))

pub overflow_cast-result-in-Err-2 : goal.overflow_cast-result-in-Err-2
overflow_cast-result-in-Err-2 c = omega (arith, small_refusal _ (day_bounded _ _ _) _ c.list.ensures.result_value c.in-Err.is (omega arith), c.number.ensures)

pub overflow_add-result-in-Err : goal.overflow_add-result-in-Err
overflow_add-result-in-Err c = omega (arith, small_refusal _ (day_bounded _ _ _) _ c.list.ensures.result_value c.in-Err.is (omega arith), c.number.ensures)

pub returns-else-bytes-tally : goal.returns-else-bytes-tally
returns-else-bytes-tally c =
    let a = c.args in
    let l = c.list in
    let met = met a.sheet.now a.ins a.outs a.bytes.now (fits _ (day_bounded _ _ _) _ l.ensures.result_value c.in-Ok.is _ a.bytes.now l.ensures.out_after (omega (arith, c.if-bytes-tally.false)) c.write_listing.ensures) in
    record { value = met.0; bytes_after = met.1.0; desk_demand = met.1.1.0; desk_day = met.1.1.1 }

pub returns-in-Err : goal.returns-in-Err
returns-in-Err c =
    let a = c.args in
    let met = met a.sheet.now a.ins a.outs a.bytes.now (refused_too _ (day_bounded _ _ _) _ c.list.ensures.result_value c.in-Err.is (omega arith) a.bytes.now) in
    rw c.number.ensures (record { value = met.0; bytes_after = met.1.0; desk_demand = met.1.1.0; desk_day = met.1.1.1 })
