-- `listing::paused::Paused::reach` meets its contract. Assumes nothing.
use Prim.Native.Nat.{◌^◌, ◌≤◌, ◌<◌}
use mathlib.Core.Path.{◌≡◌, sym, ◌∙◌}
use native.Mathlib.Omega.{arith}
use lib.ListN.{length, get_or}
use Rattle.sets.specs.Decides.{dec_self}
use Rattle.listing.specs.Pauses.{waits}
use Rattle.listing.proofs.Pausing.{some_rules}
use Rattle.listing.proofs.Reaching.{few_counts, larger_first, room_left, along_passed, along_waiting, along_over, at_end, at-waiting}
use Rattle.listing.proofs.paused.Paused.reach.Goals as goal

pub advance-self-requires : goal.advance-self-requires
advance-self-requires c =
    let l = c.loop-self in
    let a = c.args in
    let o = c.requires.outlines.0 in
    let en = c.requires.outlines.1 in
    let along = l.invariant.3 in
    let told : l.self.at < length a.order.now = omega (arith, c.loop-self-test.true) in
    let below : get_or a.order.now l.self.at 0 < 2 ^ a.x.negations = omega (arith, c.if-order-at.true, c.power-end.ensures) in record {
      outlines = (o, told, below, omega (arith, l.invariant.0, c.requires.program_room_in_bounds.0));
      at_most = (
        few_counts a.order.now o en along,
        room_left a.order.now o en along (omega (arith, l.invariant.1, c.requires.program_room_in_bounds.1)) told below,
        larger_first a.order.now o en along,
      );
      tested_le_most = (l.invariant.2, λ rules e. (along.waiting rules e).2);
    }

pub returns-then-is_some : goal.returns-then-is_some
returns-then-is_some c =
    let l = c.loop-self in
    let a = c.args in
    let o = c.requires.outlines.0 in
    let en = c.requires.outlines.1 in
    let step = c.advance-self in
    let told : l.self.at < length a.order.now = omega (arith, c.loop-self-test.true) in
    let below : get_or a.order.now l.self.at 0 < 2 ^ a.x.negations = omega (arith, c.if-order-at.true, c.power-end.ensures) in
    let along = along_waiting a.order.now o en l.invariant.3 told below (sym c.is_some.ensures ∙ c.if-is_some.true) step.ensures.advanced in
    let spent = (let (rules, told) = some_rules step.result.waiting (sym c.is_some.ensures ∙ c.if-is_some.true) in (step.ensures.advanced.where_waits rules told).1) in
    record {
      program_len_unchanged = step.ensures.program_len_unchanged ∙ l.invariant.0;
      records_len_unchanged = step.ensures.records_len_unchanged ∙ l.invariant.1;
      along = along;
      stands = at-waiting a.order.now o en a.most along (sym c.is_some.ensures ∙ c.if-is_some.true) spent;
      at_value = λ e. absurd ((dec_self (waits step.result)).no e (sym c.is_some.ensures ∙ c.if-is_some.true));
    }

pub loop-self-smaller-else-is_some : goal.loop-self-smaller-else-is_some
loop-self-smaller-else-is_some c =
    let l = c.loop-self in
    let a = c.args in
    let step = c.advance-self in
    let told : l.self.at < length a.order.now = omega (arith, c.loop-self-test.true) in
    let below : get_or a.order.now l.self.at 0 < 2 ^ a.x.negations = omega (arith, c.if-order-at.true, c.power-end.ensures) in
    let at = (step.ensures.advanced.where_passed (sym c.is_some.ensures ∙ c.if-is_some.false)).0 in
    omega (arith, at, c.loop-self-test.true)

pub loop-self-preserved-else-is_some : goal.loop-self-preserved-else-is_some
loop-self-preserved-else-is_some c =
    let l = c.loop-self in
    let a = c.args in
    let step = c.advance-self in
    let told : l.self.at < length a.order.now = omega (arith, c.loop-self-test.true) in
    let below : get_or a.order.now l.self.at 0 < 2 ^ a.x.negations = omega (arith, c.if-order-at.true, c.power-end.ensures) in
    let few = (step.ensures.advanced.where_passed (sym c.is_some.ensures ∙ c.if-is_some.false)).1 in (
      step.ensures.program_len_unchanged ∙ l.invariant.0,
      step.ensures.records_len_unchanged ∙ l.invariant.1,
      few,
      along_passed a.order.now c.requires.outlines.0 c.requires.outlines.1 l.invariant.3 told below (sym c.is_some.ensures ∙ c.if-is_some.false) step.ensures.advanced,
    )

pub loop-self-preserved : goal.loop-self-preserved
loop-self-preserved c =
    let l = c.loop-self in
    let a = c.args in
    let told : l.self.at < length a.order.now = omega (arith, c.loop-self-test.true) in
    let beyond : 2 ^ a.x.negations ≤ get_or a.order.now l.self.at 0 = omega (arith, c.if-order-at.false, c.power-end.ensures) in
    (l.invariant.0, l.invariant.1, l.invariant.2, along_over a.order.now c.requires.outlines.0 c.requires.outlines.1 l.invariant.3 told beyond)

pub returns : goal.returns
returns c =
    let l = c.loop-self in
    let a = c.args in
    let end : l.self.at ≡ length a.order.now = omega (arith, l.invariant.3.within, c.loop-self-test.false) in
    record {
      program_len_unchanged = l.invariant.0;
      records_len_unchanged = l.invariant.1;
      along = l.invariant.3;
      stands = at_end a.order.now c.requires.outlines.0 c.requires.outlines.1 a.most l.invariant.3 end l.invariant.2;
      at_value = λ _. end;
    }
