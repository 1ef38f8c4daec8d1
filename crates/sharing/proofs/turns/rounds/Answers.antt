-- `sharing::turns::rounds` meets its contract. Assumes nothing.
use Prim.Native.Nat.{ℕ, ◌*◌, ◌^◌, ◌≤◌, ◌<◌}
use mathlib.Core.Path.{◌≡◌, refl, ◌∙◌}
use mathlib.Core.Bool.{false}
use mathlib.Core.List.{[], ◌∷◌}
use native.Mathlib.Omega.{arith}
use lib.ListN.{get_or}
use Rattle.sets.specs.Decides.{is_false, dec_self}
use Rattle.semantics.specs.Definitions.Check.{most_negations}
use Rattle.listing.specs.Pauses.{fresh, waits}
use Rattle.sharing.proofs.Served.{served_spent, served_all, served_end, few_all, near_next, waits_below, idle_next, mixed_next, all_next, first-fresh, go_first, near_first, none_spent, all_first, idle_first}
use Rattle.sharing.proofs.turns.rounds.Goals.{Else-not-some_waits}
use Rattle.sharing.proofs.turns.rounds.Goals as goal

-- a round more can be made
below : (c : Else-not-some_waits) → c.loop-left.t < 2 ^ most_negations
below c =
    let a = c.args in
    let l = c.loop-left in
    let b = l.invariant.2 in
    let each = b.each (omega (arith, c.loop-left-test.true)) in
    waits_below a.sources a.words.now a.order.now a.n c.requires.6 l.t l.states l.records each (c.some_waits.ensures.yes c.if-not-some_waits.false)

pub returns-then-allowance-ge16384 : goal.returns-then-allowance-ge16384
returns-then-allowance-ge16384 c =
    let a = c.args in
    let pre = c.requires in
    let end = c.to_the_end in
    let programs = end.new.programs in
    let records = end.new.records in
    let (four, idle, go, all) = end.ensures.result_len in
    let enough : 4 * 2 ^ most_negations ≤ a.allowance = omega (arith, c.if-allowance-ge16384.true) in
    let (served, spent) = served_end a.sources a.words.now a.n a.order.now pre.5 pre.6 end.result programs records four pre.0 idle go a.allowance enough all in
    record {
      programs_len_unchanged = end.ensures.programs_len_unchanged;
      records_len_unchanged = end.ensures.records_len_unchanged;
      result_len = (four, idle, served, spent);
      few_all = few_all a.sources a.words.now a.order.now a.n pre.5 pre.6 end.result programs records go idle;
    }

pub round-states-requires : goal.round-states-requires
round-states-requires c =
    let a = c.args in
    let pre = c.requires in
    let x = c.start-paused.result in
    let first = first-fresh c.start-paused.result c.start-paused.ensures in record {
      n_bound = (pre.0, pre.1, pre.2, refl, pre.3, pre.4, pre.5);
      all_read = (pre.6, go_first a.sources a.words.now a.order.now a.n (x ∷ x ∷ x ∷ x ∷ []) first a.programs.now a.records.now pre.6, near_first a.sources a.words.now a.order.now a.n (x ∷ x ∷ x ∷ x ∷ []) first);
    }

pub loop-left-init : goal.loop-left-init
loop-left-init c =
    let a = c.args in
    let x = c.start-paused.result in
    let first = first-fresh c.start-paused.result c.start-paused.ensures in
    let round = c.round-states in
    let d = round.ensures.rounded in
    let all = all_first a.sources a.words.now a.order.now a.n (x ∷ x ∷ x ∷ x ∷ []) first refl d in (
      refl,
      refl,
      record {
        four = d.long;
        idle = idle_first a.sources a.words.now a.order.now a.n (x ∷ x ∷ x ∷ x ∷ []) first refl d;
        go = d.go;
        in_all = omega (arith, none_spent a.sources a.words.now a.order.now a.n (x ∷ x ∷ x ∷ x ∷ []) first refl d);
        r = 0;
        p = 0;
        within = omega arith;
        somewhere = (λ q b. absurd (omega (arith, b)), λ q _ h. all q h);
        each = λ _. all;
      },
    )

pub returns-then-not-some_waits : goal.returns-then-not-some_waits
returns-then-not-some_waits c =
    let a = c.args in
    let pre = c.requires in
    let l = c.loop-left in
    let b = l.invariant.2 in
    let none = c.some_waits.ensures.no c.if-not-some_waits.true in
    let ended : (q : ℕ) → q < a.n → waits (get_or l.states q fresh) ≡ false = λ q h. is_false (dec_self (waits (get_or l.states q fresh))) (λ e. none (q, h, e)) in
    let (served, spent) = served_all a.sources a.words.now a.n l.states l.records b.four pre.0 b.idle l.t a.allowance (b.each (omega (arith, c.loop-left-test.true))) ended (omega (arith, b.in_all)) in
    record {
      programs_len_unchanged = l.invariant.0 ∙ c.round-states.ensures.programs_len_unchanged;
      records_len_unchanged = l.invariant.1 ∙ c.round-states.ensures.records_len_unchanged;
      result_len = (b.four, b.idle, served, spent);
      few_all = few_all a.sources a.words.now a.order.now a.n pre.5 pre.6 l.states l.programs l.records b.go b.idle;
    }

pub overflow_add-t : goal.overflow_add-t
overflow_add-t c = omega (arith, below (goal.at.overflow_add-t c).Else-not-some_waits)

pub round-next-requires : goal.round-next-requires
round-next-requires c =
    let a = c.args in
    let pre = c.requires in
    let l = c.loop-left in
    let b = l.invariant.2 in record {
      n_bound = (pre.0, pre.1, pre.2, b.four, l.invariant.0 ∙ c.round-states.ensures.programs_len_unchanged ∙ pre.3, l.invariant.1 ∙ c.round-states.ensures.records_len_unchanged ∙ pre.4, pre.5);
      all_read = (pre.6, b.go, near_next a.sources a.words.now a.order.now a.n l.t l.states l.records (b.each (omega (arith, c.loop-left-test.true))));
    }

pub tests_made-requires : goal.tests_made-requires
tests_made-requires c =
    let a = c.args in
    let l = c.loop-left in
    let b = l.invariant.2 in
    let d = c.round-next.ensures.rounded in
    let each = b.each (omega (arith, c.loop-left-test.true)) in
    (d.long ∙ b.four, few_all a.sources a.words.now a.order.now a.n c.requires.5 c.requires.6 c.round-next.result c.round-next.new.programs c.round-next.new.records d.go (idle_next a.sources a.words.now a.order.now a.n each d b.idle))

pub loop-left-smaller : goal.loop-left-smaller
loop-left-smaller c = omega (arith, below (goal.at.loop-left-smaller c).Else-not-some_waits)

pub loop-left-preserved : goal.loop-left-preserved
loop-left-preserved c =
    let a = c.args in
    let l = c.loop-left in
    let b = l.invariant.2 in
    let round = c.round-next in
    let d = round.ensures.rounded in
    let each = b.each (omega (arith, c.loop-left-test.true)) in
    let made = c.tests_made.ensures in (
      round.ensures.programs_len_unchanged ∙ l.invariant.0,
      round.ensures.records_len_unchanged ∙ l.invariant.1,
      record {
        four = d.long ∙ b.four;
        idle = idle_next a.sources a.words.now a.order.now a.n each d b.idle;
        go = d.go;
        in_all = omega (arith, made, d.few, b.in_all);
        r = l.t;
        p = d.turned;
        within = d.within;
        somewhere = mixed_next a.sources a.words.now a.order.now a.n each d;
        each = λ h. all_next a.sources a.words.now a.order.now a.n each d (omega (arith, h, made, d.few, b.in_all));
      },
    )

pub returns : goal.returns
returns c =
    let a = c.args in
    let pre = c.requires in
    let l = c.loop-left in
    let b = l.invariant.2 in
    let (served, spent) = served_spent a.sources a.words.now a.n l.states l.records b.four pre.0 b.idle b.r b.p b.within b.somewhere a.allowance (omega (arith, b.in_all, c.loop-left-test.false)) in
    record {
      programs_len_unchanged = l.invariant.0 ∙ c.round-states.ensures.programs_len_unchanged;
      records_len_unchanged = l.invariant.1 ∙ c.round-states.ensures.records_len_unchanged;
      result_len = (b.four, b.idle, served, spent);
      few_all = few_all a.sources a.words.now a.order.now a.n pre.5 pre.6 l.states l.programs l.records b.go b.idle;
    }
