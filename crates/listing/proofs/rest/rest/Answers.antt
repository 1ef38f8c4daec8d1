-- `listing::rest::rest` meets its contract. Assumes nothing.
use Prim.Native.Nat.{ℕ, ◌+◌, ◌^◌, ◌≤◌, ◌<◌}
use mathlib.Core.Path.{◌≡◌, sym, ◌∙◌, subst}
use mathlib.Core.List.{List}
use native.Mathlib.Omega.{arith}
use lib.ListN.{length, get_or}
use lib.Pow.{pow_mono}
use Rattle.guess.specs.Programs.{setting_in}
use Rattle.answers.specs.declared.tally.Tally.{Tally}
use Rattle.listing.proofs.Along.{along_more, along_same, counts_few, views_fewer}
use Rattle.listing.proofs.Levels.{along_levels}
use Rattle.listing.proofs.RestLoop.{holds}
use Rattle.listing.proofs.rest.rest.Goals as goal
use Rattle.listing.proofs.rest.rest.Goals.{then-guess-end, else-guess-end}

came : (P : List ℕ → Tally → Type 0) {r r' : List ℕ} {t t' : Tally} → r ≡ r' → t ≡ t' → P r' t' → P r t
came P {r} {r'} {t} {t'} d e p = subst (λ z. P z t) (sym d) (subst (λ z. P r' z) (sym e) p)

pub pass-counts-requires : goal.pass-counts-requires
pass-counts-requires c =
    let l = c.loop-i in
    let a = c.args in
    let (o, t, en) = c.requires.outlines in
    let space = c.requires.records_room_in_bounds.0 in
    let n = a.x.negations in
    let s = setting_in a.x a.words.now in
    let told : l.i < length a.order.now = omega (arith, c.loop-i-test.true) in
    let below : get_or a.order.now l.i 0 < 2 ^ n = omega (arith, c.if-guess-end.true, c.power-end.ensures) in
    let room = pow_mono o.few_negations in
    let few = counts_few n a.order.now en s l.i l.invariant.2 in
    let fewer = views_fewer n a.order.now en s l.i l.invariant.2 told below in record {
      outlines = (o, below, t);
      at_most = (omega (arith, few, room), omega (arith, fewer, room, l.invariant.1, space), along_levels s n a.order.now en l.i l.counts l.records l.invariant.2);
    }

pub loop-i-preserved : goal.loop-i-preserved
loop-i-preserved c =
    let l = c.loop-i in
    let a = c.args in
    let told : l.i < length a.order.now = omega (arith, c.loop-i-test.true) in
    let n = a.x.negations in
    let s = setting_in a.x a.words.now in
    let g = get_or a.order.now l.i 0 in
    elim c.if-guess-end.branch [
      | then-guess-end w ↦
          let below : g < 2 ^ n = omega (arith, w.if-guess-end.true, c.power-end.ensures) in
          came (holds s n a.order.now a.records.now (l.i + 1)) w.records-is w.counts-is
          (omega arith, w.pass-counts.ensures.records_len_unchanged ∙ l.invariant.1, along_more s n a.order.now l.i told l.invariant.2 below w.pass-counts.ensures.records_after)
      | else-guess-end w ↦
          let beyond : 2 ^ n ≤ g = omega (arith, w.if-guess-end.false, c.power-end.ensures) in
          came (holds s n a.order.now a.records.now (l.i + 1)) w.records-is w.counts-is
          (omega arith, l.invariant.1, along_same s n a.order.now l.i told l.invariant.2 beyond)
    ]
