-- `verdicts::fill::fill` meets its contract. Assumes nothing.
use Prim.Native.Nat.{◌/◌, ◌^◌, ◌<◌}
use mathlib.Core.Path.{refl, sym, ap, ◌∙◌}
use native.Mathlib.Omega.{arith}
use lib.ListN.{length}
use Rattle.guess.specs.Numbered.{few_sets}
use Rattle.candidates.specs.Candidates.{Candidates}
use Rattle.verdicts.proofs.Filling.{after_none, room_left, sets_stay, set_tried, set_passed, all_tried}
use Rattle.verdicts.proofs.fill.fill.Goals as goal
use Rattle.verdicts.proofs.fill.fill.Goals.{then-i-eq0, else-i-eq0, then-has, else-has}

pub overflow_mul-active : goal.overflow_mul-active
overflow_mul-active c = omega (arith, c.requires.1)

pub clear-requires : goal.clear-requires
clear-requires c = (omega (arith, c.requires.3), c.requires.0.few_atoms)

pub overflow_cast-x : goal.overflow_cast-x
overflow_cast-x c = omega (arith, c.requires.0.few_atoms)

pub power-end-requires : goal.power-end-requires
power-end-requires c = omega (arith, c.requires.0.few_atoms)

pub loop-i-init : goal.loop-i-init
loop-i-init c =
    let a = c.args in
    (omega arith, refl, refl, refl, refl, after_none a.x a.words.now a.active.now c.clear.ensures.blank, λ h. absurd (omega arith))

pub candidates-sets-requires : goal.candidates-sets-requires
candidates-sets-requires c = (c.requires.0, c.digest_all-all.ensures)

pub note_set-requires : goal.note_set-requires
note_set-requires c =
    let l = c.loop-i in
    let end = c.power-end.ensures in
    let o = c.requires.0 in
    let table = c.clear.ensures.table_len_unchanged in
    let here : l.i < 2 ^ c.args.x.atoms = omega (arith, l.invariant.0, c.loop-i-test.true, end) in record {
      table = (o, c.digest_all-all.ensures, here);
      rules_in_bounds = (omega (arith, l.invariant.1, o.few_rules), omega (arith, l.invariant.2, o.few_rules), omega (arith, l.invariant.3, l.invariant.5.long, c.requires.2), omega (arith, l.invariant.5.long, c.requires.1));
      active_in_bounds = (omega (arith, l.invariant.4, table, l.invariant.5.long, c.requires.3), room_left c.args.x c.args.words.now c.args.active.now l.invariant.5 (omega (arith, here, few_sets o)));
    }

pub loop-i-preserved : goal.loop-i-preserved
loop-i-preserved c =
    let a = c.args in
    let l = c.loop-i in
    let o = c.requires.0 in
    let end = c.power-end.ensures in
    let here : l.i < 2 ^ a.x.atoms = omega (arith, l.invariant.0, c.loop-i-test.true, end) in
    let answer = c.has.ensures in
    let sets : Candidates a.x a.words.now (l.i / 64) c.if-i-eq0.sets = elim c.if-i-eq0.branch [
      | then-i-eq0 w ↦ rw w.sets-is w.candidates-sets.ensures
      | else-i-eq0 w ↦ rw w.sets-is (l.invariant.6 (omega (arith, w.if-i-eq0.false)))
    ] in
    elim c.if-has.branch [
      | then-has w ↦
          let n = w.note_set.ensures in (
            omega (arith, here, end),
            ap length w.room-is ∙ n.room_len_unchanged.0 ∙ l.invariant.1,
            ap length w.on-is ∙ n.room_len_unchanged.1 ∙ l.invariant.2,
            ap length w.stable-is ∙ n.room_len_unchanged.2 ∙ l.invariant.3,
            ap length w.table-is ∙ n.tried.entries.long ∙ l.invariant.4,
            rw (w.active-is, w.table-is) (set_tried a.x a.words.now a.active.now l.invariant.5 o here sets (sym answer ∙ w.if-has.true) n.tried),
            sets_stay l.i sets,
          )
      | else-has w ↦ (
        omega (arith, here, end),
        ap length w.room-is ∙ l.invariant.1,
        ap length w.on-is ∙ l.invariant.2,
        ap length w.stable-is ∙ l.invariant.3,
        ap length w.table-is ∙ l.invariant.4,
        rw (w.active-is, w.table-is) (set_passed a.x a.words.now a.active.now l.invariant.5 o here sets (sym answer ∙ w.if-has.false)),
        sets_stay l.i sets,
      )
    ]

pub shape_of-stable : goal.shape_of-stable
shape_of-stable c = c.loop-i.invariant.3

pub shape_of-active : goal.shape_of-active
shape_of-active c = c.loop-i.invariant.5.long

pub shape_of-table : goal.shape_of-table
shape_of-table c = c.loop-i.invariant.4 ∙ c.clear.ensures.table_len_unchanged

pub returns : goal.returns
returns c =
    let l = c.loop-i in
    let a = c.args in record {
      stable_len_unchanged = l.invariant.3;
      active_len_unchanged = (l.invariant.5.long, l.invariant.4 ∙ c.clear.ensures.table_len_unchanged);
      filled = all_tried a.x a.words.now a.active.now l.invariant.5 (omega (arith, c.loop-i-test.false, c.power-end.ensures));
    }
