-- `opened::words::load_pairs` meets its contract. Assumes nothing.
use mathlib.Core.Path.{◌≡◌, refl, ap, ap₂, ◌∙◌}
use native.Mathlib.Omega.{arith}
use Rattle.sets.specs.Sets.{◌∪◌}
use Rattle.opened.specs.Loaded.{constraint_masks}
use Rattle.opened.proofs.Loaded.{no_pair, one-pair, pair-atoms}
use Rattle.opened.proofs.words.load_pairs.Goals as goal

pub loop-i-init : goal.loop-i-init
loop-i-init c =
    let a = c.args in
    (refl, omega arith, no_pair a.s.now a.from a.n a.out.now)

pub overflow_mul-i : goal.overflow_mul-i
overflow_mul-i c = omega (arith, c.requires.0)

pub overflow_add-from : goal.overflow_add-from
overflow_add-from c = omega (arith, c.requires.0)

pub bounds-s-from : goal.bounds-s-from
bounds-s-from c = omega (arith, c.requires.0)

pub power-first-requires : goal.power-first-requires
power-first-requires c =
    let a = c.args in
    let l = c.loop-i in
    (pair-atoms a.s.now a.from a.pairs l.i c.requires.2 c.loop-i-test.true).0

pub overflow_mul-i-in-loop-i : goal.overflow_mul-i-in-loop-i
overflow_mul-i-in-loop-i c = omega (arith, c.requires.0)

pub overflow_add-from-in-loop-i : goal.overflow_add-from-in-loop-i
overflow_add-from-in-loop-i c = omega (arith, c.requires.0)

pub overflow_add-from-in-loop-i-2 : goal.overflow_add-from-in-loop-i-2
overflow_add-from-in-loop-i-2 c = omega (arith, c.requires.0)

pub bounds-s-from-in-loop-i : goal.bounds-s-from-in-loop-i
bounds-s-from-in-loop-i c = omega (arith, c.requires.0)

pub power-second-requires : goal.power-second-requires
power-second-requires c =
    let a = c.args in
    let l = c.loop-i in
    (pair-atoms a.s.now a.from a.pairs l.i c.requires.2 c.loop-i-test.true).1

pub load_constraint-requires : goal.load_constraint-requires
load_constraint-requires c =
    let l = c.loop-i in
    omega (arith, c.requires.1, l.invariant.0, c.loop-i-test.true)

pub loop-i-preserved : goal.loop-i-preserved
loop-i-preserved c =
    let a = c.args in
    let l = c.loop-i in
    let r = c.load_constraint in
    let plain = ap₂ ◌∪◌ c.power-first.ensures c.power-second.ensures in (
      r.ensures.out_len_unchanged ∙ l.invariant.0,
      omega arith,
      one-pair a.s.now a.from a.n a.out.now l.out l.i l.invariant.2 r.new.out r.ensures.out_unchanged refl refl (r.ensures.n_after ∙ ap constraint_masks plain),
    )

pub shape_of-out : goal.shape_of-out
shape_of-out c = c.loop-i.invariant.0

pub returns : goal.returns
returns c =
    let a = c.args in
    let l = c.loop-i in
    let z : l.i ≡ a.pairs = omega (arith, l.invariant.1, c.loop-i-test.false) in
    record {
      out_len_unchanged = l.invariant.0;
      pairs_after = rw z at l.invariant.2;
    }
