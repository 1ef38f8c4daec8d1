-- `gather::gather` meets its contract. Assumes nothing.
use Prim.Native.Nat.{◌<◌}
use mathlib.Core.Path.{◌≡◌, sym, ◌∙◌}
use native.Mathlib.Omega.{arith}
use Rattle.gather.proofs.Gathering.{none_stand, none_held, held_more, held_same, some_unsupported, gathers_is, rule_is, fails, written, left_out}
use Rattle.gather.proofs.Digesting.{exactly, as_many}
use Rattle.gather.proofs.gather.Goals as goal
use Rattle.gather.proofs.gather.Goals.{then-switches+else-e-eq0, else-switches}

pub loop-r-init : goal.loop-r-init
loop-r-init c =
    let a = c.args in
    (none_stand a.x a.words.now a.i a.room.now, none_held a.x a.words.now a.i)

pub returns-then-e-eq0 : goal.returns-then-e-eq0
returns-then-e-eq0 c =
    let a = c.args in
    let h : c.loop-r.r-index < a.x.rules = omega (arith, as_many c.requires.1) in
    let told = sym (gathers_is a.x a.words.now a.i (exactly c.requires.1) c.requires.2 h c.switches.ensures) ∙ c.if-switches.true in
    record {
      room_len_unchanged = omega arith;
      gathered_at = fails a.x a.words.now a.i (exactly c.requires.1) c.requires.2 h told (rule_is a.x a.words.now a.i (exactly c.requires.1) c.requires.2 h c.at_set-e.ensures) c.if-e-eq0.true;
    }

pub loop-r-preserved : goal.loop-r-preserved
loop-r-preserved c =
    let a = c.args in
    let l = c.loop-r in
    let h : l.r-index < a.x.rules = omega (arith, as_many c.requires.1) in
    let answer = gathers_is a.x a.words.now a.i (exactly c.requires.1) c.requires.2 h c.switches.ensures in
    elim c.if-switches.branch [
      | then-switches+else-e-eq0 w ↦
          let is = rule_is a.x a.words.now a.i (exactly c.requires.1) c.requires.2 h w.at_set-e.ensures in (
            rw (w.room-is, w.n-is) (written a.x a.words.now a.i l.invariant.0 (omega (arith, l.invariant.0.few, as_many c.requires.1, c.requires.3)) answer w.if-switches.true is),
            rw w.atoms-is (held_more a.x a.words.now a.i l.invariant.1 answer w.if-switches.true is w.supported-atoms.ensures),
          )
      | else-switches w ↦ (
        rw (w.room-is, w.n-is) (left_out a.x a.words.now a.i l.invariant.0 answer w.if-switches.false),
        rw w.atoms-is (held_same a.x a.words.now a.i l.invariant.1 answer w.if-switches.false),
      )
    ]

pub returns-then-subset : goal.returns-then-subset
returns-then-subset c =
    let a = c.args in
    let l = c.loop-r in
    let all : l.r-index ≡ a.x.rules = omega (arith, as_many c.requires.1) in
    let w = rw all at l.invariant.0 in
    record {
      room_len_unchanged = omega arith;
      gathered_at = (w.few, w.rules);
    }

pub returns : goal.returns
returns c =
    let a = c.args in
    let l = c.loop-r in
    let all : l.r-index ≡ a.x.rules = omega (arith, as_many c.requires.1) in
    record {
      room_len_unchanged = omega arith;
      gathered_at = some_unsupported a.x a.words.now a.i all l.invariant.1 (sym c.subset.ensures ∙ c.if-subset.false);
    }
