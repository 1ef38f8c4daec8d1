-- `opened::words::load_constraint` meets its contract. Assumes nothing.
use borrow.Author.Count.{below_none}
use lib.Dec.{eqb}
use mathlib.Core.Bool.{cond}
use lib.ListN.{length-set}
use lib.Seq.{take-set-le}
use mathlib.Core.Path.{refl, ◌∙◌}
use native.Mathlib.Omega.{arith}
use Prim.Native.Nat.{◌+◌, ◌*◌}
use Rattle.opened.proofs.Loaded.{one-mask, all_masks}
use Rattle.opened.proofs.words.load_constraint.Goals as goal

pub loop-i-init : goal.loop-i-init
loop-i-init c = (refl, refl, below_none _)

pub loop-i-preserved : goal.loop-i-preserved
loop-i-preserved c =
    let a = c.args in
    let l = c.loop-i in (
      simp length-set l.invariant.0,
      take-set-le (8 * a.n) l.out (8 * a.n + l.i) _ (omega arith) ∙ l.invariant.1,
      one-mask (λ j. cond (eqb j 1) a.plain 0) a.n l.out l.i l.invariant.2 c.constraint_mask.ensures (omega arith),
    )

pub shape_of-out : goal.shape_of-out
shape_of-out c = c.loop-i.invariant.0

pub returns : goal.returns
returns c =
    let a = c.args in
    let l = c.loop-i in
    record {
      out_len_unchanged = l.invariant.0;
      out_unchanged = l.invariant.1;
      n_after = all_masks (λ j. cond (eqb j 1) a.plain 0) a.n l.out l.i l.invariant.2 c.loop-i-test.false;
    }
