-- `calendar::minutes::add` meets its contract. Assumes nothing.
use mathlib.Core.Path.{refl, sym, ap, ◌∙◌}
use mathlib.Core.List.{append-nil}
use native.Mathlib.Numerals.{add-one}
use native.Mathlib.Omega.{arith}
use lib.ListN.{take, set, length-set}
use lib.Seq.{take-suc-set}
use Rattle.calendar.proofs.minutes.add.Goals as goal

pub returns-then-yes : goal.returns-then-yes
returns-then-yes c =
    let a = c.args in record {
      out_len_unchanged = length-set a.out.now a.n a.word;
      out_after = ap (λ m. take m (set a.out.now a.n a.word)) (add-one a.n) ∙ take-suc-set a.out.now a.n a.word c.requires ∙ rw c.if-yes.true;
      upper_bound = omega arith;
    }

pub returns : goal.returns
returns c = record {
  out_len_unchanged = refl;
  out_after = rw c.if-yes.false (sym (append-nil _));
  upper_bound = omega arith;
}
