-- `opened::words::load_where` meets its contract. Assumes nothing.
use mathlib.Core.List.{append-nil}
use mathlib.Core.Path.{refl, sym, ◌∙◌}
use native.Mathlib.Omega.{arith}
use Rattle.opened.proofs.Loaded.{rule-added}
use Rattle.opened.proofs.words.load_where.Goals as goal

pub returns-then-yes : goal.returns-then-yes
returns-then-yes c =
    let a = c.args in
    let w = c.load_rule in
    record {
      out_len_unchanged = w.ensures.out_len_unchanged;
      upper_bound = omega arith;
      result_after = rule-added a.n w.new.out a.out.now w.ensures.out_unchanged w.ensures.n_after ∙ rw c.if-yes.true;
    }

pub returns : goal.returns
returns c = record {
  out_len_unchanged = refl;
  upper_bound = omega arith;
  result_after = rw c.if-yes.false (sym (append-nil _));
}
