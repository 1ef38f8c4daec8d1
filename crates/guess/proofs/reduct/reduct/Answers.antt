-- `guess::reduct::reduct` meets its contract. Assumes nothing.
use mathlib.Core.Path.{◌≡◌, subst}
use lib.ListN.{length}
use Prim.Native.Nat.{◌*◌, ◌≤◌}
use native.Mathlib.Omega.{arith}
use Rattle.guess.specs.Numbered.{few_of}
use Rattle.guess.proofs.Kept.{Written, none_written, one_written, left_out, all_written}
use Rattle.guess.proofs.Words.{before_stays, rule_put}
use Rattle.guess.proofs.reduct.reduct.Goals as goal
use Rattle.guess.proofs.reduct.reduct.Goals.{in-Some, in_default}

pub assumed-by-requires : goal.assumed-by-requires
assumed-by-requires c = few_of c.requires.0

pub loop-j-init : goal.loop-j-init
loop-j-init c =
    let a = c.args in
    let by = c.assumed-by.result in
    none_written by.unknown by.maybe a.words.now a.out.now

pub loop-j-preserved : goal.loop-j-preserved
loop-j-preserved c =
    let a = c.args in
    let l = c.loop-j in
    let by = c.assumed-by.result in
    elim c.match-reduce.branch [
      | in-Some w ↦
          let rule = w.in-Some.rule in
          let fits : 4 * l.n ≤ length l.out = omega arith in
          rw (w.out-is, w.n-is, w.copy_from_slice.ensures.after) (one_written by.unknown by.maybe a.words.now l.invariant rule w.in-Some.ensures
          (before_stays l.out rule l.n _ fits (omega arith)) (rule_put l.out rule l.n _ fits (omega arith)))
      | in_default w ↦ rw (w.out-is, w.n-is) (left_out by.unknown by.maybe a.words.now l.invariant w.in_default.ensures)
    ]

pub returns : goal.returns
returns c =
    let a = c.args in
    let pre = c.requires in
    let l = c.loop-j in
    let by = c.assumed-by.ensures in
    let all : l.j ≡ a.x.rules = omega (arith, c.loop-j-test.false) in
    let w = subst (λ b. Written b.unknown b.maybe a.words.now l.out l.n l.j) by l.invariant in
    record {
      out_len_unchanged = omega arith;
      upper_bound = omega (arith, w.few, pre.0.few_rules);
      result_after = all_written pre.0 a.guess l.out l.n (rw all at w);
    }
