-- `stable::nogood::by_smaller` meets its contract: the rules passed are blocked. Assumes nothing.
use native.Mathlib.Omega.{arith}
use borrow.Author.Count.{below_more}
use Rattle.sets.specs.Sets.{◌∖◌}
use Rattle.sets.specs.Members.{⊆_trans}
use Rattle.semantics.specs.Words.{rule_in, program_in}
use Rattle.stable.specs.Search.{applied_model}
use Rattle.stable.specs.Nogoods.{Blocked, unfounded_excludes}
use Rattle.stable.proofs.Excluding.{blocked_more, beyond, each-rule, among-program}
use Rattle.stable.proofs.nogood.by_smaller.Goals as goal

pub block-r-requires : goal.block-r-requires
block-r-requires c =
    let a = c.args in
    let l = c.loop-j in (
      omega (arith, c.loop-j-test.true, c.requires.0),
      (applied_model (program_in a.program.now a.rules) a.i a.s).0 c.requires.2 (rule_in a.program.now l.j) (among-program a.program.now a.rules l.j c.loop-j-test.true),
    )

pub loop-j-preserved : goal.loop-j-preserved
loop-j-preserved c =
    let a = c.args in
    let l = c.loop-j in
    let b = c.block-r.ensures in (
      omega arith,
      ⊆_trans l.invariant.1 b.more-has,
      below_more _ _ (λ k h. blocked_more (a.i ∖ a.s) (rule_in a.program.now k) b.more-has b.more_lacks (l.invariant.2 k h)) b.blocked,
    )

pub returns : goal.returns
returns c =
    let a = c.args in
    let l = c.loop-j in
    let (b, m) = beyond c.requires.1 in
    λ ins outs.
    unfounded_excludes ins outs (program_in a.program.now a.rules) m l.invariant.1
    (each-rule a.program.now a.rules (Blocked l.r.has l.r.lacks (a.i ∖ a.s)) (λ k h. l.invariant.2 k (omega arith)))
