-- `verdict::belief_sets` meets its contract. Assumes nothing.
use Prim.Native.Nat.{◌≤◌}
use mathlib.Core.Path.{◌≡◌, ap, ap₂, ◌∙◌}
use mathlib.Core.List.{◌++◌}
use native.Mathlib.Omega.{arith}
use lib.ListN.{length, take}
use Rattle.semantics.specs.Words.{program_in}
use Rattle.semantics.specs.Definitions.Stable.{stable_sets}
use Rattle.semantics.specs.Definitions.Verdict.{belief_sets}
use Rattle.semantics.specs.Definitions.Day.{day_constraints}
use Rattle.semantics.proofs.Theorems.Stable.{belief_sets_few}
use Rattle.guess.specs.Settings.{setting_by}
use Rattle.guess.specs.Numbered.{few_sets}
use Rattle.verdict.specs.Over.{over_long, over_first}
use Rattle.verdict.proofs.belief_sets.Goals as goal

pub returns : goal.returns
unfolding belief_sets
returns c =
    let a = c.args in
    let pre = c.requires in
    let p = program_in c.reduct-rules.new.out c.reduct-rules.result in
    let day = day_constraints a.x.ins a.x.outs in
    let w = stable_sets a.x.atoms (p ++ day) in
    let many : c.gather-y.result.sets ≡ length w = ap (λ y. y.sets) c.gather-y.ensures.result_value in
    let fits : length w ≤ length a.out.now = omega (arith, belief_sets_few (setting_by a.x p) a.guess, few_sets pre.0, pre.1) in
    let put = c.gather-y.ensures.out_after in record {
      out_len_unchanged = ap length put ∙ over_long _ _;
      upper_bound = omega (arith, many, fits);
      out_after = ap₂ take many put ∙ (over_first w a.out.now fits ∙ ap (λ q. stable_sets a.x.atoms (q ++ day)) c.reduct-rules.ensures.result_after);
    }
