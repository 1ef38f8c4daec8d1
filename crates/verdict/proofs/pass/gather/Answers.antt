-- `verdict::pass::gather` meets its contract. Assumes nothing.
use Prim.Native.Nat.{ℕ, ◌^◌}
use mathlib.Core.Path.{◌≡◌, refl, sym, ap, ◌∙◌}
use mathlib.Core.List.{◌++◌}
use native.Mathlib.Omega.{arith}
use Rattle.sets.specs.Lists.{up_to}
use Rattle.semantics.specs.Words.{program_in}
use Rattle.semantics.specs.Definitions.Stable.{stable_sets}
use Rattle.semantics.specs.Definitions.Pass.{having, pass_over, one_pass}
use Rattle.semantics.specs.Definitions.Day.{day_constraints}
use Rattle.semantics.proofs.Theorems.Pass.{one_pass_lem}
use Rattle.semantics.proofs.Theorems.Day.{stable-under}
use Rattle.stable.specs.Kept.{none_yet}
use Rattle.verdict.proofs.Passing.{written_to, gathered_none, written_none, gathers, writes, passes_over}
use borrow.Author.Rules.{rules}
use Rattle.verdict.proofs.pass.gather.Goals as goal
use Rattle.verdict.proofs.pass.gather.Goals.{then-test_set, else-test_set}

same : {known known' possible possible' sets sets' tests tests' : ℕ} → known ≡ known' → possible ≡ possible' → sets ≡ sets' → tests ≡ tests'
    → having known possible sets tests ≡ having known' possible' sets' tests'
same d e f g i = having (d i) (e i) (f i) (g i)

pub loop-i-init : goal.loop-i-init
loop-i-init c =
    let a = c.args in
    let p = program_in a.program.now a.rules ++ day_constraints a.ins a.outs in
    (omega arith, omega arith, omega arith, gathered_none a.atoms p c.full-known.ensures, written_none a.atoms p a.out.now, search rules, none_yet a.ins a.outs (program_in a.program.now a.rules) c.new-nogoods.result c.new-nogoods.ensures)

pub loop-i-preserved : goal.loop-i-preserved
loop-i-preserved c =
    let l = c.loop-i in
    let a = c.args in
    let t = c.test_set in
    let p = program_in a.program.now a.rules ++ day_constraints a.ins a.outs in
    let answer = t.ensures.value ∙ sym (stable-under a.ins a.outs (program_in a.program.now a.rules) l.i) in
    let room = t.ensures.room_len_unchanged ∙ l.invariant.5 in
    elim c.if-test_set.branch [
      | then-test_set w ↦
          let told = sym w.if-test_set.true ∙ answer in (
            omega arith,
            omega arith,
            omega arith,
            same w.known-is w.possible-is w.sets-is refl ∙ gathers a.atoms p l.i l.invariant.3 told,
            w.out-is ∙ (w.put.ensures ∙ writes a.atoms p l.i l.invariant.3 a.out.now l.invariant.4 (sym told)),
            room,
            t.ensures.nogoods_2,
          )
      | else-test_set w ↦
          let told = sym w.if-test_set.false ∙ answer in (
            omega arith,
            omega arith,
            omega arith,
            same w.known-is w.possible-is w.sets-is refl ∙ gathers a.atoms p l.i l.invariant.3 told,
            w.out-is ∙ passes_over a.atoms p l.i l.invariant.3 a.out.now l.invariant.4 (sym told),
            room,
            t.ensures.nogoods_2,
          )
    ]

pub returns : goal.returns
unfolding one_pass stable_sets
returns c =
    let l = c.loop-i in
    let a = c.args in
    let p = program_in a.program.now a.rules ++ day_constraints a.ins a.outs in
    let end : l.i ≡ 2 ^ a.atoms = omega (arith, c.power-end.ensures) in record {
      result_value = l.invariant.3 ∙ (ap (λ z. pass_over a.atoms p (up_to z)) end ∙ one_pass_lem a.atoms p);
      out_after = l.invariant.4 ∙ ap (λ z. written_to p z a.out.now) end;
    }
