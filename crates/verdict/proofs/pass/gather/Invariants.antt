-- `verdict::pass::gather` meets its contract. Assumes nothing.
use Prim.Native.Nat.{◌≤◌}
use mathlib.Core.Path.{◌≡◌}
use mathlib.Core.List.{◌++◌}
use lib.ListN.{length}
use Rattle.sets.specs.Lists.{up_to}
use Rattle.semantics.specs.Words.{program_in}
use Rattle.semantics.specs.Definitions.Pass.{having, pass_over}
use Rattle.semantics.specs.Definitions.Day.{day_constraints}
use Rattle.stable.specs.Kept.{NogoodsHold}
use Rattle.verdict.proofs.Passing.{written_to}
use Rattle.verdict.proofs.pass.gather.Given as goal

abbrev pub invariant-loop-i : goal.invariant-loop-i
invariant-loop-i l = let p = program_in l.program l.rules ++ day_constraints l.ins l.outs in
    (l.tests ≡ l.i) × (l.i ≤ l.end) × (l.sets ≤ l.i) × (having l.known l.possible l.sets l.tests ≡ pass_over l.atoms p (up_to l.i)) × (l.out ≡ written_to p l.i l.initial.out) × (length l.room ≡ 71)
    × NogoodsHold l.ins l.outs (program_in l.program l.rules) l.nogoods
