-- `stable::growth::pass` meets its contract. Assumes nothing.
use lib.ListN.{take}
use Rattle.stable.specs.Applied.{positive_program}
use Rattle.stable.specs.Growth.{Grows}
use Rattle.stable.proofs.growth.pass.Given as goal

abbrev pub invariant-loop-rule : goal.invariant-loop-rule
invariant-loop-rule l = Grows (positive_program (take l.rule-index l.positive)) l.i l.l l.m
