-- `sheet::rules::masks` meets its contract. Assumes nothing.
use Rattle.sheet.proofs.Loops.{Reached}
use Rattle.sheet.proofs.MaskLoop.{loop}
use Rattle.sheet.proofs.rules.masks.Given as goal

abbrev pub invariant-loop-i : goal.invariant-loop-i
invariant-loop-i l = Reached (loop l.s l.initial.c) l.i l.c
