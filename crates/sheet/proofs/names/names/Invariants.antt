-- `sheet::names::names` meets its contract. Assumes nothing.
use Rattle.sheet.proofs.Loops.{Reached}
use Rattle.sheet.proofs.NameLoop.{loop}
use Rattle.sheet.proofs.names.names.Given as goal

abbrev pub invariant-loop-i : goal.invariant-loop-i
invariant-loop-i l = Reached (loop l.s l.initial.c) l.i l.c
