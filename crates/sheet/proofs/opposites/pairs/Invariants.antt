-- `sheet::opposites::pairs` meets its contract. Assumes nothing.
use Rattle.sheet.proofs.Loops.{Reached}
use Rattle.sheet.proofs.PairLoop.{loop}
use Rattle.sheet.proofs.opposites.pairs.Given as goal

abbrev pub invariant-loop-i : goal.invariant-loop-i
invariant-loop-i l = Reached (loop l.s l.initial.c) l.i l.c
