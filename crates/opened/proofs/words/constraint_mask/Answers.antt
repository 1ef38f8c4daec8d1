-- `opened::words::constraint_mask` meets its contract. Assumes nothing.
use borrow.Author.Tests.{eq-eqb, ne_eqb}
use Rattle.opened.proofs.words.constraint_mask.Goals as goal

pub returns-then-i-eq1 : goal.returns-then-i-eq1
returns-then-i-eq1 c = rw (eq-eqb c.args.i 1 c.if-i-eq1.true)

pub returns : goal.returns
returns c = rw (ne_eqb c.args.i 1 c.if-i-eq1.false)
