-- `sharing::turns::tests_made` meets its contract. Assumes nothing.
use mathlib.Core.Path.{sym}
use Rattle.sharing.proofs.Rounded.{four_spent}
use Rattle.sharing.proofs.turns.tests_made.Goals as goal

pub returns : goal.returns
returns c = sym (four_spent c.args.states c.requires.0)
