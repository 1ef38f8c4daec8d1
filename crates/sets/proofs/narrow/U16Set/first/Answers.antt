-- `first` of a word of 16 bits meets its contract. Assumes nothing.
use native.Mathlib.Omega.{arith}
use Rattle.sets.specs.Least.{first_below}
use Rattle.sets.proofs.narrow.U16Set.first.Goals as goal

pub returns : goal.returns
returns c = first_below 16 c.args.self c.requires (omega arith)
