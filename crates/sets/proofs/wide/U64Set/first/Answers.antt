-- `first` of a word of 64 bits meets its contract. Assumes nothing.
use native.Mathlib.Omega.{arith}
use Rattle.sets.specs.Least.{first_below}
use Rattle.sets.proofs.wide.U64Set.first.Goals as goal

pub returns : goal.returns
returns c = first_below 64 c.args.self c.requires (omega arith)
