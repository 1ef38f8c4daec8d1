-- `sets::power` meets its contract: the shift loses no bit. Assumes nothing.
use mathlib.Core.Path.{◌∙◌}
use native.Mathlib.Nat.{one-mul}
use native.Mathlib.Omega.{arith}
use lib.Pow.{shl_exact}
use Rattle.sets.proofs.power.Goals as goal

pub returns : goal.returns
returns c = let k = c.args.k in shl_exact 1 k 16 (omega arith) (omega (arith, c.requires)) ∙ one-mul _
