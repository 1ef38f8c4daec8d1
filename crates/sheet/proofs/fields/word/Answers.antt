-- `sheet::fields::word` meets its contract: two bytes fit a word. Assumes nothing.
use native.Mathlib.Omega.{arith}
use Prim.Native.Nat.{◌+◌}
use Rattle.sheet.proofs.fields.word.Goals as goal

pub overflow_add-result-2 : goal.overflow_add-result-2
overflow_add-result-2 c =
    let at = c.args.at in
    omega (arith, c.type_inv.s at, c.type_inv.s (at + 1))
