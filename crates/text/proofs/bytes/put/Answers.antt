-- `text::bytes::put` meets its contract. Assumes nothing.
use Prim.Native.Nat.{◌+◌, ◌-◌}
use mathlib.Core.Path.{◌≡◌}
use native.Mathlib.Omega.{arith}
use lib.ListN.{length}
use Rattle.text.proofs.Append.{placed}
use Rattle.text.proofs.bytes.put.Goals as goal

pub returns : goal.returns
returns c =
    let a = c.args in
    let size : a.at + length a.text.now - a.at ≡ length a.text.now = omega arith in
    rw (size, c.copy_from_slice.ensures.after) (placed a.at a.text.now a.out.now c.requires)
