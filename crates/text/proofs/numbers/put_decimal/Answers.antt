-- `text::numbers::put_decimal` meets its contract. Assumes nothing.
use Prim.Native.Nat.{◌<◌, ◌^◌}
use native.Mathlib.Omega.{arith}
use Rattle.semantics.specs.Theorems.Decimal.{decimal_word}
use Rattle.text.proofs.numbers.put_decimal.Goals as goal

pub digits-requires : goal.digits-requires
digits-requires c =
    let n = c.args.n in
    let small : n < 2 ^ 64 = omega arith in
    omega (arith, c.requires, decimal_word n small)

pub returns-clause-upper_bound : goal.returns-clause-upper_bound
returns-clause-upper_bound c =
    let n = c.args.n in
    let small : n < 2 ^ 64 = omega arith in
    omega (arith, c.digits.ensures.next, decimal_word n small)
