-- `listing::whole::plane_words` meets its contract. Assumes nothing.
use Prim.Native.Nat.{◌+◌, ◌-◌, ◌^◌, ◌≤◌}
use mathlib.Core.Path.{◌≡◌, ap}
use native.Mathlib.Omega.{arith}
use lib.Pow.{pow_mono, pow-add}
use Rattle.listing.proofs.whole.plane_words.Goals as goal

pub returns-then-negations-le6 : goal.returns-then-negations-le6
returns-then-negations-le6 c = let h : 2 ^ c.args.negations ≤ 2 ^ 6 = pow_mono c.if-negations-le6.true in (omega arith, omega (arith, h))

pub returns : goal.returns
returns c =
    let k = c.args.negations in
    let e : k ≡ 6 + (k - 6) = omega (arith, c.if-negations-le6.false) in
    let few : k - 6 ≤ 6 = omega (arith, c.requires) in
    (omega (arith, c.power.ensures, pow_mono few), omega (arith, c.power.ensures, ap (λ n. 2 ^ n) e, pow-add 2 6 (k - 6)))
