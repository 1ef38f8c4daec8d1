-- `gather::digest::digest_all` meets its contract. Assumes nothing.
use mathlib.Core.Path.{◌≡◌}
use native.Mathlib.Omega.{arith}
use Rattle.gather.proofs.Digesting.{all_written}
use Rattle.gather.proofs.digest.digest_all.Goals as goal

pub returns : goal.returns
returns c =
    let all : c.loop-j.j ≡ c.args.x.rules = omega (arith, c.loop-j-test.false) in
    all_written (rw all at c.loop-j.invariant.1) (omega (arith, c.loop-j.invariant.0, c.requires.few_rules))
