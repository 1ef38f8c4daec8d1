-- `gather::digest::digest_of` meets its contract. Assumes nothing.
use Prim.Native.Nat.{◌+◌, ◌*◌}
use mathlib.Core.Path.{◌≡◌, ap}
use native.Mathlib.Omega.{arith}
use lib.ListN.{get_or}
use Rattle.guess.specs.Numbered.{few_of}
use Rattle.gather.proofs.Digesting.{digest_is}
use Rattle.gather.proofs.digest.digest_of.Goals as goal

pub found-requires : goal.found-requires
found-requires c = few_of c.requires.0

pub found-requires-2 : goal.found-requires-2
found-requires-2 c = few_of c.requires.0

pub returns : goal.returns
returns c =
    let a = c.args in
    let at : 8 * a.j ≡ 8 * a.j + 0 = omega arith in
    digest_is c.requires.0 a.j (ap (λ p. get_or a.words.now p 0) at) c.full-all.ensures c.minus.ensures c.found.ensures c.minus-2.ensures c.found-2.ensures
