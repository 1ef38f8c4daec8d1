-- `gather::digest::digest_all` meets its contract. Assumes nothing.
use mathlib.Core.Path.{◌≡◌}
use lib.ListN.{length}
use Rattle.gather.proofs.Digesting.{UpTo}
use Rattle.gather.proofs.digest.digest_all.Given as goal

abbrev pub invariant-loop-j : goal.invariant-loop-j
invariant-loop-j l = (length l.digests ≡ 71) × UpTo l.x l.words l.digests l.j
