-- `search::supported::support` meets its contract. Assumes nothing.
use Prim.Native.Nat.{◌≤◌}
use lib.ListN.{length}
use Rattle.search.specs.Supported.{SupportedBy}
use Rattle.search.proofs.supported.support.Given as goal

abbrev pub invariant-loop-r : goal.invariant-loop-r
invariant-loop-r l = (l.r ≤ length l.rules) × SupportedBy l.rules l.on l.i l.r l.by
