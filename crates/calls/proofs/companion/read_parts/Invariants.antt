-- `calls::companion::read_parts` meets its contract: the sheets so far are in the bytes, and the next begins in them. Assumes nothing.
use Rattle.std.proofs.Common.{◌≤◌, length}
use Rattle.calls.specs.Within.{AllWithin}
use Rattle.calls.proofs.companion.read_parts.Given as goal

abbrev pub invariant-loop-p : goal.invariant-loop-p
invariant-loop-p l = (l.at ≤ length l.s) × AllWithin l.each (length l.s)
