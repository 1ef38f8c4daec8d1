-- `listing::paused::Paused::reach` meets its contract. Assumes nothing.
use Prim.Native.Nat.{◌-◌, ◌≤◌}
use mathlib.Core.Path.{◌≡◌}
use lib.ListN.{length}
use Rattle.listing.specs.Pauses.{Along}
use Rattle.listing.proofs.paused.Paused.reach.Given as goal

abbrev pub invariant-loop-self : goal.invariant-loop-self
invariant-loop-self l = (length l.program ≡ length l.initial.program) × (length l.records ≡ length l.initial.records) × (l.self.tally.tested ≤ l.most) × Along l.x l.words l.order l.self l.program l.records

abbrev pub decreases-loop-self : goal.decreases-loop-self
decreases-loop-self l = length l.order - l.self.at
