-- `listing::rest::rest` meets its contract. Assumes nothing.
use Rattle.guess.specs.Programs.{setting_in}
use Rattle.listing.proofs.RestLoop.{holds}
use Rattle.listing.proofs.rest.rest.Given as goal

abbrev pub invariant-loop-i : goal.invariant-loop-i
invariant-loop-i l = holds (setting_in l.x l.words) l.x.negations l.order l.initial.records l.i l.records l.counts
