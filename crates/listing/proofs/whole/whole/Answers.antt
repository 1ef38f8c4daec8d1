-- `listing::whole::whole` meets its contract. Assumes nothing.
use mathlib.Core.Path.{sym, ap, subst}
use native.Mathlib.Omega.{arith}
use Rattle.listing.specs.Pauses.{Along}
use Rattle.listing.proofs.Reaching.{along_start}
use Rattle.listing.proofs.whole.whole.Goals as goal

pub reach-first-requires : goal.reach-first-requires
reach-first-requires c =
    let a = c.args in
    let (o, en, program, records) = c.requires in
    let first = c.start-start.ensures in record {
      outlines = (o, en);
      program_room_in_bounds = (program, records);
      tested_le_most = (
        omega (arith, ap (λ p. p.tally.tested) first),
        subst (λ p. Along a.x a.words.now a.order.now p a.program.now a.records.now) (sym first) (along_start a.x a.words.now a.order.now a.program.now a.records.now),
      );
    }
