-- `listing::rest::pass` meets its contract. Assumes nothing.
use Prim.Native.Nat.{◌*◌}
use mathlib.Core.Path.{refl, sym, ap, ◌∙◌}
use native.Mathlib.Omega.{arith}
use lib.ListN.{length}
use Rattle.semantics.specs.Definitions.Listing.{words}
use Rattle.semantics.specs.Walk.{Covered, views_by}
use Rattle.guess.specs.Programs.{setting_in}
use Rattle.records.specs.Records.{views_in}
use Rattle.records.specs.Outcomes.{outcome_from}
use Rattle.records.proofs.Placed.{part-written, placed_long}
use Rattle.listing.proofs.Steps.{covered_as, examined_as, words_few, none-noted, advanced}
use Rattle.listing.proofs.rest.pass.Goals as goal

pub returns-then-covered_by : goal.returns-then-covered_by
returns-then-covered_by c =
    let a = c.args in
    let seen = sym c.covered_by.ensures ∙ c.if-covered_by.true in
    let s = setting_in a.x a.words.now in record {
      records_len_unchanged = refl;
      records_after = advanced s a.tally _ a.records.now _ a.guess Covered (omega (arith, c.requires.at_most.1))
          (covered_as s (views_in a.records.now a.tally.views) a.guess seen) c.count.ensures (none-noted (4 * a.tally.views) Covered a.records.now refl);
    }

pub returns : goal.returns
returns c =
    let a = c.args in
    let seen = sym c.covered_by.ensures ∙ c.if-covered_by.false in
    let o = outcome_from c.examine-outcome.result in
    let s = setting_in a.x a.words.now in
    let put = part-written (4 * a.tally.views) a.records.now (words (views_by o)) c.note.ensures in record {
      records_len_unchanged = ap length put ∙ placed_long (4 * a.tally.views) a.records.now (words (views_by o)) (omega (arith, words_few o, c.requires.at_most.1));
      records_after = advanced s a.tally _ a.records.now _ a.guess o (omega (arith, c.requires.at_most.1))
          (examined_as s (views_in a.records.now a.tally.views) a.guess seen c.examine-outcome.ensures) c.count-2.ensures put;
    }
