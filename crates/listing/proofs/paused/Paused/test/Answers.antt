-- `listing::paused::Paused::test` meets its contract. Assumes nothing.
use Prim.Native.Nat.{◌*◌}
use mathlib.Core.Path.{refl, ap, ◌∙◌}
use native.Mathlib.Omega.{arith}
use lib.ListN.{length}
use Rattle.semantics.specs.Definitions.Verdict.{verdict}
use Rattle.semantics.specs.Definitions.Listing.{words}
use Rattle.semantics.specs.Words.{program_in}
use Rattle.semantics.specs.Walk.{views_by}
use Rattle.guess.specs.Programs.{setting_in}
use Rattle.guess.specs.Numbered.{few_of}
use Rattle.guess.specs.Settings.{setting_by}
use Rattle.records.specs.Outcomes.{outcome_from, tally_from}
use Rattle.records.proofs.Placed.{part-written, placed_long}
use Rattle.listing.proofs.Steps.{words_few, advanced}
use Rattle.listing.proofs.Examined.{tested_as, one_test}
use Rattle.listing.proofs.paused.Paused.test.Goals as goal

pub judged-outcome-requires : goal.judged-outcome-requires
judged-outcome-requires c =
    let pre = c.requires in
    (omega (arith, pre.outlines.2, pre.at_most.2.few), pre.at_most.2.few, few_of pre.outlines.0)

pub returns : goal.returns
returns c =
    let a = c.args in
    let pre = c.requires in
    let t = a.self.tally in
    let s = setting_in a.x a.words.now in
    let o = outcome_from c.judged-outcome.result in
    let put = part-written (4 * t.views) a.records.now (words (views_by o)) c.note.ensures in record {
      records_len_unchanged = ap length put ∙ placed_long (4 * t.views) a.records.now (words (views_by o)) (omega (arith, words_few o, pre.at_most.1));
      at_value = (refl, refl, ap (λ z. z.tested) c.count-next.ensures ∙ one_test (tally_from t) a.guess (verdict (setting_by a.x (program_in a.program.now a.rules)) a.guess) c.judged-outcome.ensures);
      records_after = advanced s t _ a.records.now _ a.guess o (omega (arith, pre.at_most.1)) (tested_as pre.outlines.0 pre.at_most.2 c.judged-outcome.ensures) c.count-next.ensures put;
    }
