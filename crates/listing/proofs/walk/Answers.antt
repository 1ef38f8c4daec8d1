-- `listing::walk` meets its contract. Assumes nothing.
use mathlib.Core.Path.{ap, ◌∙◌}
use native.Mathlib.Omega.{arith}
use lib.Pow.{pow_mono}
use Rattle.semantics.specs.Walk.{walk}
use Rattle.guess.specs.Programs.{setting_in}
use Rattle.listing.proofs.Along.{passed, counts_few, along_whole}
use Rattle.listing.proofs.walk.Goals as goal

pub returns : goal.returns
returns c =
    let a = c.args in
    let (o, en, records) = c.requires in
    let w = c.whole-end in
    let along = w.ensures.along in
    let end = w.ensures.waits_value.1 in
    let n = a.x.negations in
    let s = setting_in a.x a.words.now in
    let few = (counts_few n a.order.now en s w.result.at along.walked).0 in
    let all = along.walked ∙ ap (λ i. walk s (passed n a.order.now i)) end in
    record {
      records_len_unchanged = w.ensures.records_len_unchanged;
      views_in_bounds = omega (arith, few, pow_mono o.few_negations, records);
      listing_along = along_whole s n a.order.now o.counted en all;
    }
