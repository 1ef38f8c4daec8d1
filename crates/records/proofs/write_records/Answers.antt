-- `records::write_records` meets its contract. Assumes nothing.
use Prim.Native.Nat.{◌*◌}
use mathlib.Core.Path.{refl, sym, ap, ◌∙◌}
use native.Mathlib.Numerals.{add-one}
use native.Mathlib.Omega.{arith}
use lib.ListN.{length}
use Rattle.semantics.specs.Definitions.Returned.{written}
use Rattle.semantics.specs.Definitions.Listing.{record_of, words}
use Rattle.semantics.proofs.Theorems.Records.{words_long}
use Rattle.records.specs.Records.{view_in, views_in, views_in_long}
use Rattle.records.proofs.Placed.{placed, record_written, placed_long, word_more, no_words, views_suc}
use Rattle.records.proofs.write_records.Goals as goal

pub loop-i-init : goal.loop-i-init
loop-i-init c =
    let a = c.args in
    (omega arith, refl, no_words a.records.now a.out.now)

pub loop-i-preserved : goal.loop-i-preserved
loop-i-preserved c =
    let l = c.loop-i in
    let a = c.args in
    let pre = c.requires in
    let told = c.loop-i-test.true in
    let v = view_in a.records.now l.i in
    let seen = c.view_at-v.ensures in
    let put = record_written (4 * l.i) l.out seen c.write_record.ensures in (
      omega arith,
      ap length put ∙ placed_long (4 * l.i) l.out (record_of v) (omega arith) ∙ l.invariant.1,
      put ∙ ap (placed (4 * l.i) (record_of v)) l.invariant.2
          ∙ word_more (views_in a.records.now l.i) v a.out.now (4 * l.i) (words_long _ ∙ ap (λ n. 4 * n) (views_in_long a.records.now l.i))
          ∙ ap (λ vs. written (words vs) a.out.now) (sym (ap (views_in a.records.now) (add-one l.i) ∙ views_suc a.records.now l.i)),
    )
