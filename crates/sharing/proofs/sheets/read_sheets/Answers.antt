-- `sharing::sheets::read_sheets` meets its contract. Assumes nothing.
use mathlib.Core.Path.{◌∙◌, subst}
use mathlib.Core.List.{[], ◌∷◌}
use native.Mathlib.Omega.{arith}
use lib.ListN.{length-set}
use Rattle.semantics.specs.Definitions.Day.{of_day}
use Rattle.source.specs.Sources.{Reads}
use Rattle.sharing.proofs.Reading.{read_more}
use Rattle.sharing.proofs.sheets.read_sheets.Goals as goal

pub loop-p-preserved : goal.loop-p-preserved
loop-p-preserved c =
    let a = c.args in
    let l = c.loop-p in
    let sheets = a.a.now ∷ a.b.now ∷ a.c.now ∷ a.d.now ∷ [] in
    let told = c.loop-p-test.true in
    let x = c.of_day-source.result in
    let ws = c.of_day-source.new.words in
    let reads = subst (λ s. Reads (of_day s 0 0) x ws) c.pick-sheet.ensures c.of_day-source.ensures.reads in (
      length-set l.words l.p _ ∙ l.invariant.0,
      length-set l.sources l.p _ ∙ l.invariant.1,
      read_more sheets l.sources l.words l.p x ws (omega (arith, told, c.requires.0, l.invariant.1)) (omega (arith, told, c.requires.0, l.invariant.0)) l.invariant.2 reads,
    )
