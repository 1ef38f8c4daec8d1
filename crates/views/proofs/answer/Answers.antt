-- `views::answer` is safe: what is listed is a sheet that the check accepts. Assumes nothing.
use mathlib.Core.Path.{sym}
use Rattle.semantics.proofs.Theorems.Check.{checked-sheet}
use Rattle.views.proofs.answer.Goals as goal

pub listing-requires : goal.listing-requires
listing-requires c =
    let a = c.args in
    checked-sheet a.sheet.now (sym c.in-Ok.ensures.result_value)
