-- `desk::words::write_listing` meets its contract. Assumes nothing.
use Prim.Native.Nat.{◌*◌}
use mathlib.Core.Path.{ap, ◌∙◌}
use lib.ListN.{take}
use Rattle.semantics.specs.Definitions.Returned.{written}
use Rattle.semantics.specs.Definitions.Listing.{six}
use Rattle.semantics.specs.Definitions.Desk.{bytes_of}
use Rattle.semantics.proofs.Theorems.Desk.{bytes_long}
use Rattle.records.specs.Outcomes.{tally_from}
use Rattle.desk.proofs.Placed.{both}
use Rattle.desk.proofs.words.write_listing.Goals as goal

pub returns : goal.returns
returns c =
    let a = c.args in
    let cs = six (tally_from a.tally) in
    both a.out.now cs (take (4 * a.tally.views) a.records.now) 12 (bytes_long cs)
    (c.write_bytes.ensures ∙ ap (λ h. written (bytes_of h) a.out.now) c.counts.ensures) c.write_bytes-2.ensures
