-- `calendar::entries::count` meets its contract. Assumes nothing.
use Prim.Native.Nat.{◌≤◌, ◌<◌}
use mathlib.Core.Path.{sym, ◌∙◌}
use native.Mathlib.Omega.{arith}
use lib.ListN.{length}
use borrow.Author.Tests.{leb-true, le-leb, lt-leb}
use Rattle.semantics.specs.Definitions.Sheet.{byte_at, count_at}
use Rattle.semantics.specs.Definitions.Calendar.{most_entries}
use Rattle.calendar.proofs.entries.count.Goals as goal

pub bounds-c-0 : goal.bounds-c-0
bounds-c-0 c = omega (arith, leb-true 1 (length c.args.c.now) (sym c.present.ensures ∙ c.if-present.true))

pub returns-then-n-gt64 : goal.returns-then-n-gt64
unfolding count_at
returns-then-n-gt64 c =
    let n = byte_at c.args.c.now 0 in
    let over : most_entries < n = omega (arith, c.if-n-gt64.true) in
    simp (sym c.present.ensures ∙ c.if-present.true, lt-leb n most_entries over)

pub returns-then-present : goal.returns-then-present
unfolding count_at
returns-then-present c =
    let n = byte_at c.args.c.now 0 in
    let few : n ≤ most_entries = omega (arith, c.if-n-gt64.false) in
    simp (sym c.present.ensures ∙ c.if-present.true, le-leb n most_entries few)

pub returns : goal.returns
unfolding count_at
returns c = simp (sym c.present.ensures ∙ c.if-present.false)
