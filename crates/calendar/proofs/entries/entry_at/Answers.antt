-- `calendar::entries::entry_at` meets its contract. Assumes nothing.
use Prim.Native.Nat.{ℕ, ◌+◌}
use mathlib.Core.Path.{◌≡◌, sym, ◌∙◌}
use native.Mathlib.Omega.{arith}
use lib.ListN.{length}
use borrow.Author.Tests.{leb-true}
use Rattle.semantics.specs.Definitions.Sheet.{byte_at}
use Rattle.semantics.specs.Definitions.Calendar.{Entry}
use Rattle.calendar.proofs.Written.{entered_so, eleven_so, short_so}
use Rattle.calendar.proofs.entries.entry_at.Goals as goal

entry : (rule first end : ℕ) → Entry
entry rule first end = record { rule = rule; first = first; end = end }

pub returns-then-proper : goal.returns-then-proper
unfolding entry
returns-then-proper c =
    let a = c.args in
    entered_so a.c.now a.rules a.at (sym c.present.ensures ∙ c.if-present.true) (λ i. entry (byte_at a.c.now a.at) (c.word.ensures i) (c.word-then-present.ensures i)) (sym c.proper.ensures ∙ c.if-proper.true)

pub returns-then-present : goal.returns-then-present
unfolding entry
returns-then-present c =
    let a = c.args in
    eleven_so a.c.now a.rules a.at (sym c.present.ensures ∙ c.if-present.true) (λ i. entry (byte_at a.c.now a.at) (c.word.ensures i) (c.word-then-present.ensures i)) (sym c.proper.ensures ∙ c.if-proper.false)

pub returns : goal.returns
returns c = let a = c.args in short_so a.c.now a.rules a.at (sym c.present.ensures ∙ c.if-present.false)
