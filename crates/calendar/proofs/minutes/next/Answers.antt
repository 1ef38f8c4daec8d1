-- `calendar::minutes::next` meets its contract. Assumes nothing.
use mathlib.Core.Path.{◌≡◌, sym, ap, ◌∙◌}
use lib.ListN.{take}
use Rattle.sets.specs.Lists.{foldl_snoc}
use Rattle.calendar.specs.Entries.{entry_of, entries_in, nth, entries_none, entries_more}
use Rattle.calendar.specs.Next.{with_ends, next_of}
use Rattle.calendar.proofs.minutes.next.Goals as goal

pub loop-e-init : goal.loop-e-init
unfolding next_of
loop-e-init c = rw entries_none

pub loop-e-preserved : goal.loop-e-preserved
unfolding next_of
loop-e-preserved c =
    let a = c.args in
    let l = c.loop-e in
    let more = ap (next_of a.minute) (entries_more a.entries.now l.e-index c.loop-e-test.true) ∙ foldl_snoc (with_ends a.minute) _ (entries_in (take l.e-index a.entries.now)) (entry_of (nth a.entries.now l.e-index)) in
    c.nearer-best.ensures ∙ rw (c.nearer-first.ensures, l.invariant) (sym more)
