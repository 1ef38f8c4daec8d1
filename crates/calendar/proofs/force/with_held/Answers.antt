-- `calendar::force::with_held` meets its contract. Assumes nothing.
use mathlib.Core.Path.{◌≡◌, sym, ap, ap₂, ◌∙◌}
use mathlib.Core.Bool.{cond}
use lib.ListN.{take}
use Rattle.sets.specs.Lists.{foldl_snoc}
use Rattle.sets.specs.Sets.{◌∪◌, ∅, single}
use Rattle.calendar.specs.Entries.{entry_of, entries_in, nth, entries_none, entries_more}
use Rattle.calendar.specs.Force.{with_rule, held_from}
use Rattle.calendar.proofs.Written.{entry-among}
use Rattle.calendar.proofs.force.with_held.Goals as goal

pub loop-e-init : goal.loop-e-init
unfolding held_from
loop-e-init c = rw entries_none

pub include-held-requires : goal.include-held-requires
include-held-requires c =
    let a = c.args in
    c.requires.numbers (entry_of (nth a.entries.now c.loop-e.e-index)) (entry-among a.entries.now c.loop-e.e-index c.loop-e-test.true)

pub loop-e-preserved : goal.loop-e-preserved
unfolding held_from
loop-e-preserved c =
    let a = c.args in
    let l = c.loop-e in
    let e = entry_of (nth a.entries.now l.e-index) in
    let more = ap (held_from a.set a.minute) (entries_more a.entries.now l.e-index c.loop-e-test.true) ∙ foldl_snoc (with_rule a.minute) a.set (entries_in (take l.e-index a.entries.now)) e in
    c.include-held.ensures ∙ ap₂ (λ b set. cond b (single e.rule) ∅ ∪ set) c.open_at-open.ensures l.invariant ∙ sym more
