-- `search::noted::note_words` meets its contract. Assumes nothing.
use native.Mathlib.Omega.{arith}
use Rattle.sets.specs.Members.{⊆_le, ∩_⊆_left}
use Rattle.lanes.specs.Planes.{◌in_plane◌}
use Rattle.search.specs.Shared.{server, word_served}
use Rattle.search.specs.Step.{until_first, until_next, until_last, until_room}
use borrow.Author.Rules.{rules}
use Rattle.search.proofs.noted.note_words.Goals as goal

pub loop-w-init : goal.loop-w-init
loop-w-init c =
    let a = c.args in
    (search rules, search rules, search rules, until_first (λ g. server a.parting g in_plane a.stable.now) a.i a.needed a.active.now a.table.now)

pub offset_bounds-stable-w : goal.offset_bounds-stable-w
offset_bounds-stable-w c = omega (arith, ⊆_le (∩_⊆_left c.loop-w.w c.args.parting))

pub bounds-stable-w : goal.bounds-stable-w
bounds-stable-w c = omega (arith, ⊆_le (∩_⊆_left c.loop-w.w c.args.parting))

pub note_word-requires : goal.note_word-requires
note_word-requires c =
    let a = c.args in
    let pre = c.requires in
    let l = c.loop-w in
    (omega arith, omega arith, omega arith, until_room (λ g. server a.parting g in_plane a.stable.now) a.i a.needed a.active.now a.table.now l.invariant.3 pre.3)

pub loop-w-preserved : goal.loop-w-preserved
loop-w-preserved c =
    let a = c.args in
    let l = c.loop-w in
    let n = c.note_word.ensures in
    let x = word_served a.parting l.w a.stable.now in
    (search rules, omega (arith, n.long), omega (arith, n.entries.long), until_next (λ g. server a.parting g in_plane a.stable.now) a.i a.needed a.active.now a.table.now x l.invariant.3 n)

pub returns : goal.returns
returns c =
    let a = c.args in
    let l = c.loop-w in
    until_last (λ g. server a.parting g in_plane a.stable.now) a.i a.needed a.active.now a.table.now (omega arith) l.invariant.3
