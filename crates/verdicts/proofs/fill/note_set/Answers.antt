-- `verdicts::fill::note_set` meets its contract. Assumes nothing.
use mathlib.Core.Path.{refl, ◌∙◌}
use native.Mathlib.Omega.{arith}
use lib.Seq.{length-take-le}
use Rattle.search.specs.Tried.{tried_iff, tried_none}
use Rattle.guess.specs.Numbered.{few_of}
use Rattle.verdicts.proofs.Sets.{need_is, stable-at, none-stable, some-rules}
use Rattle.verdicts.proofs.fill.note_set.Goals as goal

pub found-needed-requires : goal.found-needed-requires
found-needed-requires c = few_of c.requires.table.0

pub gather-requires : goal.gather-requires
gather-requires c =
    let o = c.requires.table.0 in
    (o, c.requires.table.1, c.found-needed.ensures ∙ need_is o c.args.i c.requires.table.2, c.requires.rules_in_bounds.0)

pub returns-in_default : goal.returns-in_default
returns-in_default c =
    let a = c.args in
    let g = c.gather in
    let fails = none-stable a.x a.words.now a.i g.new.room g.result g.ensures.gathered_at c.in_default.is in
    record {
      room_len_unchanged = (g.ensures.room_len_unchanged, refl, refl);
      tried = tried_none a.i _ a.active.now a.table.now fails;
    }

pub note_rules-requires : goal.note_rules-requires
note_rules-requires c =
    let a = c.args in
    let q = c.requires.rules_in_bounds in
    let r = c.requires.active_in_bounds in
    let g = c.gather in
    let room = g.new.room in
    let is = c.in-Some.is in
    let some = some-rules a.x a.words.now a.i room g.result g.ensures.gathered_at is in
    let n = c.in-Some.n in
    (omega (arith, length-take-le n room (omega (arith, some.0, g.ensures.room_len_unchanged, q.0)), some.0, q.1), q.2, q.3, r.0, r.1)

pub returns : goal.returns
returns c =
    let a = c.args in
    let o = c.requires.table.0 in
    let g = c.gather in
    let some = some-rules a.x a.words.now a.i g.new.room g.result g.ensures.gathered_at c.in-Some.is in
    let n = c.note_rules.ensures in
    let needed = c.found-needed.ensures ∙ need_is o a.i c.requires.table.2 in
    record {
      room_len_unchanged = (g.ensures.room_len_unchanged, n.on_len_unchanged, n.stable_len_unchanged);
      tried = tried_iff (λ h _ _. stable-at g.new.room a.i h (omega (arith, some.0, g.ensures.room_len_unchanged, c.requires.rules_in_bounds.0)) some.1) (rw needed at n.tried);
    }
