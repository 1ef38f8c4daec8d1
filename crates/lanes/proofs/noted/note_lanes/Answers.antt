-- `lanes::noted::note_lanes` meets its contract. Assumes nothing.
use mathlib.Core.Path.{ap, subst}
use native.Mathlib.Omega.{arith}
use Rattle.sets.specs.Sets.{◌∖◌}
use Rattle.sets.specs.Members.{⊆_refl, ⊆_trans, ∩_⊆_left}
use Rattle.lanes.specs.declared.noted.Entry.{Entry}
use Rattle.lanes.specs.Noted.{InWord, noted_iff, noted-none, noted_join, one_more, not_yet, all_left, none_left, stored}
use Rattle.lanes.proofs.noted.note_lanes.Goals as goal

pub loop-b-init : goal.loop-b-init
loop-b-init c =
    let a = c.args in
    rw (c.into_iter-b-iterator.ensures.into_iter_gives, c.members-b-items.ensures) (⊆_refl, noted-none a.i (all_left a.w a.lanes))

pub take_in-requires : goal.take_in-requires
take_in-requires c =
    let l = c.loop-b in
    let a = c.args in
    let s = c.in-Some.ensures.steps in
    let e = ap (λ (x : Entry). x.sets) (l.invariant.1.kept (not_yet a.w a.lanes l.b-iterator.rest _ s.within s.least.is_in)) in
    omega (arith, e, c.requires.1 _ s.within (l.invariant.0.into s.least.is_in))

pub loop-b-preserved : goal.loop-b-preserved
loop-b-preserved c =
    let l = c.loop-b in
    let a = c.args in
    let s = c.in-Some.ensures.steps in
    let r = l.b-iterator.rest in
    rw s.others (
      ⊆_trans (∩_⊆_left r _) l.invariant.0,
      noted_iff (one_more a.w a.lanes r _ s.within l.invariant.0 s.least)
          (noted_join (λ g u e. not_yet a.w a.lanes r _ s.within s.least.is_in (subst (InWord a.w (a.lanes ∖ r)) e u)) l.invariant.1
          (stored l.table _ a.i (omega (arith, l.invariant.1.long, s.within, c.requires.0)) c.take_in.ensures)),
    )

pub returns : goal.returns
returns c = let a = c.args in noted_iff (none_left a.w a.lanes c.loop-b.b-iterator.rest c.in-None.ensures.steps) c.loop-b.invariant.1
