-- `lanes::noted::note_word` meets its contract. Assumes nothing.
use mathlib.Core.Path.{refl, ap, ◌∙◌}
use native.Mathlib.Omega.{arith}
use lib.ListN.{get_or}
use Rattle.sets.specs.Sets.{◌∩◌, ◌∖◌}
use Rattle.sets.specs.Members.{∈-∩}
use Rattle.lanes.specs.Cube.{having}
use Rattle.lanes.specs.Step.{word_noted, word_unnoted}
use Rattle.lanes.proofs.noted.note_word.Goals as goal

pub returns-then-these-eq0 : goal.returns-then-these-eq0
returns-then-these-eq0 c =
    let a = c.args in
    word_unnoted a.w a.stable a.i a.needed a.active.now a.table.now c.if-these-eq0.true

pub note_lanes-requires : goal.note_lanes-requires
note_lanes-requires c =
    let a = c.args in
    let pre = c.requires in
    let old = get_or a.active.now a.w 0 in
    let x = c.cube-having.result in
    (omega arith, λ b l m. pre.3 b l ((∈-∩ b a.stable old).0 ((∈-∩ b (a.stable ∩ old) x).0 m).0).1)

pub returns : goal.returns
returns c =
    let a = c.args in
    let pre = c.requires in
    let old = get_or a.active.now a.w 0 in
    let e = c.minus-2.ensures ∙ ap (λ z. old ∖ z) c.minus.ensures in
    let x = having a.needed a.w c.cube-having.ensures in
    word_noted a.w a.stable a.i a.needed a.active.now a.table.now pre.0 x e c.note_lanes.ensures refl
