-- `verdicts::free::free_guesses` meets its contract. Assumes nothing.
use mathlib.Core.Path.{refl, sym, subst, ◌∙◌}
use native.Mathlib.Omega.{arith}
use lib.ListN.{length-set}
use Rattle.guess.specs.Numbered.{few_of}
use Rattle.lanes.specs.Planes.{◌in_plane◌, Plane, until_none, until_more, until_all}
use Rattle.ruling.specs.Free.{Free}
use Rattle.verdicts.proofs.free.free_guesses.Goals as goal

pub number-numbers-requires : goal.number-numbers-requires
number-numbers-requires c = few_of c.requires.0

pub loop-w-init : goal.loop-w-init
loop-w-init c = let a = c.args in (refl, until_none (Free a.x a.words.now) a.free.now)

pub free_lanes-requires : goal.free_lanes-requires
free_lanes-requires c =
    let pre = c.requires in
    (pre.0, c.number-numbers.ensures, omega (arith, pre.1, c.loop-w.invariant.0, c.loop-w-test.true))

pub loop-w-preserved : goal.loop-w-preserved
loop-w-preserved c =
    let a = c.args in
    let l = c.loop-w in
    let F = Free a.x a.words.now in (
      length-set l.free l.w _ ∙ l.invariant.0,
      until_more (λ g. g in_plane a.free.now) F l.w _ l.free (omega (arith, l.invariant.0, c.loop-w-test.true)) l.invariant.1 c.free_lanes.ensures,
    )

pub returns : goal.returns
returns c =
    let a = c.args in
    let l = c.loop-w in
    let F = Free a.x a.words.now in
    let free = until_all (λ g. g in_plane a.free.now) F l.w l.free (omega (arith, c.loop-w-test.false)) l.invariant.1 in
    record {
      free_len_unchanged = (l.invariant.0, c.copy_from_slice.ensures.len);
      plane = (free, subst (Plane F) (sym c.copy_from_slice.ensures.after) free);
    }
