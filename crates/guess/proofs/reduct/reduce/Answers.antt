-- `guess::reduct::reduce` meets its contract. Assumes nothing.
use lib.ListN.{get_or, length-set}
use mathlib.Core.List.{List}
use mathlib.Core.Path.{◌≡◌, refl, sym, ap, subst, ◌∙◌}
use Prim.Native.Nat.{ℕ, ◌<◌}
use Rattle.sets.specs.Lists.{get_or-up_to}
use Rattle.semantics.specs.Words.{mask_in, masks_in}
use Rattle.std.specs.Prelude.{Option}
use Rattle.guess.specs.Acted.{acted_on, Reduced}
use Rattle.guess.proofs.Joined.{none-joined, one-joined, all_joined, some_deletes}
use Rattle.guess.proofs.reduct.reduce.Goals as goal

-- what is done to mask i of the rule, by the answer of `act`
acted_in : (words : List ℕ) (j u p i : ℕ) → i < 8 → {x : Option (ℕ × ℕ)} → x ≡ acted_on u p i (mask_in words j i) → acted_on u p i (get_or (masks_in words j) i 0) ≡ x
acted_in words j u p i h answered = ap (acted_on u p i) (get_or-up_to (mask_in words j) 0 8 i h) ∙ sym answered

pub loop-i-init : goal.loop-i-init
loop-i-init c = let a = c.args in (refl, none-joined a.by.unknown a.by.maybe (masks_in a.words.now a.j))

pub returns-in_err-to : goal.returns-in_err-to
returns-in_err-to c =
    let a = c.args in
    let masks = masks_in a.words.now a.j in
    let l = c.loop-i in
    let h = c.loop-i-test.true in
    subst (Reduced a.by.unknown a.by.maybe masks) (sym c.from_residual.ensures)
    (some_deletes a.by.unknown a.by.maybe masks l.i h (acted_in a.words.now a.j a.by.unknown a.by.maybe l.i h c.in_err-to.ensures.value))

pub loop-i-preserved : goal.loop-i-preserved
loop-i-preserved c =
    let a = c.args in
    let l = c.loop-i in
    let h = c.loop-i-test.true in
    let act = c.in_ok-to.ensures in (
      simp length-set l.invariant.0,
      one-joined a.by.unknown a.by.maybe (masks_in a.words.now a.j) l.rule l.i l.invariant.1 h l.invariant.0 act.one_of_four
          (acted_in a.words.now a.j a.by.unknown a.by.maybe l.i h act.value),
    )

pub returns : goal.returns
returns c = let a = c.args in all_joined a.by.unknown a.by.maybe (masks_in a.words.now a.j) c.loop-i.rule c.loop-i.i c.loop-i.invariant.1 c.loop-i-test.false
