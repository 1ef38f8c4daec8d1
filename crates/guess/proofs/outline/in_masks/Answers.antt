-- `guess::outline::in_masks` meets its contract. Assumes nothing.
use Prim.Native.Nat.{ℕ, ◌+◌, ◌*◌, ◌<◌}
use mathlib.Core.Path.{◌≡◌, sym, ap, ap₂, ◌∙◌}
use mathlib.Core.List.{List}
use native.Mathlib.Omega.{arith}
use Rattle.sets.specs.Lists.{flat, get_or-up_to}
use Rattle.sets.specs.Sets.{◌∪◌, ∅, ⋃}
use Rattle.semantics.specs.Fields.{masks_of}
use Rattle.semantics.specs.Words.{mask_in, masks_in, rules_in, rules-none, rules-more}
use Rattle.semantics.specs.Theorems.Subjects.{masks-more}
use Rattle.guess.proofs.outline.in_masks.Goals as goal

one-rule : (words : List ℕ) (i m : ℕ) → m < 7
    → ⋃ (masks_of m (m + 1) (rules_in words (i + 1))) ≡ ⋃ (masks_of m (m + 1) (rules_in words i)) ∪ mask_in words i m ∪ mask_in words i (m + 1)
one-rule words i m h =
    ap (λ rs. ⋃ (masks_of m (m + 1) rs)) (rules-more words i) ∙ sym (masks-more ∅ m (m + 1) (rules_in words i) (masks_in words i))
    ∙ ap₂ (λ x y. ⋃ (masks_of m (m + 1) (rules_in words i)) ∪ x ∪ y) (get_or-up_to (mask_in words i) 0 8 m (omega arith)) (get_or-up_to (mask_in words i) 0 8 (m + 1) (omega arith))

pub loop-i-init : goal.loop-i-init
unfolding flat
loop-i-init c = rw (rules-none c.args.words.now)

pub loop-i-preserved : goal.loop-i-preserved
loop-i-preserved c =
    let a = c.args in
    let l = c.loop-i in
    let more = one-rule a.words.now l.i a.m c.requires.1 in
    let same : 8 * l.i + (a.m + 1) ≡ 8 * l.i + a.m + 1 = omega arith in
    rw l.invariant (sym (more ∙ rw same))

pub returns : goal.returns
returns c =
    let a = c.args in
    let l = c.loop-i in
    let same : l.i ≡ a.rules = omega arith in
    l.invariant ∙ rw same
