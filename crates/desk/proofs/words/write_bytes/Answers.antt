-- `desk::words::write_bytes` meets its contract. Assumes nothing.
use Prim.Native.Nat.{◌+◌, ◌*◌, ◌-◌, ◌/◌, ◌%◌}
use mathlib.Core.Path.{◌≡◌, ap, ◌∙◌}
use mathlib.Core.List.{[], ◌∷◌}
use native.Mathlib.Omega.{arith}
use lib.ListN.{get_or}
use Rattle.desk.proofs.Placed.{none_held, one_more}
use Rattle.desk.proofs.words.write_bytes.Goals as goal

pub loop-i-init : goal.loop-i-init
loop-i-init c = none_held c.args.words.now c.args.out.now

pub loop-i-preserved : goal.loop-i-preserved
loop-i-preserved c =
    let a = c.args in
    let l = c.loop-i in
    let w = get_or a.words.now l.i 0 in
    let small : w / 256 % 256 ≡ w / 256 = omega (arith, c.type_inv.words l.i) in
    let bytes : c.copy_from_slice.new.self ≡ w % 256 ∷ w / 256 ∷ [] = c.copy_from_slice.ensures.after ∙ c.to_le_bytes.ensures ∙ ap (λ b. w % 256 ∷ b ∷ []) small in
    let two : 2 * l.i + 2 - 2 * l.i ≡ 2 = omega arith in
    rw (two, bytes) (one_more a.words.now a.out.now l.i c.loop-i-test.true l.invariant)
