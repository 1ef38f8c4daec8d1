-- `calls::companion::read_parts` meets its contract: one sheet more. Assumes nothing.
use Rattle.std.proofs.Common.{◌≡◌, ◌<◌, ℕ, List, length, get_or, sym, subst, ⊎_elim, ◌∙◌, arith, get_or-set_same, get_or-set_other}
use lib.ListN.{set, length-set}
use Rattle.sets.specs.Decides.{decided, dec_eq}
use Rattle.calls.specs.declared.companion.Part.{Part}
use Rattle.calls.specs.Within.{Within, none, AllWithin}
use Rattle.calls.proofs.companion.read_parts.Goals as goal

one_more : (each : List Part) (n p : ℕ) (x : Part) → p < length each → Within x n → AllWithin each n → AllWithin (set each p x) n
one_more each n p x h w all = (
  length-set each p x ∙ all.0,
  λ q. ⊎_elim
      (λ e. subst (λ (y : Part). Within y n) (sym (subst (λ k. get_or (set each p x) k none ≡ x) (sym e) (get_or-set_same each p x none h))) w)
      (λ d. subst (λ (y : Part). Within y n) (sym (get_or-set_other each p q x none d)) (all.1 q))
      (decided (dec_eq q p)),
)

pub loop-p-preserved : goal.loop-p-preserved
loop-p-preserved c =
    let l = c.loop-p in
    let p = c.in_ok-part.ensures in
    let few : l.p < length l.each = omega (arith, l.invariant.1.0, c.loop-p-test.true) in
    (omega (arith, p), one_more l.each _ l.p _ few p.0 l.invariant.1)
