-- `calendar::force::unrestricted` meets its contract. Assumes nothing.
use Prim.Native.Nat.{ℕ}
use mathlib.Core.Path.{◌≡◌, refl, sym, ap, ap₂, ◌∙◌}
use mathlib.Core.Bool.{Bool, true, false, not, cond}
use native.Mathlib.Omega.{arith}
use native.Mathlib.Numerals.{add-one}
use Rattle.sets.specs.Lists.{null}
use Rattle.sets.specs.Sets.{◌∪◌, ∅, single, set_of}
use Rattle.sets.specs.Members.{set_of-suc}
use Rattle.semantics.specs.Definitions.Calendar.{entries_of}
use Rattle.calendar.specs.Entries.{entries_in}
use Rattle.calendar.specs.Force as force
use Rattle.calendar.proofs.force.unrestricted.Goals as goal

twice : (b : Bool) → not (not b) ≡ b
twice true = refl
twice false = refl

pub loop-rule-init : goal.loop-rule-init
unfolding force.unrestricted set_of
loop-rule-init c = (omega arith, refl)

pub loop-rule-preserved : goal.loop-rule-preserved
unfolding force.unrestricted
loop-rule-preserved c =
    let a = c.args in
    let l = c.loop-rule in
    let free : ℕ → Bool = λ rule. null (entries_of (entries_in a.entries.now) rule) in
    let same : not c.restricted-some.result ≡ free l.rule = ap not c.restricted-some.ensures ∙ twice (free l.rule) in
    (omega arith, c.include-set.ensures ∙ ap₂ (λ b set. cond b (single l.rule) ∅ ∪ set) same l.invariant.1 ∙ rw (add-one l.rule) (sym (set_of-suc free l.rule)))

pub returns : goal.returns
returns c =
    let a = c.args in
    let l = c.loop-rule in
    let same : l.rule ≡ a.rules = omega (arith, l.invariant.0) in
    l.invariant.1 ∙ rw same
