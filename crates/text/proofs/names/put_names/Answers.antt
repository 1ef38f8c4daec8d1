-- `text::names::put_names` meets its contract: the fields of the first a atoms stand there. Assumes nothing.
use native.Mathlib.Omega.{arith}
use Prim.Native.Nat.{ℕ, ◌+◌}
use mathlib.Core.Path.{◌≡◌, refl, sym, ap, ◌∙◌}
use mathlib.Core.Bool.{cond}
use mathlib.Core.List.{List, []}
use Rattle.sets.specs.Sets.{◌∈?◌}
use Rattle.semantics.specs.Fields.{after_names}
use Rattle.text.specs.Names.{name_field}
use Rattle.text.proofs.Append.{nothing, and_then, same_text}
use Rattle.text.proofs.Named.{no_members, member-more, place_more}
use Rattle.text.proofs.names.put_names.Goals as goal

first : (s : List ℕ) → 1 ≡ after_names s 0 1
unfolding after_names
first s = refl

pub loop-a-init : goal.loop-a-init
loop-a-init c =
    let a = c.args in
    (omega arith, refl, same_text (sym (no_members a.s.now a.set)) (nothing a.from a.out.now), first a.s.now, omega arith, omega arith)

pub loop-a-preserved : goal.loop-a-preserved
loop-a-preserved c =
    let a = c.args in
    let l = c.loop-a in
    let put = c.put_member-at in
    let (few, long, text, place, near, low) = l.invariant in
    let next = c.byte.ensures in
    let field = same_text (ap (λ p. cond (l.a ∈? a.set) (name_field a.s.now p) []) place) put.ensures.appended in (
      omega arith,
      put.auto.out ∙ long,
      same_text (sym (member-more a.s.now a.set l.a)) (and_then text field),
      ap (λ n. l.place + 1 + n) next.0 ∙ place_more a.s.now l.a place,
      omega (arith, near, next.1),
      omega (arith, low, put.ensures.upper_bound),
    )
