-- `stable::smaller::search` meets its contract. The loop over the subsets has found no smaller model among those tried; the loop over the
-- rules has passed only rules that hold in the subset. Assumes nothing.
use Prim.Native.Nat.{◌-◌}
use Rattle.std.proofs.Common.{rules, tests}
use Rattle.sets.specs.Sets.{◌∪◌, ◌∩◌}
use Rattle.sets.specs.Lists.{◌among◌}
use mathlib.Core.Path.{◌≡◌, refl, sym, subst, ◌∙◌}
use mathlib.Core.Bool.{Bool, true, false, true≢false}
use Rattle.std.specs.Prelude.{Option, Some, None}
use Rattle.std.specs.Option.{MatchOption, IfSome}
use Rattle.semantics.specs.Definitions.Stable.{satisfies}
use Rattle.stable.specs.declared.positive.PositiveRule.{PositiveRule}
use native.Mathlib.Omega.{arith}
use Rattle.stable.specs.Applied.{positive_rule, positive_program}
use Rattle.stable.specs.Smaller.{SmallerIfAny}
use Rattle.stable.proofs.Written.{nth, plain_only, no_model, model-none, model-more, model-all, among-positive_program}
use Rattle.stable.proofs.Tried.{tried_first, tried_next, tried_all, found as smaller_found}
use Rattle.stable.proofs.smaller.search.Goals as goal

pub subsets-init : goal.subsets-init
subsets-init c = let a = c.args in (refl, tried_first (positive_program a.positive.now) a.l c.minus-beyond.result, tt)

-- the rule of which it was asked
asked : {Q : PositiveRule → Type 0} (o : Option PositiveRule) (b : Bool) (P : PositiveRule → Type 0) → MatchOption o (b ≡ false) Q → b ≡ true → IfSome o P
    → (r : PositiveRule) × Q r × P r
asked None b P m e h = absurd (true≢false (sym e ∙ m))
asked (Some r) b P m e h = (r, m, h)

pub subsets-preserved-then-is_some_and : goal.subsets-preserved-then-is_some_and
subsets-preserved-then-is_some_and c =
    let l = c.subsets in
    let a = c.args in
    let (r, told, there) = asked l.last c.is_some_and.result (λ r. positive_rule r among positive_program a.positive.now) c.is_some_and.ensures c.if-is_some_and.true l.invariant.2 in
    let fails : satisfies (a.l ∪ ((l.t - 1) ∩ c.minus-beyond.result)) (positive_rule r) ≡ false = search (rules, tests, told) in
    (l.invariant.0, tried_next (positive_program a.positive.now) a.l _ l.invariant.1 (no_model a.positive.now _ r there fails), l.invariant.2)

pub rules-init : goal.rules-init
rules-init c = (c.subsets.invariant.0, omega arith, model-none _)

pub subsets-preserved : goal.subsets-preserved
subsets-preserved c =
    let r = c.rules in
    let l = c.subsets in
    let a = c.args in
    let e = sym c.satisfied.ensures ∙ c.if-not-satisfied.true in
    let there = among-positive_program a.positive.now r.j c.if-positive-j.false in
    (r.invariant.0, tried_next (positive_program a.positive.now) a.l _ l.invariant.1 (no_model a.positive.now _ (nth a.positive.now r.j) there e), there)

pub rules-preserved : goal.rules-preserved
rules-preserved c =
    let r = c.rules in
    (r.invariant.0, omega arith, model-more c.args.positive.now _ r.j c.if-positive-j.false (sym c.satisfied.ensures ∙ c.if-not-satisfied.false) r.invariant.2)

pub returns-after-subsets : goal.returns-after-subsets
returns-after-subsets c =
    let a = c.args in
    let inv = c.subsets.invariant in
    subst (SmallerIfAny (positive_program a.positive.now) a.i) (sym inv.0)
    (tried_all (plain_only a.positive.now) c.requires.grown.0 c.minus-beyond.ensures inv.1 (omega arith))

pub returns-then-positive-j : goal.returns-then-positive-j
returns-then-positive-j c =
    let a = c.args in
    let r = c.rules in
    smaller_found (plain_only a.positive.now) c.requires.grown.0 c.minus-beyond.ensures c.subsets.invariant.1 (omega arith)
    (model-all a.positive.now _ r.j c.if-positive-j.true r.invariant.2)
