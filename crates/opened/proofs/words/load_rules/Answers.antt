-- `opened::words::load_rules` meets its contract. Assumes nothing.
use mathlib.Core.Path.{refl, ◌∙◌}
use native.Mathlib.Omega.{arith}
use Rattle.opened.specs.Fetched.{fetched_place, fetched_all}
use Rattle.opened.proofs.Loaded.{no_rules, one-rule, all_rules}
use Rattle.opened.proofs.words.load_rules.Goals as goal

pub loop-place-init : goal.loop-place-init
loop-place-init c =
    let a = c.args in
    (refl, omega arith, no_rules a.s.now a.rules_at a.out.now)

pub fetch-requires : goal.fetch-requires
fetch-requires c = c.requires.0

pub shape_of-out : goal.shape_of-out
shape_of-out c = c.loop-place.invariant.0

pub returns : goal.returns
returns c =
    let a = c.args in
    let l = c.loop-place in
    let all = fetched_all a.s.now a.rules_at a.rules c.requires.0 l.number c.in_default.ensures refl in
    record {
      out_len_unchanged = l.invariant.0;
      rules_load = all_rules a.s.now a.rules_at l.out l.number l.invariant.2 a.rules c.requires.0 (omega (arith, l.invariant.1));
    }

-- the rule that was fetched

pub load_rule-requires : goal.load_rule-requires
load_rule-requires c =
    let (few, _, there) = fetched_place c.args.s.now c.args.rules_at c.args.rules c.requires.0 c.loop-place.number c.in-Some.ensures refl in
    (there, omega (arith, c.loop-place.invariant.0, c.requires.1))

pub overflow_add-number : goal.overflow_add-number
overflow_add-number c = omega (arith, (fetched_place c.args.s.now c.args.rules_at c.args.rules c.requires.0 c.loop-place.number c.in-Some.ensures refl).0)

pub loop-place-smaller : goal.loop-place-smaller
loop-place-smaller c = omega (arith, (fetched_place c.args.s.now c.args.rules_at c.args.rules c.requires.0 c.loop-place.number c.in-Some.ensures refl).0)

pub loop-place-preserved : goal.loop-place-preserved
loop-place-preserved c =
    let a = c.args in
    let l = c.loop-place in
    let (few, there, _) = fetched_place c.args.s.now c.args.rules_at c.args.rules c.requires.0 c.loop-place.number c.in-Some.ensures refl in
    let r = c.load_rule in (
      r.ensures.out_len_unchanged ∙ l.invariant.0,
      omega arith,
      one-rule a.s.now a.rules_at l.out l.number l.invariant.2 r.new.out r.ensures.out_unchanged there r.ensures.n_after,
    )
