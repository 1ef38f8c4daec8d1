-- `opened::words::load_rules_in` meets its contract. Assumes nothing.
use mathlib.Core.Path.{refl, ◌∙◌}
use native.Mathlib.Omega.{arith}
use Rattle.opened.specs.Fetched.{few_rules, fetched_place, fetched_all}
use Rattle.opened.proofs.Loaded.{none_loaded, one_number, all_numbers}
use Rattle.opened.proofs.words.load_rules_in.Goals as goal

pub loop-place-init : goal.loop-place-init
loop-place-init c =
    let a = c.args in
    (refl, omega arith, omega arith, none_loaded a.s.now a.rules_at a.set a.out.now)

pub fetch-requires : goal.fetch-requires
fetch-requires c = c.requires.0

pub shape_of-out : goal.shape_of-out
shape_of-out c = c.loop-place.invariant.0

pub returns : goal.returns
returns c =
    let a = c.args in
    let l = c.loop-place in
    let all = fetched_all a.s.now a.rules_at a.rules c.requires.0 l.number c.in_default.ensures refl in
    record {
      out_len_unchanged = l.invariant.0;
      upper_bound = omega (arith, l.invariant.1, l.invariant.2);
      rules_load_only = all_numbers a.s.now a.rules_at a.set l.out l.n l.number l.invariant.3 a.rules c.requires.0 (omega (arith, l.invariant.2));
    }

-- the rule that was fetched

pub has-requires : goal.has-requires
has-requires c =
    let a = c.args in
    omega (arith, (fetched_place c.args.s.now c.args.rules_at c.args.rules c.requires.0 c.loop-place.number c.in-Some.ensures refl).0, few_rules a.s.now a.rules_at a.rules c.requires.0)

pub load_where-n-requires : goal.load_where-n-requires
load_where-n-requires c =
    let (few, _, there) = fetched_place c.args.s.now c.args.rules_at c.args.rules c.requires.0 c.loop-place.number c.in-Some.ensures refl in
    let inv = c.loop-place.invariant in
    (there, omega (arith, inv.0, inv.1, c.requires.1))

pub overflow_add-number : goal.overflow_add-number
overflow_add-number c = omega (arith, (fetched_place c.args.s.now c.args.rules_at c.args.rules c.requires.0 c.loop-place.number c.in-Some.ensures refl).0)

pub loop-place-smaller : goal.loop-place-smaller
loop-place-smaller c = omega (arith, (fetched_place c.args.s.now c.args.rules_at c.args.rules c.requires.0 c.loop-place.number c.in-Some.ensures refl).0)

pub loop-place-preserved : goal.loop-place-preserved
loop-place-preserved c =
    let a = c.args in
    let l = c.loop-place in
    let (few, there, _) = fetched_place c.args.s.now c.args.rules_at c.args.rules c.requires.0 c.loop-place.number c.in-Some.ensures refl in
    let w = c.load_where-n in (
      w.ensures.out_len_unchanged ∙ l.invariant.0,
      omega (arith, w.ensures.upper_bound, l.invariant.1),
      omega arith,
      one_number a.s.now a.rules_at a.set l.out l.n l.number l.invariant.3 w.new.out w.result c.has.ensures there w.ensures.result_after,
    )
