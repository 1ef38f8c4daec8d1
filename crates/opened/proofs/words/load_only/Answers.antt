-- `opened::words::load_only` meets its contract. Assumes nothing.
use mathlib.Core.Path.{◌∙◌}
use native.Mathlib.Omega.{arith}
use Rattle.opened.proofs.Loaded.{held_begin, held_few, held_there, held_long, held_atoms, only_loaded}
use Rattle.opened.proofs.words.load_only.Goals as goal

pub load_rules_in-n-requires : goal.load_rules_in-n-requires
load_rules_in-n-requires c = (held_begin c.args.s.now c.requires.0, omega (arith, c.requires.1))

pub overflow_mul-x : goal.overflow_mul-x
overflow_mul-x c = omega (arith, (held_few c.args.s.now c.requires.0).0)

-- the place of the pairs is within the sheet

pub overflow_add-x : goal.overflow_add-x
overflow_add-x c = omega (arith, held_there c.args.s.now c.requires.0, held_long c.args.s.now c.requires.0)

pub overflow_add-x-2 : goal.overflow_add-x-2
overflow_add-x-2 c = omega (arith, held_there c.args.s.now c.requires.0, held_long c.args.s.now c.requires.0)

pub load_pairs-requires : goal.load_pairs-requires
load_pairs-requires c =
    let s = c.args.s.now in
    (omega (arith, held_there s c.requires.0), omega (arith, c.requires.1, c.load_rules_in-n.ensures.out_len_unchanged, c.load_rules_in-n.ensures.upper_bound), held_atoms s c.requires.0)

pub overflow_add-result : goal.overflow_add-result
overflow_add-result c = omega (arith, (held_few c.args.s.now c.requires.0).0, (held_few c.args.s.now c.requires.0).1, c.load_rules_in-n.ensures.upper_bound)

pub shape_of-out : goal.shape_of-out
shape_of-out c = c.load_pairs.ensures.out_len_unchanged ∙ c.load_rules_in-n.ensures.out_len_unchanged

pub returns : goal.returns
returns c =
    let a = c.args in
    let p = c.load_pairs in
    let r = c.load_rules_in-n in
    record {
      out_len_unchanged = p.ensures.out_len_unchanged ∙ r.ensures.out_len_unchanged;
      upper_bound = omega (arith, r.ensures.upper_bound);
      loads_only = only_loaded a.s.now c.requires.0 a.set r.new.out p.new.out r.result r.ensures.rules_load_only p.ensures.pairs_after;
    }
