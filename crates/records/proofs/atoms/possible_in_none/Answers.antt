-- `records::atoms::possible_in_none` meets its contract. Assumes nothing.
use Prim.Native.Nat.{◌+◌, ◌*◌}
use mathlib.Core.Path.{◌≡◌, refl}
use mathlib.Core.Bool.{true, false, not}
use native.Mathlib.Omega.{arith}
use lib.ListN.{get_or}
use borrow.Author.Rules.{rules}
use borrow.Author.Tests.{tests}
use Rattle.std.proofs.lemmas.Iterator.{cases_from_all, YieldsList-from_range}
use Rattle.sets.specs.Sets.{◌∈?◌}
use Rattle.records.proofs.Placed.{every_by_numbers}
use Rattle.records.proofs.atoms.possible_in_none.Goals as goal

pub returns : goal.returns
returns c =
    let a = c.args in
    every_by_numbers (λ v. not (a.atom ∈? v.possible)) a.records.now a.n _
    (cases_from_all _ _ _ (λ j. (not (a.atom ∈? get_or a.records.now (4 * j + 2) 0)) ≡ true) (λ j. (not (a.atom ∈? get_or a.records.now (4 * j + 2) 0)) ≡ false) c.all.ensures.ran (YieldsList-from_range 0 a.n a.n refl (omega arith))
    (λ j q k. search (rules, tests)) (λ j q k. search (rules, tests)))
