-- `sharing::serve::shares_of` meets its contract. Assumes nothing.
use mathlib.Core.List.{[], ◌∷◌}
use Rattle.sharing.proofs.serve.shares_of.Goals as goal

pub returns : goal.returns
returns c = λ i. record {
  tests = c.tests_made-tests.ensures i;
  each = c.share_of-first.ensures i ∷ c.share_of-second.ensures i ∷ c.share_of-third.ensures i ∷ c.share_of-fourth.ensures i ∷ [];
}
