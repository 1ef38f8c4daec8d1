-- `views::each_view` is safe and ends. Assumes nothing.
use native.Mathlib.Omega.{arith}
use Rattle.semantics.proofs.Theorems.Records.{guess_below}
use Rattle.views.proofs.each_view.Goals as goal

pub view_at-requires : goal.view_at-requires
view_at-requires c =
    let (s, h, o) = c.requires.sheet_value in
    let i = c.loop-i.i in
    record {
      at_in_bounds = omega (arith, c.requires.n_in_bounds, c.loop-i-test.true);
      guess_of = (s, record { of = h; below = guess_below o i c.loop-i-test.true });
    }
