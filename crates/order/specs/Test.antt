-- A test that decides whether a list is the order of the guesses of k negations. Assumes nothing.
use Rattle.std.specs.Prelude.{ℕ, suc, ◌^◌, ◌<◌, ◌≡◌, Bool, ◌&&◌, ◌||◌, List, eqb, ltb, length}
use Rattle.std.specs.Int.Count.{ones_in}
use Rattle.sets.specs.Decides.{Decides, dec_iff, dec_and, dec_and_then, dec_or, dec_eq, dec_le}
use Rattle.sets.specs.Lists.{every, dec_every}
use Rattle.sets.specs.Pairwise.{neighbours, dec_neighbours}
use Rattle.sets.specs.Size.{size_in}
use Rattle.semantics.specs.Definitions.Order.{order}
use Rattle.semantics.specs.Theorems.Order.{Before}
use Rattle.semantics.proofs.Theorems.Order.{before_trans, order-counted}

-- "size falling and then number rising": g comes before h, their sizes counted in k digits
abbrev before? : ℕ → ℕ → ℕ → Bool
before? k g h = ltb (ones_in k h) (ones_in k g) || (eqb (ones_in k g) (ones_in k h) && ltb g h)

-- as many entries as there are guesses of k negations, each of them such a guess, each before the next
unfoldable pub in_order : ℕ → List ℕ → Bool
in_order k l = eqb (length l) (2 ^ k) && (every (λ g. ltb g (2 ^ k)) l && neighbours (before? k) l)

dec_before : (k g h : ℕ) → g < 2 ^ k → h < 2 ^ k → Decides (Before g h) (before? k g h)
dec_before k g h p q =
    rw (size_in k g p, size_in k h q) (dec_or (dec_le (suc _) _) (dec_and (dec_eq _ _) (dec_le (suc g) h)))

-- a list passes exactly when it is the order
pub dec_order : (k : ℕ) (l : List ℕ) → Decides (l ≡ order k) (in_order k l)
unfolding in_order
dec_order k l =
    dec_iff (order-counted k l)
    (dec_and (dec_eq (length l) (2 ^ k))
    (dec_and_then (dec_every (λ g. ltb g (2 ^ k)) (λ g. g < 2 ^ k) l (λ g _. dec_le (suc g) (2 ^ k)))
    (λ b. dec_neighbours Before before_trans (before? k) l (λ g h m n. dec_before k g h (b g m) (b h n)))))
