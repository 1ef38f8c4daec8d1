-- Document 01, "Order and listing": the order of the guesses of k negations.
use Rattle.std.specs.Prelude.{ℕ, suc, ◌^◌, List, eqb, ltb}
use Rattle.sets.specs.Lists.{keep, flat, up_to, down_from}
use Rattle.sets.specs.Sets.{size}

-- "size falling and then number rising": sizes k down to 0, in each the guesses by rising number
unfoldable pub order : ℕ → List ℕ
order k = flat (λ j. keep (λ g. eqb (size g) j) (up_to (2 ^ k))) (down_from (suc k))

-- "for smaller k its members below 2^k are taken", of any list. Those of the order of a larger k are the order of k: Theorems/Order.antt,
-- `order-members`. No definition rests on it; the contract of the walk does.
abbrev pub members_below : ℕ → List ℕ → List ℕ
members_below k l = keep (λ g. ltb g (2 ^ k)) l
