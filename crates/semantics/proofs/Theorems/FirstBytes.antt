-- K7: "The program reads up to 1,237 bytes, since the longest sheet is 1,236.": the first bytes decide, since more bytes than the longest sheet has
-- are refused within its length, whatever follows. Assumes nothing.
use Rattle.std.specs.Prelude.{ℕ, ◌≡◌, List, length, take, drop}
use Rattle.std.proofs.Common.{sym, ap, ◌∙◌, ⊎_elim, arith, take-append-drop, length-drop, take_all, length-take-le}
use Rattle.sets.specs.Decides.{decided, dec_le}
use Rattle.semantics.specs.Definitions.Sheet.{sections}
use Rattle.semantics.specs.Definitions.Check.{opened, with_few_negations}
use Rattle.semantics.specs.Definitions.Program.{most_read}
use Rattle.semantics.proofs.Theorems.Following.{long_same}

pub first_bytes_decide : (s : List ℕ) → opened (take most_read s) ≡ opened s
unfolding opened
first_bytes_decide s =
    ⊎_elim
    (λ few. ap (λ z. with_few_negations (sections z)) (take_all most_read s few))
    (λ many.
    let long = length-take-le most_read s (omega arith) in
    let more = drop most_read s in
    ap with_few_negations (sym (long_same (take most_read s) more (omega (arith, length-drop most_read s)) (omega arith)) ∙ ap sections (take-append-drop most_read s)))
    (decided (dec_le (length s) most_read))
