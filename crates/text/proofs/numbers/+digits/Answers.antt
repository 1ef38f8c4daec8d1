-- `text::numbers::digits` meets its contract: by one digit, and by those of a tenth and one more. Assumes nothing.
use Prim.Native.Nat.{ℕ, ◌+◌, ◌/◌, ◌%◌, ◌≤◌, ◌<◌}
use mathlib.Core.Path.{◌≡◌, sym, ap, ◌∙◌}
use mathlib.Core.List.{[], ◌∷◌}
use native.Mathlib.Omega.{arith}
use lib.ListN.{length, length-append}
use Rattle.semantics.specs.Definitions.Program.{decimal}
use Rattle.semantics.specs.Theorems.Decimal.{decimal_small, decimal_large, decimal-some}
use Rattle.text.proofs.Append.{one_byte, and_then, same_text}
use Rattle.text.proofs.numbers.+digits.Goals as goal

-- one digit more
long : (n : ℕ) → 10 ≤ n → length (decimal n) ≡ length (decimal (n / 10)) + 1
long n h = ap length (decimal_large n h) ∙ length-append (decimal (n / 10)) ((48 + n % 10) ∷ [])

pub bounds-out-at : goal.bounds-out-at
bounds-out-at t c = omega (arith, c.requires, decimal-some c.args.n)

pub returns-then-n-lt10 : goal.returns-then-n-lt10
returns-then-n-lt10 t c =
    let a = c.args in
    same_text (sym (decimal_small a.n c.if-n-lt10.true))
    (one_byte a.at (48 + a.n) a.out.now (omega (arith, c.requires, decimal-some a.n)))

pub digits-last-requires : goal.digits-last-requires
digits-last-requires t c = (omega (arith, c.decreases), omega (arith, c.requires, long c.args.n c.if-n-lt10.false))

pub bounds-out-last : goal.bounds-out-last
bounds-out-last t c =
    let d = c.digits-last in
    omega (arith, d.ensures.next, c.requires, long c.args.n c.if-n-lt10.false)

pub returns : goal.returns
returns t c =
    let n = c.args.n in
    let d = c.digits-last in
    let high = c.if-n-lt10.false in
    let room : d.result < length d.new.out = omega (arith, d.ensures.next, d.auto.out, c.requires, long n high) in
    same_text (sym (decimal_large n high)) (and_then d.ensures (one_byte d.result (48 + n % 10) d.new.out room))
