-- `text::names::put_name` meets its contract: a name that is there, after a space. Assumes nothing.
use native.Mathlib.Omega.{arith}
use Prim.Native.Nat.{◌+◌, ◌-◌, ◌≤◌}
use mathlib.Core.Path.{◌≡◌, sym, ap, ◌∙◌}
use mathlib.Core.List.{◌∷◌}
use lib.ListN.{length, take, drop}
use Rattle.semantics.specs.Definitions.Sheet.{byte_at, longest_name}
use Rattle.semantics.specs.Fields.{name_from, after_name}
use Rattle.text.proofs.Append.{and_then, same_text}
use Rattle.text.proofs.Named.{name_there}
use Rattle.text.proofs.names.put_name.Goals as goal

pub returns-clause-appended : goal.returns-clause-appended
returns-clause-appended c =
    let a = c.args in
    let s = a.s.now in
    let n = c.byte-n.ensures.0 in
    let from = a.place + 1 in
    let few : byte_at s a.place ≤ longest_name = omega (arith, n, c.if-n-gt12.false) in
    let there : after_name s a.place ≤ length s = omega (arith, n, c.if-s-end.false) in
    let size : from + c.byte-n.result - from ≡ byte_at s a.place = omega (arith, n) in
    let text : take (from + c.byte-n.result - from) (drop from s) ≡ name_from s a.place = ap (λ m. take m (drop from s)) size in
    same_text (ap (λ z. 32 ∷ z) text ∙ sym (name_there s a.place few there)) (and_then c.put-a.ensures c.put.ensures)
