-- `sheet::names::same_name` meets its contract. Assumes nothing.
use Rattle.std.proofs.Common.{◌≡◌, ◌+◌, ◌-◌, ◌∙◌, arith}
use Rattle.semantics.specs.Definitions.Sheet.{byte_at}
use Rattle.sheet.proofs.Compared.{pointwise-same}
use Rattle.sheet.proofs.names.same_name.Goals as goal

pub returns : goal.returns
returns c =
    let a = c.args in
    let n : a.p + 1 + byte_at a.s.now a.p - (a.p + 1) ≡ byte_at a.s.now a.p = omega arith in
    let m : a.q + 1 + byte_at a.s.now a.q - (a.q + 1) ≡ byte_at a.s.now a.q = omega arith in
    c.eq.ensures ∙ rw (n, m, pointwise-same)
