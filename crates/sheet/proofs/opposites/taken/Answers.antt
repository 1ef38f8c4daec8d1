-- `sheet::opposites::taken` meets its contract. Assumes nothing.
use Rattle.std.proofs.Common.{◌≡◌, ◌+◌, ◌-◌, ◌∙◌, arith}
use Rattle.semantics.specs.Fields.{bytes_from}
use Rattle.sheet.proofs.Compared.{any-some}
use Rattle.sheet.proofs.opposites.taken.Goals as goal

pub returns : goal.returns
returns c =
    let a = c.args in
    let n : a.from + a.n - a.from ≡ a.n = omega arith in
    c.contains.ensures.value ∙ rw (n, any-some a.atom (bytes_from a.s.now a.n a.from))
