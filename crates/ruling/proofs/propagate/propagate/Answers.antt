-- `ruling::propagate::propagate` meets its contract. Assumes nothing.
use mathlib.Core.Path.{sym, subst, ◌∙◌}
use native.Mathlib.Omega.{arith}
use lib.Dec.{eqb}
use lib.ListN.{get_or-replicate}
use lib.Pointwise.{pointwise, bytes_decides}
use Rattle.sets.specs.Decides.{dec_self, dec_and}
use Rattle.ruling.specs.Reached.{Reached, start, more, one_more, early, settled_all}
use Rattle.ruling.proofs.propagate.propagate.Goals as goal

pub loop-i-init : goal.loop-i-init
loop-i-init c = start (record { word = λ {a} l. get_or-replicate 16 a 0 0 l }) (record { word = λ {a} l. get_or-replicate 16 a 0 0 l })

pub loop-i-preserved : goal.loop-i-preserved
loop-i-preserved c =
    let a = c.args in
    let l = c.loop-i in
    one_more a.words.now a.rules a.n a.assumed.now.unknown a.assumed.now.maybe l.invariant c.advance-next.ensures

pub returns : goal.returns
returns c =
    let l = c.loop-i in
    let a = c.args in
    settled_all a.words.now a.rules a.n a.assumed.now.unknown a.assumed.now.maybe (omega arith) l.invariant

pub returns-then-eq : goal.returns-then-eq
returns-then-eq c =
    let a = c.args in
    let l = c.loop-i in
    let next = c.advance-next.result in
    let reached = Reached a.words.now a.rules a.n a.assumed.now.unknown a.assumed.now.maybe l.i in
    let both = dec_and (dec_self (pointwise eqb next.t l.pair.t)) (dec_self (pointwise eqb next.f l.pair.f)) in
    let (t, f) = both.yes (sym c.eq.ensures ∙ c.if-eq.true) in
    let same_t = (bytes_decides next.t l.pair.t).0 t in
    let same_f = (bytes_decides next.f l.pair.f).0 f in
    early (subst (λ z. reached z next.f) (sym same_t) (subst (λ z. reached l.pair.t z) (sym same_f) l.invariant)) (more l.invariant c.advance-next.ensures)
