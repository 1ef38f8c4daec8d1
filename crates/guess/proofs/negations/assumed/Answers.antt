-- `guess::negations::assumed` meets its contract. Assumes nothing.
use Prim.Native.Nat.{ℕ}
use native.Mathlib.Omega.{arith}
use mathlib.Core.Path.{◌≡◌, refl}
use Rattle.sets.specs.Sets.{set_of}
use Rattle.semantics.specs.Definitions.Guesses.{not_known, may_be}
use Rattle.guess.specs.declared.outline.Outline.{Outline}
use Rattle.guess.specs.declared.negations.Assumptions.{Assumptions}
use Rattle.guess.specs.Negations.{assumed_by}
use Rattle.guess.proofs.Turns.{in_guess, at_first, at_next, unknown_next, maybe_next}
use Rattle.guess.proofs.negations.assumed.Goals as goal

done : (x : Outline) (g a : ℕ) → a ≡ x.atoms → {u p : ℕ} → u ≡ set_of (in_guess x not_known g) a → p ≡ set_of (in_guess x may_be g) a
    → ◌≡◌ {A = Assumptions} (record { unknown = u; maybe = p }) (assumed_by x g)
done x g a e d f = rw (d, f, e)

pub loop-a-init : goal.loop-a-init
unfolding set_of
loop-a-init c = (at_first _, refl, refl)

pub loop-a-preserved : goal.loop-a-preserved
loop-a-preserved c =
    let l = c.loop-a in
    let h = c.loop-a-test.true in
    let a = c.args in
    let k = c.has-k.ensures in
    let n = c.from-j.ensures in
    let m = c.has-m.ensures in
    let n' = c.from-j-in-loop-a.ensures in
    let i = c.has-k_in.ensures in
    let i' = c.has-m_in.ensures in (
      at_next a.x l.invariant.0 h k n m n' c.requires,
      unknown_next a.x l.invariant.0 h k n m n' a.guess i i' l.invariant.1 c.include-unknown.ensures,
      maybe_next a.x l.invariant.0 h k n m n' a.guess i i' l.invariant.2 c.include-maybe.ensures,
    )

pub returns : goal.returns
returns c =
    let l = c.loop-a in
    let a = c.args in
    done a.x a.guess l.a (omega (arith, l.invariant.0.few, c.loop-a-test.false)) l.invariant.1 l.invariant.2
