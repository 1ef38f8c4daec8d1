-- `sheet::rules::mask` meets its contract. Assumes nothing.
use borrow.Author.Tests.{le-leb, lt-leb, lt-ltb, le-ltb}
use mathlib.Core.List.{List}
use mathlib.Core.Path.{◌≡◌}
use native.Mathlib.Omega.{arith}
use Prim.Native.Nat.{ℕ, ◌+◌, ◌^◌, ◌≤◌, ◌<◌}
use Rattle.sets.specs.Sets.{◌∪◌}
use Rattle.semantics.specs.Definitions.Sheet.{word_at, mask_at}
use Rattle.sheet.specs.declared.steps.Cursor.{Cursor}
use Rattle.sheet.specs.Steps.{Field, Got, Refused, field_of, moved, with_sets, noted_mask}
use Rattle.sheet.proofs.rules.mask.Goals as goal

module _ (s : List ℕ) (i : ℕ) (c : Cursor) (w : ℕ) (read : w ≡ word_at s c.at) where
  abbrev answer : Field
  answer = field_of (λ w. w) (λ w. moved (noted_mask i c w)) (mask_at s c.atoms c.at)

  over : 2 ^ c.atoms ≤ w → Refused 5 c.at ≡ answer
  unfolding mask_at
  over h = rw (← read, le-ltb _ _ h)

  module _ (h : w < 2 ^ c.atoms) where
    under-k : 4 ≤ i → i ≤ 5 → Got w (with_sets (moved c (c.at + 2)) (c.k_atoms ∪ w) c.m_atoms) ≡ answer
    unfolding mask_at
    under-k l u = rw (← read, lt-ltb _ _ h, le-leb 4 i l, le-leb i 5 u, lt-leb 6 i (omega arith))

    under-m : 6 ≤ i → i ≤ 7 → Got w (with_sets (moved c (c.at + 2)) c.k_atoms (c.m_atoms ∪ w)) ≡ answer
    unfolding mask_at
    under-m l u = rw (← read, lt-ltb _ _ h, le-leb 4 i (omega arith), lt-leb i 5 (omega arith), le-leb 6 i l, le-leb i 7 u)

    below : i < 4 → Got w (moved c (c.at + 2)) ≡ answer
    unfolding mask_at
    below u = rw (← read, lt-ltb _ _ h, lt-leb 4 i u, lt-leb 6 i (omega arith))

    above : 7 < i → Got w (moved c (c.at + 2)) ≡ answer
    unfolding mask_at
    above l = rw (← read, lt-ltb _ _ h, le-leb 4 i (omega arith), lt-leb i 5 (omega arith), le-leb 6 i (omega arith), lt-leb i 7 l)

pub returns-then-power-w : goal.returns-then-power-w
returns-then-power-w c = let a = c.args in over a.s.now a.i a.c _ c.word-w.ensures (omega arith)

pub returns-in-4-to-5 : goal.returns-in-4-to-5
returns-in-4-to-5 c =
    let a = c.args in
    under-k a.s.now a.i a.c _ c.word-w.ensures (omega arith) (omega arith) (omega arith)

pub returns-in-6-to-7 : goal.returns-in-6-to-7
returns-in-6-to-7 c =
    let a = c.args in
    under-m a.s.now a.i a.c _ c.word-w.ensures (omega arith) (omega arith) (omega arith)

pub returns-in_default : goal.returns-in_default
returns-in_default c =
    let a = c.args in
    below a.s.now a.i a.c _ c.word-w.ensures (omega arith) (omega arith)

pub returns-in_default-2 : goal.returns-in_default-2
returns-in_default-2 c =
    let a = c.args in
    above a.s.now a.i a.c _ c.word-w.ensures (omega arith) (omega arith)
