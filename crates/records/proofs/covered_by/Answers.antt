-- `records::covered_by` meets its contract. The loop has passed only records that do not cover the guess. Assumes nothing.
use Prim.Native.Nat.{ℕ, suc, ◌*◌, ◌≤◌, ◌<◌}
use mathlib.Core.Path.{◌≡◌, sym, ◌∙◌, subst}
use mathlib.Core.Bool.{true, false, true≢false}
use mathlib.Core.List.{List}
use mathlib.Core.Logic.{⊎_elim}
use native.Mathlib.Omega.{arith}
use native.Mathlib.Nat.{eq-or-lt_of_le, le_of_suc-le-suc, lt_of_not-le}
use borrow.Author.Count.{below_more}
use lib.Dec.{ltb}
use lib.ListN.{get_or}
use Rattle.sets.specs.Decides.{decided, is_false, dec_one, dec_iff, dec_le}
use Rattle.sets.specs.Lists.{some}
use Rattle.sets.specs.Sets.{◌⊆?◌, ◌⊂?◌, size}
use Rattle.records.specs.Records.{LargerFirst, views_in}
use Rattle.records.proofs.Placed.{dec_covers}
use Rattle.records.proofs.Covers.{covered, not_within, not_larger}
use Rattle.records.proofs.covered_by.Goals as goal

-- from a record of the guess's level or below on there is no larger one
later_level : (ws : List ℕ) (n : ℕ) → LargerFirst ws n → (g i j : ℕ) → j < suc i → i < n → size (get_or ws (4 * j) 0) ≤ size g → size (get_or ws (4 * i) 0) ≤ size g
later_level ws n f g i j h l level =
    ⊎_elim (λ e. subst (λ z. size (get_or ws (4 * z) 0) ≤ size g) e level) (λ b. omega (arith, level, f j i b l)) (eq-or-lt_of_le (le_of_suc-le-suc h))

-- no record before j covers the guess
module _ (ws : List ℕ) (n : ℕ) (f : LargerFirst ws n) (g j : ℕ) (before : (i : ℕ) → i < j → (g ⊂? get_or ws (4 * i) 0) ≡ false) where
  abbrev other : ℕ
  other = get_or ws (4 * j) 0

  -- where record j is of its level or below, none does
  none_covers : size other ≤ size g → (i : ℕ) × (i < n) × ((g ⊂? get_or ws (4 * i) 0) ≡ true) → ⊥
  none_covers level (i, h, t) =
      ⊎_elim (λ below. true≢false (sym t ∙ before i below))
      (λ beyond. not_larger g (get_or ws (4 * i) 0) (later_level ws n f g i j (lt_of_not-le beyond) h level) t)
      (decided (dec_le (suc i) j))

  -- where the guess is within it, one does exactly if it is larger
  covers_by_size : j < n → (g ⊆? other) ≡ true → ltb (size g) (size other) ≡ some (λ v. g ⊂? v.guess) (views_in ws n)
  covers_by_size h t =
      dec_one (dec_le (suc (size g)) (size other))
      (dec_iff (
        λ p. ⊎_elim (λ l. l) (λ l. absurd (none_covers (omega (arith, lt_of_not-le l)) p)) (decided (dec_le (suc (size g)) (size other))),
        λ l. (j, h, covered g other t l),
      ) (dec_covers ws n g))

pub returns-then-subset : goal.returns-then-subset
returns-then-subset c =
    let l = c.loop-j in
    let a = c.args in
    rw (c.size.ensures, c.size-level.ensures) (covers_by_size a.records.now a.n c.requires.1 a.guess l.j l.invariant.1
    c.loop-j-test.true (sym c.subset.ensures ∙ c.if-subset.true))

pub returns-then-size-level : goal.returns-then-size-level
returns-then-size-level c =
    let l = c.loop-j in
    let a = c.args in
    let level : size (get_or a.records.now (4 * l.j) 0) ≤ size a.guess = omega (arith, c.if-size-level.true, c.size-in-loop-j.ensures, c.size-level.ensures) in
    sym (is_false (dec_covers a.records.now a.n a.guess) (none_covers a.records.now a.n c.requires.1 a.guess l.j l.invariant.1 level))

pub loop-j-preserved : goal.loop-j-preserved
loop-j-preserved c =
    let l = c.loop-j in
    let a = c.args in
    (omega arith, below_more _ _ l.invariant.1 (not_within a.guess (get_or a.records.now (4 * l.j) 0) (sym c.subset.ensures ∙ c.if-subset.false)))

pub returns : goal.returns
returns c =
    let a = c.args in
    sym (is_false (dec_covers a.records.now a.n a.guess) (λ p. let (j, h, t) = p in true≢false (sym t ∙ c.loop-j.invariant.1 j (omega (arith, h, c.loop-j-test.false)))))
