-- A refusal of a sheet has a number from 1 to 7 or 15, but not 7 while the sections are read, and none but 1 to 5 while names and rules are; and a
-- place that is at most the length of "the longest sheet". Assumes nothing.
use Prim.Native.Nat.{ℕ, zero, suc, ◌+◌, ◌*◌, ◌^◌, ◌≤◌}
use Rattle.std.specs.Prelude.{◌≡◌, refl, Bool, true, false, not, ltb, eqb, length}
use Rattle.std.proofs.Common.{subst, inl, inr, leb-true, leb-false}
use mathlib.Core.List.{List, [], ◌∷◌, ◌++◌}
use Rattle.std.proofs.Math.Nat.{suc-mul}
use native.Mathlib.Omega.{arith}
use Rattle.std.proofs.Math.Dec.{leb}
use Rattle.sets.specs.Lists.{null, some, same_list}
use Rattle.semantics.specs.Definitions.Reading.{Reading, field, refused, ◌then◌, require, times}
use Rattle.semantics.specs.Definitions.Sheet.{Opposites, atoms, good_pair, byte_at, word_at, between, present, count_at, name_byte, name_byte_at, name_at, mask_at, rule_at, pair_from, pair_at, front, pairs_at, sections, most_atoms, most_rules, most_pairs, longest_name, longest_sheet}
use Rattle.semantics.specs.Definitions.Setting.{k}
use Rattle.semantics.specs.Definitions.Check.{most_negations, setting, opened}
use Rattle.semantics.specs.Theorems.Names.{dec_between}
use Rattle.semantics.proofs.Theorems.Fields.{count_field}
use Rattle.semantics.specs.Theorems.Places.{SheetRefusal, OneToFive, Within}

-- what both layouts begin with
abbrev longest_front : ℕ
longest_front = 2 + (1 + longest_name) * most_atoms + 16 * most_rules

-- Numbers N, 1 to 5 among them.
module _ (N : ℕ → Type 0) (small : (number : ℕ) → OneToFive number → N number) where
  weaken : {A : Type 0} (r : Reading A) (b c : ℕ) → b ≤ c → Within N b r → Within N c r
  weaken (field v n) b c l h = omega arith
  weaken (refused i p) b c l h = (omega arith, h.1)

  module _ {A : Type 0} where
    require_in : (ok : Bool) (i p b : ℕ) (rest : Reading A) → N i → p ≤ b → (ok ≡ true → Within N b rest) → Within N b (require ok i p rest)
    require_in true i p b rest n l h = h refl
    require_in false i p b rest n l h = (l, n)

    present_in : (s : List ℕ) (at n b : ℕ) (rest : Reading A) → at + n ≤ b → (at + n ≤ length s → Within N b rest) → Within N b (present s at n rest)
    present_in s at n b rest l h = go (leb (at + n) (length s)) refl
      where
        go : (t : Bool) → leb (at + n) (length s) ≡ t → Within N b (require t 1 (length s) rest)
        go true e = h (leb-true (at + n) (length s) e)
        go false e = let f = leb-false (at + n) (length s) e in (omega arith, small 1 (omega arith))

    then_in : {B : Type 0} (r : Reading A) (rest : A → ℕ → Reading B) (b c : ℕ) → b ≤ c → Within N b r
        → ((v : A) (n : ℕ) → r ≡ field v n → n ≤ b → Within N c (rest v n)) → Within N c (r then rest)
    then_in (field v n) rest b c l h f = f v n refl h
    then_in (refused i p) rest b c l h f = (omega arith, h.1)

    -- a step of at most w bytes, n times
    times_in : (step : List A → ℕ → Reading A) (w : ℕ) → ((vs : List A) (at : ℕ) → Within N (at + w) (step vs at))
        → (n : ℕ) (vs : List A) (at : ℕ) → Within N (at + n * w) (times n vs step at)
    unfolding times
    times_in step w each zero vs at = omega arith
    times_in step w each (suc n) vs at =
        then_in (step vs at) _ (at + w) (at + suc n * w) (omega (arith, suc-mul n w)) (each vs at)
        (λ v next e l. weaken (times n (vs ++ v ∷ []) step next) (next + n * w) (at + suc n * w) (omega (arith, suc-mul n w))
        (times_in step w each n (vs ++ v ∷ []) next))

  -- refusal 7, after the reading
  checked_in : {A : Type 0} (r : Reading A) (passed : A → Bool) (b : ℕ) → N 7 → Within N b r
      → Within N b (r then λ value next. require (passed value) 7 0 (field value next))
  checked_in (field v n) passed b seven h = require_in (passed v) 7 0 b (field v n) seven (omega arith) (λ _. h)
  checked_in (refused i p) passed b seven h = h

  module _ (s : List ℕ) where
    count_in : (limit at : ℕ) → Within N (at + 1) (count_at s limit at)
    unfolding count_at
    count_in limit at =
        present_in s at 1 (at + 1) _ (omega arith) (λ _.
        require_in (leb (byte_at s at) limit) 2 at (at + 1) (field (byte_at s at) (at + 1)) (small 2 (omega arith)) (omega arith) (λ _. omega arith))

    name_byte_in : (earlier : List ℕ) (at : ℕ) → Within N (at + 1) (name_byte_at s earlier at)
    unfolding name_byte_at
    name_byte_in earlier at =
        require_in (name_byte (null earlier) (byte_at s at)) 3 at (at + 1) (field (byte_at s at) (at + 1)) (small 3 (omega arith)) (omega arith) (λ _. omega arith)

    name_in : (earlier : List (List ℕ)) (at : ℕ) → Within N (at + (1 + longest_name)) (name_at s earlier at)
    unfolding name_at
    name_in earlier at =
        present_in s at 1 (at + (1 + longest_name)) _ (omega arith) (λ _.
        require_in (between 1 longest_name (byte_at s at)) 3 at (at + (1 + longest_name)) _ (small 3 (omega arith)) (omega arith) (λ t.
        let few = ((dec_between 1 longest_name (byte_at s at)).yes t).1 in
        present_in s (at + 1) (byte_at s at) (at + (1 + longest_name)) _ (omega arith) (λ _.
        then_in (times (byte_at s at) [] (name_byte_at s) (at + 1)) _ (at + 1 + byte_at s at * 1) (at + (1 + longest_name)) (omega arith)
        (times_in (name_byte_at s) 1 name_byte_in (byte_at s at) [] (at + 1)) (λ v next _ l.
        require_in (not (some (same_list v) earlier)) 4 at (at + (1 + longest_name)) (field v next) (small 4 (omega arith)) (omega arith) (λ _. omega arith)))))

    mask_in_lem : (atoms at : ℕ) → Within N (at + 2) (mask_at s atoms at)
    unfolding mask_at
    mask_in_lem atoms at = require_in (ltb (word_at s at) (2 ^ atoms)) 5 at (at + 2) (field (word_at s at) (at + 2)) (small 5 (omega arith)) (omega arith) (λ _. omega arith)

    rule_in_lem : (atoms at : ℕ) → Within N (at + 16) (rule_at s atoms at)
    unfolding rule_at
    rule_in_lem atoms at = present_in s at 16 (at + 16) _ (omega arith) (λ _. times_in (λ _. mask_at s atoms) 2 (λ _. mask_in_lem atoms) 8 [] at)

    front_in : Within N longest_front (front s)
    unfolding front
    front_in =
        then_in (count_at s most_atoms 0) _ 1 longest_front (omega arith) (count_in most_atoms 0) (λ n at₁ e₁ l₁.
        let (_, _, few, _) = count_field s most_atoms 0 n at₁ e₁ in
        then_in (times n [] (name_at s) at₁) _ (at₁ + n * (1 + longest_name)) longest_front (omega arith) (times_in (name_at s) (1 + longest_name) name_in n [] at₁) (λ _ at₂ e₂ l₂.
        then_in (count_at s most_rules at₂) _ (at₂ + 1) longest_front (omega arith) (count_in most_rules at₂) (λ m at₃ e₃ l₃.
        let (_, _, short, _) = count_field s most_rules at₂ m at₃ e₃ in
        then_in (times m [] (λ _. rule_at s n) at₃) _ (at₃ + m * 16) longest_front (omega arith)
        (times_in (λ _. rule_at s n) 16 (λ _. rule_in_lem n) m [] at₃) (λ _ end e₄ l₄. omega arith))))

    module _ (fifteen : N 15) where
      pair_in : (atoms : ℕ) (earlier : List Opposites) (at : ℕ) → Within N (at + 2) (pair_at s atoms earlier at)
      unfolding pair_at
      pair_in atoms earlier at =
          present_in s at 2 (at + 2) _ (omega arith) (λ _.
          require_in (good_pair atoms earlier (pair_from s at)) 15 at (at + 2) (field (pair_from s at) (at + 2)) fifteen (omega arith) (λ _. omega arith))

      pairs_in : (atoms at : ℕ) → Within N (at + 1 + 2 * most_pairs) (pairs_at s atoms at)
      unfolding pairs_at
      pairs_in atoms at =
          then_in (count_at s most_pairs at) _ (at + 1) (at + 1 + 2 * most_pairs) (omega arith) (count_in most_pairs at) (λ n next e l.
          let (_, _, few, _) = count_field s most_pairs at n next e in
          weaken (times n [] (pair_at s atoms) next) (next + n * 2) (at + 1 + 2 * most_pairs) (omega arith) (times_in (pair_at s atoms) 2 (pair_in atoms) n [] next))

      sections_in : N 6 → Within N longest_sheet (sections s)
      unfolding sections
      sections_in six =
          then_in (front s) _ longest_front longest_sheet (omega arith) front_in (λ x at e l.
          then_in (pairs_at s (atoms x) at) _ (at + 1 + 2 * most_pairs) longest_sheet (omega arith) (pairs_in (atoms x) at) (λ pairs end e₂ l₂.
          require_in (eqb end (length s)) 6 end longest_sheet _ six (omega arith) (λ _. omega arith)))

-- 1 to 5 are among these
up_to : (most : ℕ) → 5 ≤ most → (number : ℕ) → OneToFive number → SheetRefusal most number
up_to most l number h = inl (omega arith)

module _ (s : List ℕ) where
  pub opened_in : Within (SheetRefusal 7) longest_sheet (opened s)
  unfolding opened
  opened_in =
      checked_in (SheetRefusal 7) (up_to 7 (omega arith)) (sections s) (λ x. leb (k (setting x)) most_negations) longest_sheet (inl (omega arith))
      (sections_in (SheetRefusal 7) (up_to 7 (omega arith)) s (inr refl) (inl (omega arith)))

  pub refusal_place : (number place : ℕ) → opened s ≡ refused number place → place ≤ longest_sheet
  refusal_place number place e = (subst (Within (SheetRefusal 7) longest_sheet) e opened_in).0

  pub refusal_number : (number place : ℕ) → opened s ≡ refused number place → SheetRefusal 7 number
  refusal_number number place e = (subst (Within (SheetRefusal 7) longest_sheet) e opened_in).1

  pub sections_within : Within (SheetRefusal 6) longest_sheet (sections s)
  sections_within = sections_in (SheetRefusal 6) (up_to 6 (omega arith)) s (inr refl) (inl (omega arith))

  pub sections_number : (number place : ℕ) → sections s ≡ refused number place → SheetRefusal 6 number
  sections_number number place e = (subst (Within (SheetRefusal 6) longest_sheet) e sections_within).1

  -- names and rules are refused with 1 to 5 only
  pub front_number : (number place : ℕ) → front s ≡ refused number place → OneToFive number
  front_number number place e = (subst (Within OneToFive longest_front) e (front_in OneToFive (λ _ h. h) s)).1
