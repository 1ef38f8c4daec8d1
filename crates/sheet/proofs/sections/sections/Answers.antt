-- `sheet::sections::sections` meets its contract. Assumes nothing.
use borrow.Author.Rules.{rules}
use borrow.Author.Tests.{eq-eqb, ne_eqb}
use lib.ListN.{length}
use mathlib.Core.List.{List, []}
use mathlib.Core.Path.{◌≡◌, sym, ap, ap₂, subst, ◌∙◌}
use Prim.Native.Nat.{ℕ}
use Rattle.semantics.specs.Definitions.Reading.{field, refused, times}
use Rattle.semantics.specs.Definitions.Sheet.{Opposites, Sheet, atoms, with_pairs, count_at, pair_at, front, pairs_at, sections}
use Rattle.semantics.specs.Theorems.Reading.{times-length}
use Rattle.sheet.specs.declared.steps.Cursor.{Cursor}
use Rattle.answers.specs.declared.refusal.Refusal.{Refusal}
use Rattle.std.specs.Prelude.{Err}
use Rattle.sheet.specs.Steps.{Field, Got, Refused, field_of, moved, cursor_of}
use Rattle.sheet.proofs.Laws.{was_field, was_refused}
use Rattle.sheet.proofs.sections.sections.Goals as goal

abbrev answer : List ℕ → Field
answer s = field_of (λ x. length x.rules) cursor_of (sections s)

-- ---- each way that the reading ends, by its steps

module _ (s : List ℕ) where
  no_front : {k p : ℕ} → front s ≡ refused k p → Refused k p ≡ answer s
  unfolding sections
  no_front e = rw e

  module _ (x : Sheet) (at : ℕ) (F : front s ≡ field x at) where
    no_count : {k p : ℕ} → count_at s 7 at ≡ refused k p → Refused k p ≡ answer s
    unfolding sections pairs_at
    no_count e = rw (F, e)

    module _ (m next : ℕ) (C : count_at s 7 at ≡ field m next) where
      no_pairs : {k p : ℕ} → times m [] (pair_at s (atoms x)) next ≡ refused k p → Refused k p ≡ answer s
      unfolding sections pairs_at
      no_pairs e = rw (F, C, e)

      module _ (pairs : List Opposites) (end : ℕ) (P : times m [] (pair_at s (atoms x)) next ≡ field pairs end) where
        over : (end ≡ length s → ⊥) → Refused 6 end ≡ answer s
        unfolding sections pairs_at
        over h = rw (F, C, P, ne_eqb end (length s) h)

        whole : end ≡ length s → Got (length x.rules) (cursor_of (with_pairs x pairs) end) ≡ answer s
        unfolding sections pairs_at
        whole h = rw (F, C, P, eq-eqb end (length s) h)

-- ---- and by the answers of the code's steps

abbrev with_pairs_lem : ℕ → Cursor → Cursor
with_pairs_lem m c = record {
  at = c.at;
  atoms = c.atoms;
  rules = c.rules;
  pairs = m;
  rules_at = c.rules_at;
  k_atoms = c.k_atoms;
  m_atoms = c.m_atoms;
}

module _ (s : List ℕ) {a : Field} (A : a ≡ field_of (λ x. length x.rules) cursor_of (front s)) where
  stop_1 : {q : Refusal} → a ≡ Err q → a ≡ answer s
  stop_1 told =
      was_refused (λ x. length x.rules) cursor_of (front s) A (λ _ _ e. no_front s e) told

  module _ {n : ℕ} {c₁ : Cursor} (ta : a ≡ Got n c₁) where
    fronted : (x : Sheet) × (at : ℕ) × (front s ≡ field x at) × (n ≡ length x.rules) × (c₁ ≡ cursor_of x at)
    fronted = was_field (λ x. length x.rules) cursor_of (front s) A ta

    module _ {b : Field} (B : b ≡ field_of (λ n. n) (λ _. moved c₁) (count_at s 7 c₁.at)) where
      count_from : (x : Sheet) (at : ℕ) → c₁ ≡ cursor_of x at → b ≡ field_of (λ n. n) (λ _. moved (cursor_of x at)) (count_at s 7 at)
      count_from x at p = subst (λ c. b ≡ field_of (λ n. n) (λ _. moved c) (count_at s 7 c.at)) p B

      stop_2 : {q : Refusal} → b ≡ Err q → b ≡ answer s
      stop_2 told =
          let (x, at, F, _, p) = fronted in
          was_refused (λ n. n) (λ _. moved (cursor_of x at)) (count_at s 7 at) (count_from x at p) (λ _ _ e. no_count s x at F e) told

      module _ {m : ℕ} {c₂ : Cursor} (tb : b ≡ Got m c₂) where
        -- the sheet so far, and where its pairs begin
        counted : (x : Sheet) × (at : ℕ) × (next : ℕ) × (front s ≡ field x at) × (n ≡ length x.rules) × (count_at s 7 at ≡ field m next)
            × (c₂ ≡ moved (cursor_of x at) next)
        counted =
            let (x, at, F, v, p) = fronted in
            let (m', next, e, w, q) = was_field (λ n. n) (λ _. moved (cursor_of x at)) (count_at s 7 at) (count_from x at p) tb in
            (x, at, next, F, v, e ∙ ap (λ z. field z next) (sym w), q)

        module _ {d : Field} (D : d ≡ field_of (λ _. m) (λ _. moved (with_pairs_lem m c₂)) (times m [] (pair_at s c₂.atoms) c₂.at)) where
          abbrev pairs-cursor : (x : Sheet) (at next : ℕ) → List Opposites → ℕ → Cursor
          pairs-cursor x at next _ = moved (with_pairs_lem m (moved (cursor_of x at) next))

          pairs-from : (x : Sheet) (at next : ℕ) → c₂ ≡ moved (cursor_of x at) next
              → d ≡ field_of (λ _. m) (pairs-cursor x at next) (times m [] (pair_at s (atoms x)) next)
          pairs-from x at next q = subst (λ c. d ≡ field_of (λ _. m) (λ _. moved (with_pairs_lem m c)) (times m [] (pair_at s c.atoms) c.at)) q D

          stop_3 : {q : Refusal} → d ≡ Err q → d ≡ answer s
          stop_3 told =
              let (x, at, next, F, _, C, q) = counted in
              was_refused (λ _. m) (pairs-cursor x at next) (times m [] (pair_at s (atoms x)) next) (pairs-from x at next q) (λ _ _ e. no_pairs s x at F m next C e) told

          module _ {v : ℕ} {c₃ : Cursor} (td : d ≡ Got v c₃) where
            over_all : (c₃.at ≡ length s → ⊥) → Refused 6 c₃.at ≡ answer s
            over_all h =
                let (x, at, next, F, _, C, q) = counted in
                let (pairs, end, P, _, r) = was_field (λ _. m) (pairs-cursor x at next) (times m [] (pair_at s (atoms x)) next) (pairs-from x at next q) td in
                let e : c₃.at ≡ end = ap (λ c. c.at) r in
                ap (Refused 6) e ∙ over s x at F m next C pairs end P (λ z. h (e ∙ z))

            accepted : c₃.at ≡ length s → Got n c₃ ≡ answer s
            accepted h =
                let (x, at, next, F, rules, C, q) = counted in
                let (pairs, end, P, _, r) = was_field (λ _. m) (pairs-cursor x at next) (times m [] (pair_at s (atoms x)) next) (pairs-from x at next q) td in
                let e : end ≡ c₃.at = ap (λ c. c.at) (sym r) in
                let many = times-length (pair_at s (atoms x)) m next P in
                ap₂ Got rules (r ∙ ap (λ k. moved (with_pairs_lem k (moved (cursor_of x at) next)) end) (sym many))
                ∙ whole s x at F m next C pairs end P (e ∙ h)

pub returns-in_default : goal.returns-in_default
returns-in_default c = stop_1 c.args.s.now c.front-a.ensures c.in_default.is

pub returns-in_default-b : goal.returns-in_default-b
returns-in_default-b c = stop_2 c.args.s.now c.front-a.ensures c.in-Ok.is
    c.count-b.ensures c.in_default-b.is

pub returns-in_default-c : goal.returns-in_default-c
returns-in_default-c c = stop_3 c.args.s.now c.front-a.ensures c.in-Ok.is
    c.count-b.ensures c.in-Ok-b.is
    c.pairs-c.ensures c.in_default-c.is

pub returns-then-end-s : goal.returns-then-end-s
returns-then-end-s c = accepted c.args.s.now c.front-a.ensures c.in-Ok.is
    c.count-b.ensures c.in-Ok-b.is
    c.pairs-c.ensures c.in-Ok-c.is c.if-end-s.true

pub returns : goal.returns
returns c = over_all c.args.s.now c.front-a.ensures c.in-Ok.is
    c.count-b.ensures c.in-Ok-b.is
    c.pairs-c.ensures c.in-Ok-c.is c.if-end-s.false
