-- `sheet::sections::front` meets its contract. Assumes nothing.
use borrow.Author.Rules.{rules}
use lib.ListN.{length}
use mathlib.Core.List.{List, []}
use mathlib.Core.Path.{◌≡◌, refl, sym, ap, ◌∙◌}
use native.Mathlib.Omega.{arith}
use Prim.Native.Nat.{ℕ, ◌≤◌}
use Rattle.semantics.specs.Definitions.Reading.{Reading, field, times}
use Rattle.semantics.specs.Definitions.Sheet.{count_at, name_at, rule_at, front}
use Rattle.semantics.specs.Theorems.Reading.{times-length}
use Rattle.semantics.proofs.Theorems.Fields.{count_field}
use Rattle.sheet.specs.declared.steps.Cursor.{Cursor}
use Rattle.answers.specs.declared.refusal.Refusal.{Refusal}
use Rattle.std.specs.Prelude.{Ok, Err}
use Rattle.sheet.specs.Steps.{Field, Got, field_of, moved, noted, cursor_of}
use Rattle.sheet.proofs.Laws.{was_field, was_refused}
use Rattle.sheet.proofs.sections.front.Goals as goal

abbrev before : (atoms at : ℕ) → Cursor
before n at = record { at = at; atoms = n; rules = 0; pairs = 0; rules_at = 0; k_atoms = 0; m_atoms = 0 }

abbrev rules-from : (atoms rules at : ℕ) → Cursor
rules-from n m at = record { at = at; atoms = n; rules = m; pairs = 0; rules_at = at; k_atoms = 0; m_atoms = 0 }

-- a step that only moves the cursor: its reading's next place is the cursor's

module _ {A : Type 0} (number : A → ℕ) (c : Cursor) (r : Reading A) {f : Field} (answered : f ≡ field_of number (λ _. moved c) r) where
  was_moved : {v : ℕ} {c' : Cursor} → f ≡ Got v c' → (x : A) × (r ≡ field x c'.at) × (v ≡ number x) × (c' ≡ moved c c'.at)
  was_moved {v} {c'} told =
      let (x, next, e, n, p) = was_field number (λ _. moved c) r answered told in
      let at : next ≡ c'.at = ap (λ z. z.at) (sym p) in
      (x, e ∙ ap (field x) at, n, p ∙ ap (moved c) at)

abbrev with_atoms : ℕ → Cursor → Cursor
with_atoms n c = record { at = c.at; atoms = n; rules = c.rules; pairs = c.pairs; rules_at = c.rules_at; k_atoms = c.k_atoms; m_atoms = c.m_atoms }

abbrev with_rules_lem : ℕ → Cursor → Cursor
with_rules_lem m c = record { at = c.at; atoms = c.atoms; rules = m; pairs = c.pairs; rules_at = c.at; k_atoms = c.k_atoms; m_atoms = c.m_atoms }

-- each way that the reading ends, section by section, by the answers of the code's steps

module _ (s : List ℕ) {a : Field} (A : a ≡ field_of (λ n. n) (λ _. moved (before 0 0)) (count_at s 15 0)) where
  abbrev answer : Field
  answer = field_of (λ x. length x.rules) cursor_of (front s)

  stop_1 : {q : Refusal} → a ≡ Err q → a ≡ answer
  unfolding front
  stop_1 told =
      was_refused (λ n. n) (λ _. moved (before 0 0)) (count_at s 15 0) A (λ _ _ e. rw e) told

  module _ {n : ℕ} {c₁ : Cursor} (ta : a ≡ Got n c₁) where
    counted : (count_at s 15 0 ≡ field n c₁.at) × (c₁ ≡ before 0 c₁.at)
    counted =
        let (x, e, v, p) = was_moved (λ n. n) (before 0 0) (count_at s 15 0) A ta in
        (e ∙ ap (λ z. field z c₁.at) (sym v), p)

    abbrev names-step : Reading (List (List ℕ))
    names-step = times n [] (name_at s) c₁.at

    module _ {b : Field} (B : b ≡ field_of (λ _. n) (λ _. moved (with_atoms n c₁)) names-step) where
      stop_2 : {q : Refusal} → b ≡ Err q → b ≡ answer
      unfolding front
      stop_2 told =
          was_refused (λ _. n) (λ _. moved (with_atoms n c₁)) names-step B (λ _ _ e. rw (counted.0, e)) told

      module _ {v₂ : ℕ} {c₂ : Cursor} (tb : b ≡ Got v₂ c₂) where
        named : (names : List (List ℕ)) × (names-step ≡ field names c₂.at) × (c₂ ≡ before n c₂.at)
        named =
            let (names, e, _, p) = was_moved (λ _. n) (with_atoms n c₁) names-step B tb in
            (names, e, p ∙ ap (λ z. moved (with_atoms n z) c₂.at) counted.1)

        module _ {d : Field} (D : d ≡ field_of (λ n. n) (λ _. moved c₂) (count_at s 64 c₂.at)) where
          stop_3 : {q : Refusal} → d ≡ Err q → d ≡ answer
          unfolding front
          stop_3 told =
              let (_, names, _) = named in
              was_refused (λ n. n) (λ _. moved c₂) (count_at s 64 c₂.at) D (λ _ _ e. rw (counted.0, names, e)) told

          module _ {m : ℕ} {c₃ : Cursor} (td : d ≡ Got m c₃) where
            rule_count : (count_at s 64 c₂.at ≡ field m c₃.at) × (c₃ ≡ before n c₃.at)
            rule_count =
                let (x, e, v, p) = was_moved (λ n. n) c₂ (count_at s 64 c₂.at) D td in
                (e ∙ ap (λ z. field z c₃.at) (sym v), p ∙ ap (λ z. moved z c₃.at) named.2)

            few : c₃.atoms ≤ 15
            few =
                let (_, _, h, _) = count_field s 15 0 n c₁.at counted.0 in
                omega (arith, ap (λ z. z.atoms) rule_count.1)

            abbrev rules-cursor : List (List ℕ) → ℕ → Cursor
            rules-cursor rules = moved (noted (rules-from n m c₃.at) rules)

            abbrev rules-step : Reading (List (List ℕ))
            rules-step = times m [] (λ _. rule_at s n) c₃.at

            module _ {f : Field}
                (F : f ≡ field_of (λ _. m) (λ rules. moved (noted (with_rules_lem m c₃) rules)) (times m [] (λ _. rule_at s c₃.atoms) c₃.at)) where
              of_atoms : f ≡ field_of (λ _. m) rules-cursor rules-step
              of_atoms =
                  F ∙ ap (λ z. field_of (λ _. m) (λ rules. moved (noted (with_rules_lem m z) rules)) (times m [] (λ _. rule_at s z.atoms) z.at))
                  rule_count.1

              stop_4 : {q : Refusal} → f ≡ Err q → f ≡ answer
              unfolding front
              stop_4 told =
                  let (_, names, _) = named in
                  was_refused (λ _. m) rules-cursor rules-step of_atoms (λ _ _ e. rw (counted.0, names, rule_count.0, e)) told

              read_whole : (rules : List (List ℕ)) (end : ℕ) → rules-step ≡ field rules end → Got m (rules-cursor rules end) ≡ answer
              unfolding front
              read_whole rules end e =
                  let (_, names, _) = named in
                  let ln = times-length (name_at s) n c₁.at names in
                  let lm = times-length (λ _. rule_at s n) m c₃.at e in
                  rw (counted.0, names, rule_count.0, e, ln, lm)

              done : {v : ℕ} {c₄ : Cursor} → f ≡ Got v c₄ → f ≡ answer
              done told =
                  let (rules, end, e, v, p) = was_field (λ _. m) rules-cursor rules-step of_atoms told in
                  told ∙ (λ i. Got (v i) (p i)) ∙ read_whole rules end e

              ends : f ≡ answer
              ends = go f refl
                where
                  go : (q : Field) → f ≡ q → f ≡ answer
                  go (Ok x) told = done told
                  go (Err r) told = stop_4 told

pub returns-in_default : goal.returns-in_default
returns-in_default c = stop_1 c.args.s.now c.count-a.ensures c.in_default.is

pub returns-in_default-b : goal.returns-in_default-b
returns-in_default-b c = stop_2 c.args.s.now c.count-a.ensures c.in-Ok.is
    c.names-b.ensures c.in_default-b.is

pub returns-in_default-c : goal.returns-in_default-c
returns-in_default-c c = stop_3 c.args.s.now c.count-a.ensures c.in-Ok.is
    c.names-b.ensures c.in-Ok-b.is
    c.count-c.ensures c.in_default-c.is

pub rules-requires : goal.rules-requires
rules-requires c = few c.args.s.now c.count-a.ensures c.in-Ok.is
    c.names-b.ensures c.in-Ok-b.is
    c.count-c.ensures c.in-Ok-c.is

pub returns : goal.returns
returns c = ends c.args.s.now c.count-a.ensures c.in-Ok.is
    c.names-b.ensures c.in-Ok-b.is
    c.count-c.ensures c.in-Ok-c.is
    c.rules.ensures
