-- The loops over names, masks, rules and pairs: each takes a step once a turn and hands on its cursor. Assumes nothing.
use Prim.Native.Nat.{ℕ, suc, ◌+◌, ◌-◌, ◌≤◌, ◌<◌}
use native.Mathlib.Omega.{arith}
use native.Mathlib.Numerals.{add-one}
use mathlib.Core.Path.{◌≡◌, sym, ap, subst, ◌∙◌}
use mathlib.Core.List.{List, [], ◌∷◌, ◌++◌}
use Rattle.semantics.specs.Definitions.Reading.{Reading, field, times}
use Rattle.sheet.specs.declared.steps.Cursor.{Cursor}
use Rattle.answers.specs.declared.refusal.Refusal.{Refusal}
use Rattle.std.specs.Prelude.{Err}
use Rattle.sheet.specs.Steps.{Field, Got, field_of}
use Rattle.semantics.specs.Theorems.Turns.{starts, goes_on, stops, is_done}
use Rattle.sheet.proofs.Laws.{was_field, was_refused}

pub record Loop (A : Type 0) : Type 0 where
  pub step : List A → ℕ → Reading A
  pub turns : ℕ
  pub first : Cursor
  -- what i turns have read, and where they stand
  pub earlier : ℕ → List A
  pub cursor : ℕ → Cursor
  pub none : earlier 0 ≡ []
  pub start : first ≡ cursor 0
  -- what turn i of the code answers, from its cursor
  pub number : ℕ → A → ℕ
  pub next : ℕ → Cursor → A → ℕ → Cursor
  pub turn : (i : ℕ) (x : A) (at : ℕ) → step (earlier i) (cursor i).at ≡ field x at
      → (next i (cursor i) x at ≡ cursor (suc i)) × (at ≡ (cursor (suc i)).at) × (earlier (suc i) ≡ earlier i ++ x ∷ [])
  -- what the loop answers
  pub whole : ℕ
  pub last : List A → ℕ → Cursor
  pub end : last (earlier turns) (cursor turns).at ≡ cursor turns

module _ {A : Type 0} (l : Loop A) where
  abbrev reading : Reading (List A)
  reading = times l.turns [] l.step l.first.at

  abbrev answer : Field
  answer = field_of (λ _. l.whole) l.last reading

  -- the code is at c after i turns
  pub record Reached (i : ℕ) (c : Cursor) : Type 0 where
    pub few : i ≤ l.turns
    pub stands : c ≡ l.cursor i
    pub left : reading ≡ times (l.turns - i) (l.earlier i) l.step c.at

  pub entered : Reached 0 l.first
  entered = record { few = omega arith; stands = l.start; left = starts l.step l.turns l.first.at ∙ rw l.none }

  -- a turn of the code, from the cursor c
  module _ {i : ℕ} {c : Cursor} (reached : Reached i c) (h : i < l.turns) {r : Reading A} (same : r ≡ l.step (l.earlier i) c.at) {f : Field}
      (answered : f ≡ field_of (l.number i) (l.next i c) r) where
    pub refuses : {q : Refusal} → f ≡ Err q → f ≡ answer
    refuses told =
        was_refused (l.number i) (l.next i c) r answered (λ _ _ e. sym (ap (field_of (λ _. l.whole) l.last) (stops l.step l.turns i c.at (l.earlier i) reached.left h (sym same ∙ e)))) told

    pub turned : {v : ℕ} {c' : Cursor} → f ≡ Got v c' → Reached (i + 1) c'
    turned {v} {c'} told =
        let (x, at, e, _, s) = was_field (l.number i) (l.next i c) r answered told in
        let read = sym same ∙ e in
        let (a, b, d) = l.turn i x at (subst (λ z. l.step (l.earlier i) z.at ≡ field x at) reached.stands read) in
        let stands = s ∙ subst (λ z. l.next i z x at ≡ l.cursor (suc i)) (sym reached.stands) a in
        let place : at ≡ c'.at = b ∙ ap (λ z. z.at) (sym stands) in
        let left = goes_on l.step l.turns i c.at (l.earlier i) reached.left h read in
        subst (λ j. Reached j c') (sym (add-one i)) (record { few = omega arith; stands = stands; left = left ∙ rw (add-one, d, place) })

  pub finished : {i : ℕ} {c : Cursor} → Reached i c → l.turns ≤ i → Got l.whole c ≡ answer
  finished {i} {c} r h =
      let same : i ≡ l.turns = omega (arith, r.few) in
      let stands : c ≡ l.cursor l.turns = r.stands ∙ rw same in
      sym (ap (field_of (λ _. l.whole) l.last) (is_done l.step l.turns i c.at (l.earlier i) r.left h) ∙ rw (same, stands, l.end))
