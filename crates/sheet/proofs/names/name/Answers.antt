-- `sheet::names::name` meets its contract. Assumes nothing.
use borrow.Author.Tests.{le-leb, lt-leb, leb-true}
use lib.Dec.{leb}
use lib.ListN.{length}
use mathlib.Core.Bool.{Bool, true, false}
use mathlib.Core.List.{List, []}
use mathlib.Core.Path.{◌≡◌, sym, ap, ◌∙◌}
use native.Mathlib.Omega.{arith}
use Prim.Native.Nat.{ℕ, ◌+◌, ◌≤◌, ◌<◌}
use Rattle.sets.specs.Lists.{some, same_list}
use Rattle.semantics.specs.Definitions.Reading.{Reading, field, times}
use Rattle.semantics.specs.Definitions.Sheet.{byte_at, name_byte_at, name_at}
use Rattle.semantics.specs.Fields.{name_from, names_from}
use Rattle.semantics.proofs.Theorems.Fields.{name_bytes_field}
use Rattle.sheet.specs.declared.steps.Cursor.{Cursor}
use Rattle.answers.specs.declared.refusal.Refusal.{Refusal}
use Rattle.std.specs.Prelude.{Err}
use Rattle.sheet.specs.Steps.{Field, Got, Refused, field_of, moved}
use Rattle.sheet.proofs.Laws.{there, was_field, was_refused}
use Rattle.sheet.proofs.names.name.Goals as goal

module _ (s : List ℕ) (i from : ℕ) (c : Cursor) where
  abbrev at : ℕ
  at = c.at

  abbrev size : ℕ
  size = byte_at s at

  abbrev earlier : List (List ℕ)
  earlier = names_from s i from

  abbrev answer : Field
  answer = field_of (λ _. i) (λ _. moved c) (name_at s earlier at)

  abbrev bytes : Reading (List ℕ)
  bytes = times size [] (name_byte_at s) (at + 1)

  module _ {a : Bool} (length-there : a ≡ leb (at + 1) (length s)) where
    no_length : a ≡ false → Refused 1 (length s) ≡ answer
    unfolding name_at
    no_length e = rw (sym length-there ∙ e)

    module _ (yes-length : a ≡ true) where
      too_short : size < 1 → Refused 3 at ≡ answer
      unfolding name_at
      too_short h = rw (sym length-there ∙ yes-length, lt-leb _ _ h)

      too_long : 1 ≤ size → 12 < size → Refused 3 at ≡ answer
      unfolding name_at
      too_long l h = rw (sym length-there ∙ yes-length, le-leb _ _ l, lt-leb _ _ h)

      module _ (low : 1 ≤ size) (high : size ≤ 12) {b : Bool} (bytes-there : b ≡ leb (at + 1 + size) (length s)) where
        cut_off : b ≡ false → Refused 1 (length s) ≡ answer
        unfolding name_at
        cut_off e = rw (sym length-there ∙ yes-length, le-leb _ _ low, le-leb _ _ high, sym bytes-there ∙ e)

        module _ (yes-bytes : b ≡ true) {f : Field} (judged : f ≡ field_of (λ _. size) (λ _. moved c) bytes) where
          bad_byte : {q : Refusal} → f ≡ Err q → f ≡ answer
          unfolding name_at
          bad_byte told =
              was_refused (λ _. size) (λ _. moved c) bytes judged (λ _ _ e. rw (sym length-there ∙ yes-length, le-leb _ _ low, le-leb _ _ high, sym bytes-there ∙ yes-bytes, e)) told

          module _ {v : ℕ} {next : Cursor} (told : f ≡ Got v next) {d : Bool} (compared : d ≡ some (same_list (name_from s at)) earlier) where
            read : (end : ℕ) × (bytes ≡ field (name_from s at) end) × (next ≡ moved c end)
            read =
                let (name, end, e, _, p) = was_field (λ _. size) (λ _. moved c) bytes judged told in
                let (same, _) = name_bytes_field s size (at + 1) end name e (leb-true _ _ (sym bytes-there ∙ yes-bytes)) in
                (end, e ∙ ap (λ n. field n end) same, p)

            known : d ≡ true → Refused 4 at ≡ answer
            unfolding name_at
            known e =
                let (_, r, _) = read in
                rw (sym length-there ∙ yes-length, le-leb _ _ low, le-leb _ _ high, sym bytes-there ∙ yes-bytes, r, sym compared ∙ e)

            new : d ≡ false → Got i next ≡ answer
            unfolding name_at
            new e =
                let (_, r, p) = read in
                ap (Got i) p ∙ rw (sym length-there ∙ yes-length, le-leb _ _ low, le-leb _ _ high, sym bytes-there ∙ yes-bytes, r, sym compared ∙ e)

pub bounds-s-at : goal.bounds-s-at
bounds-s-at c =
    let a = c.args in
    omega (arith, there a.c.at 1 (length a.s.now) c.present.ensures c.if-present.true)

pub returns-then-n-lt1 : goal.returns-then-n-lt1
returns-then-n-lt1 c =
    let a = c.args in
    too_short a.s.now a.i a.from a.c c.present.ensures c.if-present.true c.if-n-lt1.true

pub returns-then-n-gt12 : goal.returns-then-n-gt12
returns-then-n-gt12 c =
    let a = c.args in
    too_long a.s.now a.i a.from a.c c.present.ensures c.if-present.true c.if-n-lt1.false c.if-n-gt12.true

pub overflow_add-at : goal.overflow_add-at
overflow_add-at c =
    let a = c.args in
    omega (arith, there a.c.at 1 (length a.s.now) c.present.ensures c.if-present.true)

pub overflow_add-inside : goal.overflow_add-inside
overflow_add-inside c =
    let a = c.args in
    omega (arith, there a.c.at 1 (length a.s.now) c.present.ensures c.if-present.true)

pub name_bytes-f-requires : goal.name_bytes-f-requires
name_bytes-f-requires c =
    let a = c.args in
    there (a.c.at + 1) (byte_at a.s.now a.c.at) (length a.s.now) c.present-then-present.ensures c.if-present-2.true

pub returns-in_default : goal.returns-in_default
returns-in_default c =
    let a = c.args in
    bad_byte a.s.now a.i a.from a.c c.present.ensures c.if-present.true c.if-n-lt1.false c.if-n-gt12.false
    c.present-then-present.ensures c.if-present-2.true c.name_bytes-f.ensures c.in_default.is

pub repeated-requires : goal.repeated-requires
repeated-requires c =
    let a = c.args in
    let whole = there (a.c.at + 1) (byte_at a.s.now a.c.at) (length a.s.now) c.present-then-present.ensures c.if-present-2.true in
    (omega (arith, c.requires), whole)

pub returns-then-repeated : goal.returns-then-repeated
returns-then-repeated c =
    let a = c.args in
    known a.s.now a.i a.from a.c c.present.ensures c.if-present.true c.if-n-lt1.false c.if-n-gt12.false
    c.present-then-present.ensures c.if-present-2.true c.name_bytes-f.ensures c.in-Ok.is
    c.repeated.ensures c.if-repeated.true

pub returns-then-present-2 : goal.returns-then-present-2
returns-then-present-2 c =
    let a = c.args in
    new a.s.now a.i a.from a.c c.present.ensures c.if-present.true c.if-n-lt1.false c.if-n-gt12.false
    c.present-then-present.ensures c.if-present-2.true c.name_bytes-f.ensures c.in-Ok.is
    c.repeated.ensures c.if-repeated.false

pub returns-else-present-2 : goal.returns-else-present-2
returns-else-present-2 c =
    let a = c.args in
    cut_off a.s.now a.i a.from a.c c.present.ensures c.if-present.true c.if-n-lt1.false c.if-n-gt12.false c.present-then-present.ensures c.if-present-2.false

pub returns-else-present : goal.returns-else-present
returns-else-present c =
    let a = c.args in
    no_length a.s.now a.i a.from a.c c.present.ensures c.if-present.false
