-- `sheet::open` meets its contract. Assumes nothing.
use borrow.Author.Tests.{le-leb, lt-leb}
use lib.ListN.{length}
use mathlib.Core.List.{List}
use mathlib.Core.Path.{◌≡◌, ap, ap₂, ◌∙◌}
use native.Mathlib.Omega.{arith}
use Prim.Native.Nat.{ℕ, ◌+◌, ◌≤◌, ◌<◌}
use Rattle.sets.specs.Sets.{size}
use Rattle.sets.specs.Size.{size_below}
use Rattle.semantics.specs.Definitions.Reading.{field}
use Rattle.semantics.specs.Definitions.Sheet.{Sheet, atoms, sections}
use Rattle.semantics.specs.Definitions.Setting.{k}
use Rattle.semantics.specs.Definitions.Check.{setting, opened}
use Rattle.semantics.specs.Fields.{k_atoms, m_atoms}
use Rattle.semantics.proofs.Theorems.Accepted.{sections-read, masks_below}
use Rattle.semantics.specs.Theorems.Subjects.{k_atoms_below, m_atoms_below, k-size}
use Rattle.sheet.specs.declared.steps.Cursor.{Cursor}
use Rattle.sheet.specs.declared.Contents.{Contents}
use Rattle.answers.specs.declared.refusal.Refusal.{Refusal}
use Rattle.std.specs.Prelude.{Ok, Err}
use Rattle.sheet.specs.Steps.{Field, Got, field_of, cursor_of}
use Rattle.sheet.specs.Refused.{refusal_of}
use Rattle.sheet.specs.Opened.{opened_of}
use Rattle.sheet.proofs.Laws.{was_field, refused_so}
use Rattle.std.proofs.lemmas.Result.{err_from_is_err_and}
use Rattle.sheet.proofs.open.Goals as goal

abbrev kept : Cursor → ℕ → Contents
kept c n = record {
  atoms = c.atoms;
  rules = c.rules;
  pairs = c.pairs;
  negations = n;
  rules_at = c.rules_at;
  k_atoms = c.k_atoms;
  m_atoms = c.m_atoms;
}

module _ (s : List ℕ) {f : Field} (answered : f ≡ field_of (λ x. length x.rules) cursor_of (sections s)) where
  refused_early : {q : Refusal} → f ≡ Err q → Err q ≡ opened_of (opened s)
  unfolding opened
  refused_early = refused_so (λ x. length x.rules) cursor_of (sections s) answered (λ q. Err q ≡ opened_of (opened s)) (λ _ _ e. rw e)

  module _ {v : ℕ} {c : Cursor} (told : f ≡ Got v c) where
    read : (x : Sheet) × (end : ℕ) × (sections s ≡ field x end) × (v ≡ length x.rules) × (c ≡ cursor_of x end)
    read = was_field (λ x. length x.rules) cursor_of (sections s) answered told

    -- the code's two counts
    module _ {i j : ℕ} (ei : i ≡ size c.k_atoms) (ej : j ≡ size c.m_atoms) where
      small : (i ≤ 15) × (j ≤ 15)
      small =
          let (x, end, e, _, p) = read in
          let below = masks_below s x end e in
          let few = (sections-read s x end e).front_read.few_atoms in
          let ki = size_below (atoms x) (k_atoms x.rules) (k_atoms_below (atoms x) x.rules below) in
          let mj = size_below (atoms x) (m_atoms x.rules) (m_atoms_below (atoms x) x.rules below) in
          (omega (arith, ei ∙ ap (λ z. size z.k_atoms) p), omega (arith, ej ∙ ap (λ z. size z.m_atoms) p))

      -- the sheet that was read, and its k
      counted : (x : Sheet) × (end : ℕ) × (sections s ≡ field x end) × (c ≡ cursor_of x end) × (i + j ≡ k (setting x))
      counted =
          let (x, end, e, _, p) = read in
          let q = k-size (atoms x) x.rules (masks_below s x end e) in
          (x, end, e, p, omega (arith, ei ∙ ap (λ z. size z.k_atoms) p, ej ∙ ap (λ z. size z.m_atoms) p))

      too_many : 12 < i + j → Err (refusal_of 7 0) ≡ opened_of (opened s)
      unfolding opened
      too_many h =
          let (x, end, e, _, q) = counted in
          rw (e, lt-leb (k (setting x)) 12 (omega arith))

      few : i + j ≤ 12 → Ok (kept c (i + j)) ≡ opened_of (opened s)
      unfolding opened
      few h =
          let (x, end, e, p, q) = counted in
          ap₂ (λ z n. Ok (kept z n)) p q
          ∙ rw (e, le-leb (k (setting x)) 12 (omega arith))

pub overflow_add-k : goal.overflow_add-k
overflow_add-k c =
    let h = small c.args.s.now c.sections.ensures c.in_ok-c.was c.size.ensures c.size-2.ensures in
    omega (arith, h.0, h.1)

pub returns-then-k-gt12 : goal.returns-then-k-gt12
returns-then-k-gt12 c = too_many c.args.s.now c.sections.ensures c.in_ok-c.was c.size.ensures c.size-2.ensures c.if-k-gt12.true

pub returns : goal.returns
returns c = few c.args.s.now c.sections.ensures c.in_ok-c.was c.size.ensures c.size-2.ensures c.if-k-gt12.false

pub returns-in_err-c : goal.returns-in_err-c
returns-in_err-c c =
    let p = err_from_is_err_and c.from_residual.result c.from_residual.ensures.1 in
    rw (p.1, p.2) (refused_early c.args.s.now c.sections.ensures c.in_err-c.was)
