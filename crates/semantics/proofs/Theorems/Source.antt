-- A source with one check more, and the sheet as a source: exactly when each is accepted and when it is refused; and the limits of a source.
-- Assumes nothing.
use Rattle.std.specs.Prelude.{ℕ, ◌≤◌, ◌≡◌, Bool, true, cond, List, ◌↔◌, ◌⊎◌, ltb}
use Rattle.std.proofs.Common.{sym, ap, ◌∙◌, subst, inl, inr, ⊎_elim, arith, ltb-true, ltb-false, lt-ltb, le-ltb}
use Rattle.semantics.specs.Definitions.Reading.{field, refused}
use Rattle.semantics.specs.Definitions.Sheet.{Sheet, most_atoms}
use Rattle.semantics.specs.Definitions.Setting.{Setting, k}
use Rattle.semantics.specs.Definitions.Check.{most_negations, setting, opened, said, of_sheet}
use Rattle.semantics.specs.Definitions.Returned.{Returned, accepted, refusal, read}
use Rattle.semantics.specs.Definitions.Calls.{provided, provided_below}
use Rattle.semantics.proofs.Theorems.Accepted.{accepted_read}
use Rattle.semantics.proofs.Theorems.Places.{refusal_place, refusal_number}
use Rattle.semantics.specs.Theorems.Returned.{then_accepted, then_refused, check-passed, check_failed, answer_accepted, answer_refused, read_accepted, read_refused}
use Rattle.semantics.specs.Theorems.Source.{BelowOf, Bounded}
use Rattle.semantics.specs.Theorems.Source as defined

-- ---- one check more
module _ (passed : Setting → Bool) (number place : ℕ) where
  abbrev checked : Setting → Returned Setting
  checked s = cond (passed s) (accepted s) (refusal number place)

  module _ (from : Returned Setting) where
    pub provided_accepted : (s : Setting) → provided passed number place from ≡ accepted s ↔ ((from ≡ accepted s) × (passed s ≡ true))
    provided_accepted s = (
      λ e. let (t, d, f) = then_accepted from checked e in
          let (t-passed, same) = check-passed t number place (passed t) f in (d ∙ ap accepted same, ap passed (sym same) ∙ t-passed),
      λ p. rw (p.0, p.1),
    )

    -- the check is not passed, and these are the number and place of its refusal
    abbrev NotProvided : (m q : ℕ) → Type 0
    NotProvided = defined.NotProvided passed number place from

    -- refused: what comes before it is, or the check is not passed
    pub provided_refused : (m q : ℕ) → provided passed number place from ≡ refusal m q ↔ ((from ≡ refusal m q) ⊎ NotProvided m q)
    provided_refused m q =
        let both = then_refused from checked m q in (
          λ e. ⊎_elim inl (λ (s, d, f). let (b, n, p) = check_failed s number place (passed s) f in inr (s, d, b, n, p)) (both.0 e),
          ⊎_elim (λ e. both.1 (inl e)) (λ (s, d, f, n, p). rw (d, f, n, p)),
        )

-- ---- a number that has to be below a bound
module _ (bound : Setting → ℕ) (number : ℕ) (from : Returned Setting) (n : ℕ) where
  pub below_accepted : (s : Setting) → provided_below bound number from n ≡ accepted s ↔ BelowOf bound from n s
  below_accepted s =
      let both = provided_accepted (λ s. ltb n (bound s)) number 0 from s in (
        λ e. let (d, t) = both.0 e in record { of = d; below = ltb-true n (bound s) t },
        λ h. both.1 (h.of, lt-ltb n (bound s) h.below),
      )

  -- the number is not below the bound
  abbrev NotBelow : (m place : ℕ) → Type 0
  NotBelow = defined.NotBelow bound number from n

  pub below_refused : (m place : ℕ) → provided_below bound number from n ≡ refusal m place ↔ ((from ≡ refusal m place) ⊎ NotBelow m place)
  below_refused m place =
      let both = provided_refused (λ s. ltb n (bound s)) number 0 from m place in (
        λ e. ⊎_elim inl (λ (s, d, f, e, q). inr (s, d, ltb-false n (bound s) f, e, q)) (both.0 e),
        ⊎_elim (λ e. both.1 (inl e)) (λ (s, d, l, e, q). both.1 (inr (s, d, le-ltb n (bound s) l, e, q))),
      )

-- ---- the sheet
module _ {A : Type 0} (of : Sheet → A) (sheet : List ℕ) where
  pub said_accepted : (v : A) → said of sheet ≡ accepted v ↔ ((x : Sheet) × (end : ℕ) × (opened sheet ≡ field x end) × (v ≡ of x))
  said_accepted v = (
    λ e. let (x, d, f) = answer_accepted of (read (opened sheet)) e in
        let (end, o) = read_accepted (opened sheet) d in (x, end, o, sym f),
    λ (x, end, d, f). rw (d, f),
  )

  pub said_refused : (number place : ℕ) → said of sheet ≡ refusal number place ↔ (opened sheet ≡ refused number place)
  said_refused number place = (λ e. read_refused (opened sheet) (answer_refused of (read (opened sheet)) e), λ e. rw e)

module _ (sheet : List ℕ) where
  -- the bytes are an accepted sheet, and s is its setting
  pub sheet_accepted : (s : Setting) → of_sheet sheet ≡ accepted s ↔ ((x : Sheet) × (end : ℕ) × (opened sheet ≡ field x end) × (s ≡ setting x))
  unfolding of_sheet
  sheet_accepted = said_accepted setting sheet

  pub sheet_refused : (number place : ℕ) → of_sheet sheet ≡ refusal number place ↔ (opened sheet ≡ refused number place)
  unfolding of_sheet
  sheet_refused = said_refused setting sheet

-- ---- limits
pub sheet_bounded : (sheet : List ℕ) → Bounded (of_sheet sheet)
sheet_bounded sheet = record {
  few_atoms = λ s e.
      let (x, end, d, same) = (sheet_accepted sheet s).0 e in
      subst (λ z. z.atoms ≤ most_atoms) (sym same) (accepted_read sheet x end d).0.front_read.few_atoms;
  few_negations = λ s e.
      let (x, end, d, same) = (sheet_accepted sheet s).0 e in
      subst (λ z. k z ≤ most_negations) (sym same) (accepted_read sheet x end d).1;
  told_apart = λ number place e.
      let d = (sheet_refused sheet number place).0 e in
      let small = refusal_place sheet number place d in
      (⊎_elim (λ l. l.0) (λ e. omega arith) (refusal_number sheet number place d), omega arith);
}
