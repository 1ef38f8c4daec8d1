-- Document 02, K7: "All calls now read this layout; a two-section sheet gives 1, and the ten known sheets and the kiln example gain a last byte 0."
-- A sheet that document 01 accepts gives 1; with a last byte 0 it is accepted, says the same, and has the setting that document 01 defines for it.
-- Assumes nothing.
use Rattle.std.specs.Prelude.{ℕ, ◌+◌, ◌≡◌, eqb}
use Rattle.std.proofs.Math.Path.{refl, sym, ap, subst}
use Rattle.std.proofs.Common.{ap₂, ◌∙◌, arith}
use Rattle.std.proofs.Math.Bool.{false}
use mathlib.Core.List.{List, [], ◌∷◌, ◌++◌}
use borrow.Author.Tests.{eqb-true, eq-eqb, lt-leb}
use Rattle.std.proofs.Math.Dec.{leb}
use Rattle.std.proofs.Math.ListN.{length, drop, length-append}
use Rattle.std.proofs.Math.Seq.{drop-append_seam}
use Rattle.semantics.specs.Definitions.Reading.{field, refused, times}
use Rattle.semantics.specs.Definitions.Sheet.{Sheet, with_pairs, count_at, front, two_sections, pairs_at, sections, most_pairs}
use Rattle.semantics.specs.Definitions.Setting.{k}
use Rattle.semantics.specs.Definitions.Check.{most_negations, unpaired, setting, opened, opened_two_sections, of_sheet, numbers_of, check}
use Rattle.semantics.specs.Definitions.Returned.{accepted}
use Rattle.semantics.specs.Theorems.Reading.{then_is, then_field, require_is, require_field, field_same}
use Rattle.semantics.proofs.Theorems.Accepted.{front-alone}
use Rattle.semantics.specs.Theorems.Following.{Same}
use Rattle.semantics.proofs.Theorems.Following.{same-front}
use Rattle.semantics.specs.Theorems.Fitting.{Stands}
use Rattle.semantics.proofs.Theorems.Fitting.{count_is}
use Rattle.semantics.proofs.Theorems.Source.{said_accepted, sheet_accepted}
use Rattle.semantics.proofs.Theorems.Opposites.{no_pairs}

module _ (s : List ℕ) where
  -- names and rules, and nothing after them
  pub two-read : (x : Sheet) (end : ℕ) → two_sections s ≡ field x end → (front s ≡ field x end) × (end ≡ length s)
  unfolding two_sections
  two-read x end e =
      let (y, at, d, r) = then_field (front s) _ e in
      let (t, f) = require_field (eqb at (length s)) 6 at (field y at) r in
      let z : at ≡ length s = eqb-true at (length s) t in
      (d ∙ f, (field_same f).1 ∙ z)

  -- "a two-section sheet gives 1"
  pub two_sections_short : (x : Sheet) (end : ℕ) → two_sections s ≡ field x end → opened s ≡ refused 1 (length s)
  unfolding opened sections pairs_at count_at
  two_sections_short x end e =
      let (d, z) = two-read x end e in
      let short : leb (end + 1) (length s) ≡ false = lt-leb (end + 1) (length s) (omega arith) in
      rw (d, short) refl

  -- with "a last byte 0"
  abbrev with_last0 : List ℕ
  with_last0 = s ++ 0 ∷ []

  pub last_0_read : (x : Sheet) (end : ℕ) → two_sections s ≡ field x end → sections with_last0 ≡ field x (end + 1)
  unfolding sections pairs_at times
  last_0_read x end e =
      let (d, z) = two-read x end e in
      let (_, front-moved) = subst (λ r. Same s (0 ∷ []) r (front with_last0)) d (same-front s (0 ∷ [])) in
      let stands : Stands with_last0 end (0 ∷ []) [] = ap (λ p. drop p with_last0) z ∙ drop-append_seam s (0 ∷ []) in
      let whole : end + 1 ≡ length with_last0 = omega (arith, length-append s (0 ∷ [])) in
      let none : with_pairs x [] ≡ x = ap (with_pairs x) (sym (front-alone s x end d)) in
      then_is _ front-moved
      (then_is _ (then_is _ (count_is with_last0 most_pairs end 0 [] stands (omega arith)) refl)
      (require_is 6 (end + 1) (eq-eqb (end + 1) (length with_last0) whole) (ap (λ y. field y (end + 1)) none)))

  -- accepted as before, and what it says is the same
  pub last_0_opened : (x : Sheet) (end : ℕ) → opened_two_sections s ≡ field x end → opened with_last0 ≡ field x (end + 1)
  unfolding opened opened_two_sections
  last_0_opened x end e =
      let (y, at, d, r) = then_field (two_sections s) _ e in
      let (t, f) = require_field (leb (k (setting y)) most_negations) 7 0 (field y at) r in
      let (same, ends) = field_same f in
      then_is _ (last_0_read y at d) (require_is 7 0 t (ap₂ (λ z n. field z (n + 1)) (sym same) (sym ends)))

  -- the setting is the one that document 01 defines for its names and rules
  pub last_0_setting : (x : Sheet) (end : ℕ) → opened_two_sections s ≡ field x end → of_sheet with_last0 ≡ accepted (unpaired x)
  unfolding opened_two_sections
  last_0_setting x end e =
      let (y, at, d, r) = then_field (two_sections s) _ e in
      let (t, f) = require_field (leb (k (setting y)) most_negations) 7 0 (field y at) r in
      let none : x.pairs ≡ [] = subst (λ z. z.pairs ≡ []) (sym (field_same f).0) (front-alone s y at (two-read y at d).0) in
      (sheet_accepted with_last0 (unpaired x)).1 (x, end + 1, last_0_opened x end e, sym (no_pairs x none))

  -- and the check answers with the numbers that document 01 gives
  pub last_0_check : (x : Sheet) (end : ℕ) → opened_two_sections s ≡ field x end → check with_last0 ≡ accepted (numbers_of x)
  unfolding check
  last_0_check x end e = (said_accepted numbers_of with_last0 (numbers_of x)).1 (x, end + 1, last_0_opened x end e, refl)
