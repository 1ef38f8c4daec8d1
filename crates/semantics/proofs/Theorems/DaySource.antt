-- A source under the day's masks: 13 exactly by its condition, and otherwise the setting with the constraints added. Assumes nothing.
use Rattle.std.specs.Prelude.{ℕ, ◌^◌, ◌<◌, ◌≡◌, refl, Bool, List, ◌↔◌, ◌⊎◌}
use Rattle.std.proofs.Math.Path.{sym, ap}
use Rattle.std.proofs.Common.{◌∙◌, arith}
use Rattle.std.proofs.Math.Logic.{inl, inr, ⊎_elim}
use Rattle.sets.specs.Decides.{Decides, decided, is_true, is_false, dec_iff, dec_and, dec_not, dec_lt}
use Rattle.sets.specs.Sets.{Meets, ∅}
use Rattle.sets.specs.Members.{∈-∅, dec_meets, below_power}
use Rattle.sets.specs.Size.{not_below_power}
use Rattle.semantics.specs.Definitions.Setting.{Setting}
use Rattle.semantics.specs.Definitions.Returned.{Returned, accepted, refusal, answer}
use Rattle.semantics.specs.Definitions.Check.{of_sheet}
use Rattle.semantics.specs.Definitions.Calls.{provided}
use Rattle.semantics.specs.Definitions.Day.{under, masks_fit, under_masks, of_day}
use Rattle.semantics.specs.Theorems.Returned.{answer_accepted, answer_refused}
use Rattle.semantics.specs.Theorems.Source.{Bounded}
use Rattle.semantics.proofs.Theorems.Source.{provided_accepted, provided_refused, sheet_refused, sheet_bounded}
use Rattle.semantics.proofs.Theorems.Places.{refusal_number}
use Rattle.semantics.proofs.Theorems.Day.{under_nothing}
use Rattle.semantics.specs.Theorems.DaySource.{MasksFit, MasksBad}
use Rattle.semantics.specs.Theorems.DaySource as defined

-- ---- the masks
module _ (ins outs n : ℕ) where
  -- by numbers, and by atoms
  fits_by : ((ins < 2 ^ n) × (outs < 2 ^ n)) × (Meets ins outs → ⊥) ↔ MasksFit ins outs n
  fits_by = (
    λ ((l, m), none). record {
      in_below = (below_power n ins).0 l;
      out_below = (below_power n outs).0 m;
      apart = λ a i o. none (record { common = a; left = i; right = o });
    },
    λ f. (
      ((below_power n ins).1 f.in_below, (below_power n outs).1 f.out_below),
      λ q. f.apart q.common q.left q.right,
    ),
  )

  pub dec_fit : Decides (MasksFit ins outs n) (masks_fit ins outs n)
  dec_fit = dec_iff fits_by (dec_and (dec_and (dec_lt ins (2 ^ n)) (dec_lt outs (2 ^ n))) (dec_not (dec_meets ins outs)))

  pub not_bad : MasksFit ins outs n → MasksBad ins outs n → ⊥
  not_bad f (inl (inl (a, m, l))) = let h = f.in_below a m in omega arith
  not_bad f (inl (inr (a, m, l))) = let h = f.out_below a m in omega arith
  not_bad f (inr (a, i, o)) = f.apart a i o

  pub not_fit : (MasksFit ins outs n → ⊥) → MasksBad ins outs n
  not_fit f =
      ⊎_elim
      (λ l. ⊎_elim
      (λ m. ⊎_elim (λ q. inr (q.common, q.left, q.right)) (λ none. absurd (f (fits_by.0 ((l, m), none)))) (decided (dec_meets ins outs)))
      (λ m. inl (inr ((not_below_power n outs).0 m))) (decided (dec_lt outs (2 ^ n))))
      (λ l. inl (inl ((not_below_power n ins).0 l))) (decided (dec_lt ins (2 ^ n)))

-- ---- the source
module _ (from : Returned Setting) (ins outs : ℕ) where
  abbrev fit : Setting → Bool
  fit s = masks_fit ins outs s.atoms

  -- accepted: the source is, the masks fit, and the constraints are added
  pub masks_accepted : (s : Setting) → under_masks from ins outs ≡ accepted s
      ↔ ((t : Setting) × (from ≡ accepted t) × MasksFit ins outs t.atoms × (s ≡ under ins outs t))
  unfolding under_masks
  masks_accepted s = (
    λ e.
        let (t, d, same) = answer_accepted (under ins outs) (provided fit 13 0 from) e in
        let (is, passed) = (provided_accepted fit 13 0 from t).0 d in
        (t, is, (dec_fit ins outs t.atoms).yes passed, sym same),
    λ (t, d, fits, same). ap (answer (under ins outs)) ((provided_accepted fit 13 0 from t).1 (d, is_true (dec_fit ins outs t.atoms) fits)) ∙ ap accepted (sym same),
  )

  -- the source is accepted, and the masks are bad
  abbrev BadMasks : (number place : ℕ) → Type 0
  BadMasks = defined.BadMasks from ins outs

  -- refused: the source is, or that is so
  pub masks_refused : (number place : ℕ) → under_masks from ins outs ≡ refusal number place ↔ ((from ≡ refusal number place) ⊎ BadMasks number place)
  unfolding under_masks
  masks_refused number place =
      let both = provided_refused fit 13 0 from number place in (
        λ e. ⊎_elim inl (λ (t, d, f, n, q). inr (t, d, not_fit ins outs t.atoms ((dec_fit ins outs t.atoms).no f), n, q))
            (both.0 (answer_refused (under ins outs) (provided fit 13 0 from) e)),
        λ q. ap (answer (under ins outs)) (both.1 (⊎_elim inl
            (λ (t, d, b, n, q). inr (t, d, is_false (dec_fit ins outs t.atoms) (λ f. not_bad ins outs t.atoms f b), n, q)) q)),
      )

  -- a source within the limits stays so
  pub masks_bounded : Bounded from → Bounded (under_masks from ins outs)
  masks_bounded bounded = record {
    few_atoms = λ s e. let (t, d, _, same) = (masks_accepted s).0 e in rw same (bounded.few_atoms t d);
    few_negations = λ s e. let (t, d, _, same) = (masks_accepted s).0 e in rw same (bounded.few_negations t d);
    told_apart = λ number place e. ⊎_elim (bounded.told_apart number place) (λ (t, d, b, n, q). (omega arith, omega arith)) ((masks_refused number place).0 e);
  }

-- "with both masks zero they give today's answers": the source is the same
pub no_masks : (from : Returned Setting) → under_masks from ∅ ∅ ≡ from
unfolding under_masks
no_masks (accepted s) = (masks_accepted (accepted s) ∅ ∅ s).1 (
  s,
  refl,
  record { in_below = λ a m. absurd (∈-∅ m); out_below = λ a m. absurd (∈-∅ m); apart = λ a m _. ∈-∅ m },
  sym (under_nothing s),
)
no_masks (refusal number place) = refl

-- ---- a sheet under the day's masks
pub day_bounded : (sheet : List ℕ) (ins outs : ℕ) → Bounded (of_day sheet ins outs)
day_bounded sheet ins outs = masks_bounded (of_sheet sheet) ins outs (sheet_bounded sheet)

-- 13, place 0, exactly where the sheet is accepted and the masks are bad
pub thirteen_exactly : (sheet : List ℕ) (ins outs place : ℕ) → of_day sheet ins outs ≡ refusal 13 place ↔ BadMasks (of_sheet sheet) ins outs 13 place
thirteen_exactly sheet ins outs place = (
  λ e. ⊎_elim (λ d. ⊎_elim (λ l. absurd (omega arith)) (λ n. absurd (omega arith)) (refusal_number sheet 13 place ((sheet_refused sheet 13 place).0 d))) (λ b. b)
      ((masks_refused (of_sheet sheet) ins outs 13 place).0 e),
  λ b. (masks_refused (of_sheet sheet) ins outs 13 place).1 (inr b),
)
