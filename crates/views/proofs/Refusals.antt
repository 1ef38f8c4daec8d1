-- `views` has no day masks: what it calls is said of the sheet. With as many words as it lends, neither the listing of an accepted sheet nor
-- the belief sets of its guesses are refused. Assumes nothing.
use Prim.Native.Nat.{ℕ, ◌*◌, ◌^◌, ◌≤◌}
use mathlib.Core.Path.{◌≡◌, sym, ap, ◌∙◌, subst}
use mathlib.Core.List.{List}
use native.Mathlib.Omega.{arith}
use lib.ListN.{length}
use Rattle.sets.specs.Sets.{∅}
use Rattle.semantics.specs.Definitions.Sheet.{most_atoms}
use Rattle.semantics.specs.Definitions.Setting.{Setting}
use Rattle.semantics.specs.Definitions.Check.{of_sheet}
use Rattle.semantics.specs.Definitions.Day.{of_day}
use Rattle.semantics.specs.Definitions.Returned.{accepted, answer}
use Rattle.semantics.specs.Definitions.Verdict.{belief_sets}
use Rattle.semantics.specs.Definitions.Calls.{list_call}
use Rattle.semantics.specs.Walk.{records_room}
use Rattle.semantics.specs.Theorems.Returned.{not_both, answer_refused}
use Rattle.semantics.proofs.Theorems.Source.{sheet_bounded}
use Rattle.semantics.proofs.Theorems.DaySource.{no_masks}
use Rattle.semantics.proofs.Theorems.Verdict.{sets_of}
use Rattle.semantics.specs.Theorems.Calls.{GuessOf}
use Rattle.semantics.proofs.Theorems.Calls.{sets_few}
use Rattle.semantics.proofs.Theorems.Desk.{never_short}
use Rattle.std.specs.Prelude.{Err}
use Rattle.answers.specs.Refusals.{number_of}
use Rattle.answers.specs.declared.refusal.Refusal.{Refusal}
use Rattle.answers.specs.declared.tally.Tally.{Tally as Counts}
use Rattle.engine.specs.Answers.{OrRefused, counted, listed}
use Rattle.engine.specs.Demand2.{SetsDemand}

module _ (sheet : List ℕ) {s : Setting} where
  pub without_masks : of_day sheet ∅ ∅ ≡ accepted s → of_sheet sheet ≡ accepted s
  without_masks e = sym (no_masks (of_sheet sheet)) ∙ e

  pub listing_fits : of_sheet sheet ≡ accepted s → (size : ℕ) {r : OrRefused Counts} {q : Refusal} → listed r ≡ answer (λ v. v.tally) (list_call (of_sheet sheet) size)
      → 4 * records_room ≤ size → r ≡ Err q → ⊥
  listing_fits h size {r} {q} answered long told =
      not_both h (never_short (sheet_bounded sheet) size (number_of q.reason) q.place long (answer_refused (λ v. v.tally) (list_call (of_sheet sheet) size) (sym answered ∙ ap listed told)))

  pub sets-fit : (g : ℕ) → GuessOf (of_sheet sheet) g s → {r : OrRefused ℕ} {q : Refusal} (before after : List ℕ) → SetsDemand (of_day sheet ∅ ∅) g r before after
      → 2 ^ most_atoms ≤ length before → r ≡ Err q → ⊥
  sets-fit g h before after d long told =
      let fits : length (belief_sets s g) ≤ length before = omega (arith, sets_few (of_sheet sheet) g (sheet_bounded sheet) h, long) in
      let unmasked : GuessOf (of_day sheet ∅ ∅) g s = subst (λ from. GuessOf from g s) (sym (no_masks (of_sheet sheet))) h in
      not_both (d.sets-fit s unmasked (belief_sets s g) (sets_of s g) fits) (ap counted told)
