-- Document 02, K7, of the answers of the call `belief_sets`: "A pair acts as a constraint with both atoms plain". Assumes nothing.
use Rattle.std.specs.Prelude.{ℕ, ◌≡◌, List, take}
use Rattle.std.proofs.Common.{sym, ◌∙◌, subst}
use Rattle.sets.specs.Lists.{◌among◌}
use Rattle.semantics.specs.Definitions.Reading.{field}
use Rattle.semantics.specs.Definitions.Sheet.{Sheet}
use Rattle.semantics.specs.Definitions.Check.{setting, opened, of_sheet}
use Rattle.semantics.specs.Definitions.Day.{under, of_day}
use Rattle.semantics.specs.Definitions.Verdict.{belief_sets}
use Rattle.semantics.proofs.Theorems.Verdict.{sets-only}
use Rattle.semantics.proofs.Theorems.Source.{sheet_accepted}
use Rattle.semantics.proofs.Theorems.DaySource.{masks_accepted}
use Rattle.semantics.specs.Theorems.Opposites.{NeverBoth}
use Rattle.semantics.proofs.Theorems.Opposites.{never_both_under}
use Rattle.semantics.specs.Definitions.Returned.{accepted}
use Rattle.engine.specs.Answers.{OrRefused, counted}
use Rattle.engine.specs.Demand2.{SetsDemand}

-- no set that is written has both atoms of a pair
abbrev pub SetsOpposites : (sheet : List ℕ) → OrRefused ℕ → (after : List ℕ) → Type 0
SetsOpposites sheet r after =
    (x : Sheet) (end n : ℕ) → opened sheet ≡ field x end → counted r ≡ accepted n → (i : ℕ) → i among take n after → NeverBoth x.pairs i

pub sets-opposites : (sheet : List ℕ) (ins outs g : ℕ) (r : OrRefused ℕ) (before after : List ℕ) → SetsDemand (of_day sheet ins outs) g r before after
    → SetsOpposites sheet r after
sets-opposites sheet ins outs g r before after demand x end n opens told i m =
    let w = demand.sets-written n told in
    let (s, e, _, same) = (masks_accepted (of_sheet sheet) ins outs w.of).0 w.guess_of.of in
    let (y, last, d, is) = (sheet_accepted sheet s).0 e in
    let both : field x end ≡ field y last = sym opens ∙ d in
    let one : y ≡ x = cc in
    let of : w.of ≡ under ins outs (setting x) = same ∙ (λ j. under ins outs (is j)) ∙ (λ j. under ins outs (setting (one j))) in
    never_both_under x g ins outs (subst (λ z. i among belief_sets z g) of (subst (λ l. i among l) (sets-only w.models) m))
