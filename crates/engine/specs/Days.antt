-- The calls under the day's masks: what each owes (document 02, K3 and K7). Assumes nothing.
use Rattle.std.specs.Prelude.{ℕ, ◌≡◌, List, length}
use Rattle.std.proofs.Common.{sym, ap, ◌∙◌, ⊎_elim, arith}
use Rattle.semantics.specs.Definitions.Setting.{Setting}
use Rattle.semantics.specs.Definitions.Returned.{Returned, refusal, answer, afterwards}
use Rattle.semantics.specs.Definitions.Calls.{for_guess, verdict_call, belief_sets_call, records_need, list_call, query_call}
use Rattle.semantics.specs.Definitions.Day.{of_day}
use Rattle.semantics.specs.Theorems.Returned.{answer_refused}
use Rattle.semantics.proofs.Theorems.Calls.{for_guess_refused, verdict_refused, sets_refused}
use Rattle.semantics.proofs.Theorems.ListCall.{list_refused}
use Rattle.semantics.proofs.Theorems.QueryCall.{for_atom_refused, query_refused}
use Rattle.semantics.specs.Theorems.DayCall.{DayDemand}
use Rattle.semantics.proofs.Theorems.DayCall.{day_demand}
use Rattle.answers.specs.declared.tally.Tally.{Tally as Counts}
use Rattle.verdict.specs.declared.Verdict.{Verdict}
use Rattle.engine.specs.declared.Queried.{Queried}
use Rattle.engine.specs.Answers.{OrRefused, judged, counted, listed, queried}
use Rattle.engine.specs.Demand2.{verdict_demand, sets_demand}
use Rattle.engine.specs.Demand3.{AsListed, listing_demand}
use Rattle.engine.specs.Queries.{query_demand}

-- r is what `belief_sets` answers of that source where it is lent `before`, and leaves `after`
abbrev pub AsCounted : (from : Returned Setting) (g : ℕ) → OrRefused ℕ → (before after : List ℕ) → Type 0
AsCounted from g r before after =
    (counted r ≡ answer length (belief_sets_call from g (length before))) × (after ≡ afterwards (λ w. w) (belief_sets_call from g (length before)) before)

module _ (sheet : List ℕ) (ins outs : ℕ) where
  abbrev pub VerdictDay : (g : ℕ) → OrRefused Verdict → Type 0
  VerdictDay g v = DayDemand sheet ins outs (λ from. judged v ≡ verdict_call from g) (λ number place. judged v ≡ refusal number place)

  abbrev pub SetsDay : (g : ℕ) → OrRefused ℕ → (before after : List ℕ) → Type 0
  SetsDay g r before after = DayDemand sheet ins outs (λ from. AsCounted from g r before after) (λ number place. counted r ≡ refusal number place)

  abbrev pub ListingDay : OrRefused Counts → (before after : List ℕ) → Type 0
  ListingDay r before after = DayDemand sheet ins outs (λ from. AsListed from r before after) (λ number place. listed r ≡ refusal number place)

  abbrev pub QueryDay : (a : ℕ) → OrRefused Queried → Type 0
  QueryDay a q = DayDemand sheet ins outs (λ from. queried q ≡ query_call from a) (λ number place. queried q ≡ refusal number place)

  -- ---- proofs: 13 is none of 8, 9 and 10
  abbrev source : Returned Setting
  source = of_day sheet ins outs

  guess_thirteen : (g : ℕ) {place : ℕ} → for_guess source g ≡ refusal 13 place → source ≡ refusal 13 place
  guess_thirteen g e = ⊎_elim (λ d. d) (λ (s, d, l, n, q). absurd (omega arith)) ((for_guess_refused source g _ _).0 e)

  pub verdict_day : (g : ℕ) (v : OrRefused Verdict) → judged v ≡ verdict_call source g → VerdictDay g v
  verdict_day g v answered =
      day_demand sheet ins outs (λ from. judged v ≡ verdict_call from g) (λ number place. judged v ≡ refusal number place) answered
      (verdict_demand source g v answered).refused_before
      (λ place e. guess_thirteen g ((verdict_refused source g 13 place).0 (sym answered ∙ e)))

  pub sets_day : (g : ℕ) (r : OrRefused ℕ) (before after : List ℕ) → AsCounted source g r before after → SetsDay g r before after
  sets_day g r before after p =
      day_demand sheet ins outs (λ from. AsCounted from g r before after) (λ number place. counted r ≡ refusal number place) p
      (sets_demand source g r before after p.0 p.1).refused_before
      (λ place e.
      ⊎_elim (guess_thirteen g) (λ (s, h, l, n, q). absurd (omega arith))
      ((sets_refused source g (length before) 13 place).0 (answer_refused length (belief_sets_call source g (length before)) (sym p.0 ∙ e))))

  pub listing_day : (r : OrRefused Counts) (before after : List ℕ) → AsListed source r before after → ListingDay r before after
  listing_day r before after p =
      day_demand sheet ins outs (λ from. AsListed from r before after) (λ number place. listed r ≡ refusal number place) p
      (listing_demand source r before after p.0 p.1).refused_before
      (λ place e.
      ⊎_elim (λ d. d) (λ (s, h, l, n, q). absurd (omega arith))
      ((list_refused records_need source (length before) 13 place).0 (answer_refused (λ v. v.tally) (list_call source (length before)) (sym p.0 ∙ e))))

  pub query_day : (a : ℕ) (q : OrRefused Queried) → queried q ≡ query_call source a → QueryDay a q
  query_day a q answered =
      day_demand sheet ins outs (λ from. queried q ≡ query_call from a) (λ number place. queried q ≡ refusal number place) answered
      (query_demand source a q answered).refused_before
      (λ place e.
      ⊎_elim (λ d. d) (λ (s, d, l, n, q). absurd (omega arith)) ((for_atom_refused source a 13 place).0 ((query_refused source a 13 place).0 (sym answered ∙ e))))
