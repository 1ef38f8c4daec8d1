-- Demand 3, of the answers of the calls `list` and `list_at`. Assumes nothing.
use Rattle.std.specs.Prelude.{ℕ, ◌*◌, ◌≤◌, ◌<◌, ◌≡◌, List, ◌++◌, length, drop}
use Rattle.std.proofs.Common.{sym, ap, ◌∙◌, subst, inl, arith, drop_at}
use Rattle.semantics.specs.Definitions.Setting.{Setting}
use Rattle.semantics.specs.Definitions.Returned.{Returned, accepted, refusal, answer, afterwards}
use Rattle.semantics.specs.Definitions.Listing.{Tally, listing, words}
use Rattle.semantics.specs.Definitions.Calls.{Result, result_of, records_need, list_call, records_of}
use Rattle.semantics.specs.Theorems.Returned.{fits_limited, short_limited, answer_accepted, answer_refused}
use Rattle.semantics.specs.Theorems.Tally.{Number, TallyOf}
use Rattle.semantics.proofs.Theorems.Tally.{is_tally}
use Rattle.semantics.specs.Theorems.WorldView.{WorldView}
use Rattle.semantics.proofs.Theorems.Listing.{views_of, listing_long, listing-many}
use Rattle.semantics.specs.Theorems.Records.{RecordsOf}
use Rattle.semantics.proofs.Theorems.Records.{of_records, words_long}
use Rattle.semantics.proofs.Theorems.ListCall.{result-given, result_says, list_refused}
use Rattle.answers.specs.declared.tally.Tally.{Tally as Counts}
use Rattle.engine.specs.Answers.{OrRefused, listed}

-- r is the answer of a listing of that source where it is lent `before`, and leaves `after`
abbrev pub AsListed : (from : Returned Setting) → OrRefused Counts → (before after : List ℕ) → Type 0
AsListed from r before after =
    (listed r ≡ answer (λ v. v.tally) (list_call from (length before))) × (after ≡ afterwards records_of (list_call from (length before)) before)

-- what a listing leaves where it answers the six numbers t
pub record RecordsWritten (from : Returned Setting) (t : Tally) (before after : List ℕ) : Type 0 where
  pub of : Setting
  pub accepts : from ≡ accepted of
  -- one record for each world view and no other, in the order
  pub records : RecordsOf of t.views after
  -- words after the last record kept
  pub rest : drop (4 * t.views) after ≡ drop (4 * t.views) before
  pub fits : 4 * t.views ≤ length before
  -- six counts that are the numbers of guesses of these names, and the two sums
  pub tally : TallyOf of t

-- r is what a listing answers where it is lent `before`, and leaves `after`. The call's source is `from`: a setting, or the refusal that comes before.
pub record ListingDemand (from : Returned Setting) (r : OrRefused Counts) (before after : List ℕ) : Type 0 where
  pub listing-written : (t : Tally) → listed r ≡ accepted t → RecordsWritten from t before after
  -- a refusal that comes before is the answer; else 9 exactly where 4 times views is over the words, with the number of views
  pub refused_before : (number place : ℕ) → from ≡ refusal number place → listed r ≡ refusal number place
  pub views_fit : (s : Setting) → from ≡ accepted s → (n : ℕ) → Number s (WorldView s) n → 4 * n ≤ length before → (t : Tally) × (listed r ≡ accepted t)
  pub views_too_many : (s : Setting) → from ≡ accepted s → (n : ℕ) → Number s (WorldView s) n → length before < 4 * n → listed r ≡ refusal 9 n
  -- "Every lent buffer holds what it held."
  pub refused_keeps : (number place : ℕ) → listed r ≡ refusal number place → after ≡ before

-- ---- proofs
-- The two hypotheses are what the call ensures.
module _ (from : Returned Setting) (r : OrRefused Counts) (before after : List ℕ)
    (answers : listed r ≡ answer (λ v. v.tally) (list_call from (length before)))
    (leaves : after ≡ afterwards records_of (list_call from (length before)) before) where
  returned : {q : Returned Result} → list_call from (length before) ≡ q → listed r ≡ answer (λ v. v.tally) q
  returned e = answers ∙ ap (answer (λ v. v.tally)) e

  written : (t : Tally) → listed r ≡ accepted t → RecordsWritten from t before after
  written t e =
      let (v, d, told) = answer_accepted (λ v. v.tally) (list_call from (length before)) (sym answers ∙ e) in
      let (s, h, same, fit) = result_says records_need from (length before) d in
      let left : after ≡ words (listing s) ++ drop (length (words (listing s))) before =
      leaves ∙ ap (λ q. afterwards records_of q before) d ∙ ap (λ z. afterwards records_of (accepted z) before) same in
      let long : length (listing s) ≡ t.views = listing_long s ∙ ap (λ z. z.views) (sym (ap (λ z. z.tally) same) ∙ told) in
      let size : length (words (listing s)) ≡ 4 * t.views = words_long (listing s) ∙ ap (λ n. 4 * n) long in
      record {
        of = s;
        accepts = h;
        records = subst (λ n. RecordsOf s n after) long (subst (RecordsOf s (length (listing s))) (sym left) (of_records s (listing s) (views_of s) _));
        rest = ap (drop (4 * t.views)) left ∙ drop_at (words (listing s)) _ (4 * t.views) size ∙ ap (λ n. drop n before) size;
        fits = omega arith;
        tally = subst (TallyOf s) (sym (ap (λ z. z.tally) same) ∙ told) (is_tally s);
      }

  pub listing_demand : ListingDemand from r before after
  listing_demand = record {
    listing-written = written;
    refused_before = λ number place e. returned ((list_refused records_need from (length before) number place).1 (inl e));
    views_fit = λ s h n m l.
        (_, returned (result-given records_need from (length before) h ∙ fits_limited _ (length before) _ (result_of s) (subst (λ z. 4 * z ≤ length before) (listing-many s m) l)));
    views_too_many = λ s h n m l.
        returned (result-given records_need from (length before) h ∙ short_limited _ (length before) _ (result_of s) (subst (λ z. length before < 4 * z) (listing-many s m) l))
        ∙ ap (refusal 9) (sym (listing-many s m));
    refused_keeps = λ number place e.
        leaves ∙ ap (λ q. afterwards records_of q before) (answer_refused (λ v. v.tally) (list_call from (length before)) (sym answers ∙ e));
  }
