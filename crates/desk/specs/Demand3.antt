-- Demand 3 over the bytes of the desk call. Assumes nothing.
use Rattle.std.specs.Prelude.{ℕ, ◌+◌, ◌*◌, ◌/◌, ◌≤◌, ◌<◌, ◌≡◌, refl, List, ◌++◌, length, take, drop}
use Rattle.std.proofs.Common.{sym, ap, ◌∙◌, subst, inl, arith, drop_at}
use Rattle.semantics.specs.Definitions.Setting.{Setting}
use Rattle.semantics.specs.Definitions.Returned.{Returned, accepted, refusal, afterwards}
use Rattle.semantics.specs.Definitions.Listing.{Tally, six, tally_of, listing, words}
use Rattle.semantics.specs.Definitions.Calls.{Result, result_of}
use Rattle.semantics.specs.Definitions.Desk.{bytes_of, words_in, desk_need, desk_bytes, desk_call, desk_number}
use Rattle.semantics.specs.Theorems.Returned.{fits_limited, short_limited}
use Rattle.semantics.specs.Theorems.Tally.{Number, TallyOf}
use Rattle.semantics.proofs.Theorems.Tally.{is_tally}
use Rattle.semantics.specs.Theorems.WorldView.{WorldView}
use Rattle.semantics.proofs.Theorems.Listing.{views_of, listing_long, listing-many}
use Rattle.semantics.specs.Theorems.Records.{RecordsOf}
use Rattle.semantics.proofs.Theorems.Records.{of_records, words_long}
use Rattle.semantics.proofs.Theorems.ListCall.{result-given, result_says, list_refused}
use Rattle.semantics.specs.Theorems.Source.{Bounded}
use Rattle.semantics.proofs.Theorems.Desk.{words_back, bytes_long, refused_small}

-- what the desk call leaves where it returns 0
pub record DeskWritten (from : Returned Setting) (t : Tally) (before after : List ℕ) : Type 0 where
  pub of : Setting
  pub accepts : from ≡ accepted of
  -- the words begin with six counts, which are the numbers of guesses of these names
  pub counts : take 6 (words_in after) ≡ six t
  pub tally : TallyOf of t
  -- the records follow: one for each world view and no other, in the order
  pub records : RecordsOf of t.views (drop 6 (words_in after))
  -- bytes after the last record kept, an odd last byte among them
  pub rest : drop (2 * (6 + 4 * t.views)) after ≡ drop (2 * (6 + 4 * t.views)) before
  pub fits : 6 + 4 * t.views ≤ length before / 2

-- r is what the desk call returns where it is lent `before`, and leaves `after`. The call's source is `from`: a setting, or the refusal that
-- comes before.
pub record DeskDemand (from : Returned Setting) (r : ℕ) (before after : List ℕ) : Type 0 where
  pub listing-written : r ≡ 0 → (t : Tally) × DeskWritten from t before after
  -- a refusal that comes before is the answer; else 9 exactly where 6 + 4 times views is over the words, with the number of views. Number and
  -- place are told apart: no number is 0, and each place is below 65,536.
  pub refused_before : (number place : ℕ) → from ≡ refusal number place → (r ≡ number * 65536 + place) × (1 ≤ number) × (place < 65536)
  pub views_fit : (s : Setting) → from ≡ accepted s → (n : ℕ) → Number s (WorldView s) n → 6 + 4 * n ≤ length before / 2 → r ≡ 0
  pub views_too_many : (s : Setting) → from ≡ accepted s → (n : ℕ) → Number s (WorldView s) n → length before / 2 < 6 + 4 * n
      → (r ≡ 9 * 65536 + n) × (n < 65536)
  -- "Every lent buffer holds what it held."
  pub refused_keeps : (r ≡ 0 → ⊥) → after ≡ before

-- ---- proofs
-- The hypotheses: the source is within the limits, and what the call ensures.
module _ (from : Returned Setting) (bounded : Bounded from) (r : ℕ) (before after : List ℕ)
    (answers : r ≡ desk_number (desk_call from (length before)))
    (leaves : after ≡ afterwards desk_bytes (desk_call from (length before)) before) where
  -- what 0 says, and what another number
  zero_accepted : (q : Returned Result) → desk_call from (length before) ≡ q → r ≡ 0 → (v : Result) × (desk_call from (length before) ≡ accepted v)
  zero_accepted (accepted v) e z = (v, e)
  zero_accepted (refusal number place) e z =
      let (low, _) = refused_small bounded (length before / 2) number place desk_need e in
      let d : 0 ≡ number * 65536 + place = sym z ∙ answers ∙ ap desk_number e in
      absurd (omega arith)

  written : (t : Tally) (v : Result) → desk_call from (length before) ≡ accepted v → v.tally ≡ t → DeskWritten from t before after
  written t v d told =
      let (s, h, same, fit) = result_says desk_need from (length before / 2) d in
      let is : tally_of s ≡ t = sym (ap (λ z. z.tally) same) ∙ told in
      let ws = six (tally_of s) ++ words (listing s) in
      let left : after ≡ bytes_of ws ++ drop (length (bytes_of ws)) before =
      leaves ∙ ap (λ q. afterwards desk_bytes q before) d ∙ ap (λ z. afterwards desk_bytes (accepted z) before) same in
      let inside : words_in after ≡ ws ++ words_in (drop (length (bytes_of ws)) before) = ap words_in left ∙ words_back ws _ in
      let long : length (listing s) ≡ t.views = listing_long s ∙ ap (λ z. z.views) is in
      let size : length (bytes_of ws) ≡ 2 * (6 + 4 * t.views) = bytes_long ws ∙ omega (arith, words_long (listing s), long) in
      record {
        of = s;
        accepts = h;
        counts = ap (take 6) inside ∙ ap six is;
        tally = subst (TallyOf s) is (is_tally s);
        records = subst (λ n. RecordsOf s n (drop 6 (words_in after))) long
            (subst (RecordsOf s (length (listing s))) (sym (ap (drop 6) inside)) (of_records s (listing s) (views_of s) _));
        rest = ap (drop (2 * (6 + 4 * t.views))) left ∙ drop_at (bytes_of ws) _ (2 * (6 + 4 * t.views)) size ∙ ap (λ n. drop n before) size;
        fits = omega (arith, fit, long);
      }

  kept : (q : Returned Result) → desk_call from (length before) ≡ q → (r ≡ 0 → ⊥) → after ≡ before
  kept (accepted v) e n = absurd (n (answers ∙ ap desk_number e))
  kept (refusal number place) e n = leaves ∙ ap (λ q. afterwards desk_bytes q before) e

  refused_so : (number place : ℕ) → desk_call from (length before) ≡ refusal number place → (r ≡ number * 65536 + place) × (1 ≤ number) × (place < 65536)
  refused_so number place e =
      let (low, small) = refused_small bounded (length before / 2) number place desk_need e in
      (answers ∙ ap desk_number e, low, small)

  pub desk_demand : DeskDemand from r before after
  desk_demand = record {
    listing-written = λ z. let (v, d) = zero_accepted _ refl z in (v.tally, written v.tally v d refl);
    refused_before = λ number place e. refused_so number place ((list_refused desk_need from (length before / 2) number place).1 (inl e));
    views_fit = λ s h n m l.
        answers ∙ ap desk_number (result-given desk_need from (length before / 2) h
        ∙ fits_limited _ (length before / 2) _ (result_of s) (subst (λ z. 6 + 4 * z ≤ length before / 2) (listing-many s m) l));
    views_too_many = λ s h n m l.
        let (e, _, small) = refused_so 9 n (result-given desk_need from (length before / 2) h
        ∙ short_limited _ (length before / 2) _ (result_of s) (subst (λ z. length before / 2 < 6 + 4 * z) (listing-many s m) l)
        ∙ ap (refusal 9) (sym (listing-many s m))) in
        (e, small);
    refused_keeps = kept _ refl;
  }
