-- Document 02, K4, of the call `share`: the share of each sheet, and the records in its buffer. Assumes nothing.
use Rattle.std.specs.Prelude.{ℕ, ◌*◌, ◌/◌, ◌^◌, ◌≤◌, ◌<◌, ◌≡◌, refl, true, false, List, [], ◌∷◌, ◌++◌, map, ◌↔◌, length, get_or, take, drop}
use Rattle.std.proofs.Common.{sym, ap, ◌∙◌, subst, append-nil, append_assoc, arith, take_at, drop_at}
use Rattle.sets.specs.Lists.{◌among◌, no_members, flat_append}
use Rattle.semantics.specs.Definitions.Setting.{Setting, k}
use Rattle.semantics.specs.Definitions.Returned.{written}
use Rattle.semantics.specs.Definitions.Listing.{View, record_of, words, listing}
use Rattle.semantics.specs.Definitions.Sharing.{tests_of, met_in, finished_in, share_call, carried, lent_after}
use Rattle.semantics.specs.Theorems.Tally.{Tested, Number}
use Rattle.semantics.proofs.Theorems.Tally.{dec_tested, number_only, is_tally}
use Rattle.semantics.proofs.Theorems.Order.{among-order}
use Rattle.semantics.proofs.Theorems.Listing.{views_of}
use Rattle.semantics.specs.Theorems.Records.{RecordsOf}
use Rattle.semantics.proofs.Theorems.Records.{of_records, words_long}
use Rattle.allowance.specs.RecordsMet.{RecordsMet, records_met}
use Rattle.allowance.specs.Shares.{among_tests, tests_number, none_remains, finished_exactly, finished_many, finished_whole, met_begins}
use Rattle.sharing.specs.declared.result.Share.{Share}
use Rattle.sharing.specs.declared.result.Shares.{Shares}
use Rattle.sharing.specs.Answers.{Shared, shared}

-- the sheet, or the buffer, at a position from 0
abbrev pub at : List (List ℕ) → ℕ → List ℕ
at l q = get_or l q []

-- the share at a position; where there is no sheet, one that is finished, with no tests and no views
abbrev pub no_share : Share
no_share = record { finished = true; tests = 0; views = 0 }

abbrev pub share_at : Shares → ℕ → Share
share_at s q = get_or (s.first ∷ s.second ∷ s.third ∷ s.fourth ∷ []) q no_share

-- two buffers begin with the same n records
abbrev pub SameRecords : ℕ → List ℕ → List ℕ → Type 0
SameRecords n buffer other = take (4 * n) buffer ≡ take (4 * n) other

-- r is what `share` answers of these four sheets where it is lent four buffers, which hold `before`, and leaves `after`
pub record AsShared (count : ℕ) (sheets : List (List ℕ)) (allowance : ℕ) (r : Shared) (before after : List (List ℕ)) : Type 0 where
  pub four-sheets : length sheets ≡ 4
  pub four_buffers : length before ≡ 4
  pub answers : shared r ≡ carried (share_call count sheets allowance (map length before))
  pub leaves : after ≡ lent_after (share_call count sheets allowance (map length before)) before

-- ---- of a sheet of setting s, one of so many on one allowance: x is its share; its buffer held `before`, and holds `after`
pub record SheetShare (s : Setting) (count allowance : ℕ) (x : Share) (before after : List ℕ) : Type 0 where
  -- ""Finished" is said exactly when no guess that would be tested remains": those that are neither covered nor ruled are among the tests made
  pub finished_exactly : (x.finished ≡ true) ↔ ((g : ℕ) → g < 2 ^ k s → Tested s g → g among take x.tests (tests_of s))
  -- "covered and ruled guesses are passed over even with the allowance spent or zero": a sheet with no others is finished, whatever the allowance
  pub passed_over : ((g : ℕ) → g < 2 ^ k s → Tested s g → ⊥) → (x.finished ≡ true) × (x.tests ≡ 0)
  -- "a sheet left unfinished has had at least the allowance divided by the number of sheets, rounded down"
  pub fair : x.finished ≡ false → allowance / count ≤ x.tests
  -- no more tests than its listing makes, and as many exactly when it is finished
  pub tests_of_listing : (n : ℕ) → Number s (Tested s) n → (x.tests ≤ n) × ((x.finished ≡ true) ↔ (x.tests ≡ n))
  -- "The views of each sheet, their number in the result, are exactly those its own listing meets in as many tests"
  pub views_are : x.views ≡ length (met_in s x.tests)
  pub records : RecordsMet s x.tests x.views after
  pub first_of_listing : SameRecords x.views after (words (listing s))
  -- "all of them when finished": one record for each world view and no other, as demand 3 has it
  pub all_when_finished : x.finished ≡ true → RecordsOf s x.views after
  -- words after the last record kept
  pub rest : drop (4 * x.views) after ≡ drop (4 * x.views) before
  pub fits : 4 * x.views ≤ length before

-- ---- proofs
-- the first records of a buffer
pub begins : (vs more : List View) (rest : List ℕ) → take (4 * length vs) (words (vs ++ more) ++ rest) ≡ words vs
begins vs more rest =
    ap (λ l. take (4 * length vs) (l ++ rest)) (flat_append record_of vs more)
    ∙ ap (take (4 * length vs)) (append_assoc (words vs) (words more) rest) ∙ take_at (words vs) (words more ++ rest) (4 * length vs) (words_long vs)

-- the share of a sheet that had t tests
abbrev pub share_for : Setting → (t : ℕ) → Share
share_for u t = record { finished = finished_in u t; tests = t; views = length (met_in u t) }

module _ (u : Setting) (t count allowance : ℕ) (few : t ≤ length (tests_of u)) (enough : finished_in u t ≡ false → allowance / count ≤ t)
    (before after : List ℕ) (fit : 4 * length (met_in u t) ≤ length before) (left : after ≡ written (words (met_in u t)) before) where
  nothing : ((g : ℕ) → g < 2 ^ k u → Tested u g → ⊥) → t ≡ 0
  nothing f =
      let empty : tests_of u ≡ [] =
      (no_members (tests_of u)).1 (λ g m. let (a, e) = (among_tests u).0 m in f g ((among-order (k u)).0 a) ((dec_tested u g).yes e)) in
      omega (arith, ap length empty)

  whole : finished_in u t ≡ true → RecordsOf u (length (met_in u t)) after
  whole e =
      let all = finished_whole u t e in
      rw (left, all) (of_records u _ (views_of u) _)

  as_listed : SameRecords (length (met_in u t)) after (words (listing u))
  as_listed =
      let vs = met_in u t in
      let (more, e) = met_begins u t in
      ap (take (4 * length vs)) left ∙ take_at (words vs) (drop (length (words vs)) before) (4 * length vs) (words_long vs)
      ∙ sym (ap (λ l. take (4 * length vs) (words l)) e ∙ ap (take (4 * length vs)) (sym (append-nil (words (vs ++ more)))) ∙ begins vs more [])

  all_tests : (n : ℕ) → Number u (Tested u) n → (t ≤ n) × ((finished_in u t ≡ true) ↔ (t ≡ n))
  all_tests n m =
      let many : length (tests_of u) ≡ n = tests_number u ∙ number_only (is_tally u).tested_are m in
      (omega arith, (λ e. omega (arith, (finished_many u t).0 e), λ e. (finished_many u t).1 (omega arith)))

  pub sheet-share : SheetShare u count allowance (share_for u t) before after
  sheet-share =
      let size = words_long (met_in u t) in
      record {
        finished_exactly = (
          λ e. (none_remains u t).0 ((finished_exactly u t).0 e),
          λ f. (finished_exactly u t).1 ((none_remains u t).1 f),
        );
        passed_over = λ f. ((finished_exactly u t).1 ((none_remains u t).1 (λ g l w. absurd (f g l w))), nothing f);
        fair = enough;
        tests_of_listing = all_tests;
        views_are = refl;
        records = subst (RecordsMet u t (length (met_in u t))) (sym left) (records_met u t (drop (length (words (met_in u t))) before));
        first_of_listing = as_listed;
        all_when_finished = whole;
        rest = ap (drop (4 * length (met_in u t))) left ∙ drop_at (words (met_in u t)) _ (4 * length (met_in u t)) size ∙ ap (λ n. drop n before) size;
        fits = fit;
      }
