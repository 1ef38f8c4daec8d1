-- What the calls return, from what the steps of the code answer. Assumes nothing.
use Prim.Native.Nat.{ℕ, ◌*◌, ◌^◌, ◌≤◌, ◌<◌}
use mathlib.Core.Path.{◌≡◌, sym, ap, ◌∙◌, subst}
use mathlib.Core.Logic.{inl}
use mathlib.Core.List.{List}
use native.Mathlib.Omega.{arith}
use lib.ListN.{length}
use lib.Pow.{pow_mono}
use Rattle.semantics.specs.Definitions.Sheet.{byte_at}
use Rattle.semantics.specs.Definitions.Setting.{Setting, k}
use Rattle.semantics.specs.Definitions.Check.{most_negations, check}
use Rattle.semantics.specs.Definitions.Returned.{Returned, accepted, refusal, answer, written, afterwards}
use Rattle.semantics.specs.Definitions.Verdict.{verdict, belief_sets}
use Rattle.semantics.specs.Definitions.Listing.{Tally, tally_of, View, listing}
use Rattle.semantics.specs.Definitions.Calls.{for_guess, for_atom, verdict_call, sets_into, belief_sets_call, Result, result_of, result_into, records_need, list_call, records_of, query_call}
use Rattle.semantics.specs.Definitions.Calendar.{of_minute, changes_call}
use Rattle.semantics.specs.Definitions.Query.{answer_by}
use Rattle.semantics.specs.Definitions.Day.{of_day}
use Rattle.semantics.proofs.Theorems.Layout.{places_bytes}
use Rattle.semantics.specs.Theorems.Returned.{fits_limited, short_limited}
use Rattle.semantics.specs.Theorems.Calls.{GuessOf}
use Rattle.semantics.proofs.Theorems.Calls.{for_guess_accepted, verdict_refused, verdict_is, sets-given, sets_refused}
use Rattle.semantics.proofs.Theorems.ListCall.{result-given, list_refused}
use Rattle.semantics.specs.Theorems.QueryCall.{AtomOf}
use Rattle.semantics.proofs.Theorems.QueryCall.{for_atom_accepted, query_refused, query_is}
use Rattle.guess.specs.declared.outline.Outline.{Outline}
use Rattle.guess.specs.Programs.{setting_in, Outlines}
use Rattle.verdict.specs.declared.Verdict.{Verdict as Answer}
use Rattle.verdict.specs.Verdicts.{verdict_of}
use Rattle.std.specs.Prelude.{Ok, Err}
use Rattle.answers.specs.Refusals.{number_of}
use Rattle.answers.specs.declared.refusal.Refusal.{Refusal}
use Rattle.answers.specs.declared.tally.Tally.{Tally as Counts}
use Rattle.source.specs.Sources.{Source, Reads}
use Rattle.source.proofs.Read.{reads_accepted, outlined, reads_refused}
use Rattle.engine.specs.declared.Checked.{Checked}
use Rattle.engine.specs.declared.Queried.{Queried}
use Rattle.engine.specs.Answers.{OrRefused, checked, judged, counted, listed, queried}
use Rattle.engine.specs.Demand1.{CheckDemand, check_demand}
use Rattle.engine.specs.Demand2.{VerdictDemand, verdict_demand, SetsDemand, sets_demand}
use Rattle.engine.specs.Demand3.{AsListed, ListingDemand, listing_demand}
use Rattle.engine.specs.Queries.{QueryDemand, query_demand}
use Rattle.engine.specs.Hours.{MinuteDemand, minute_demand, ChangesDemand, changes_demand}
use Rattle.engine.specs.Opposites.{SetsOpposites, sets-opposites}
use Rattle.engine.specs.Days.{AsCounted, VerdictDay, verdict_day, SetsDay, sets_day, ListingDay, listing_day, QueryDay, query_day}

-- ---- a call for a guess: r is what was read, with the guess judged
module _ (from : Returned Setting) (g : ℕ) (words : List ℕ) (r : Source) (h : Reads (for_guess from g) r words) where
  module _ {x : Outline} (told : r ≡ Ok x) where
    outlines : Outlines x words
    outlines = outlined (for_guess from g) words r h told

    guess_of : GuessOf from g (setting_in x words)
    guess_of = (for_guess_accepted from g _).0 (reads_accepted (for_guess from g) words r h told).1

    -- a guess fits a word
    pub guess_fits : g < 65536
    guess_fits =
        let l = guess_of.below in
        let most : 2 ^ k (setting_in x words) ≤ 2 ^ most_negations = pow_mono (subst (λ n. n ≤ most_negations) outlines.counted outlines.few_negations) in
        omega (arith, l, most)

    pub judged_so : (v : Answer) → verdict_of v ≡ verdict (setting_in x words) g → accepted (verdict_of v) ≡ verdict_call from g
    judged_so v is = ap accepted is ∙ sym (verdict_is from g guess_of)

    module _ (w : List ℕ) (believed : w ≡ belief_sets (setting_in x words) g) (room : ℕ) where
      returns : belief_sets_call from g room ≡ sets_into room w
      returns = sets-given from g room guess_of ∙ ap (sets_into room) (sym believed)

      pub sets_returned : length w ≤ room → belief_sets_call from g room ≡ accepted w
      sets_returned l = returns ∙ fits_limited _ room _ w l

      pub too_short : room < length w → belief_sets_call from g room ≡ refusal 9 (length w)
      too_short l = returns ∙ short_limited _ room _ w l

  module _ {q : Refusal} (told : r ≡ Err q) where
    turned_back : for_guess from g ≡ refusal (number_of q.reason) q.place
    turned_back = reads_refused (for_guess from g) words r h told

    pub verdict_turned_back : refusal (number_of q.reason) q.place ≡ verdict_call from g
    verdict_turned_back = sym ((verdict_refused from g (number_of q.reason) q.place).1 turned_back)

    pub sets_turned_back : (room : ℕ) → belief_sets_call from g room ≡ refusal (number_of q.reason) q.place
    sets_turned_back room = (sets_refused from g room (number_of q.reason) q.place).1 (inl turned_back)

-- ---- the query of an atom: r is what was read, with the atom judged
module _ (from : Returned Setting) (a : ℕ) (words : List ℕ) (r : Source) (h : Reads (for_atom from a) r words) where
  module _ {x : Outline} (told : r ≡ Ok x) where
    atom_of_lem : AtomOf from a (setting_in x words)
    atom_of_lem = (for_atom_accepted from a _).0 (reads_accepted (for_atom from a) words r h told).1

    -- a number of an atom
    pub is_atom : a < 16
    is_atom = omega (arith, atom_of_lem.below, (outlined (for_atom from a) words r h told).few_atoms)

    pub answers-query : (vs : List View) → vs ≡ listing (setting_in x words) → accepted (answer_by vs a) ≡ query_call from a
    answers-query vs whole =
        ap (λ z. accepted (answer_by z a)) whole ∙ sym (query_is from a atom_of_lem)

  pub query_turned_back : {q : Refusal} → r ≡ Err q → refusal (number_of q.reason) q.place ≡ query_call from a
  query_turned_back told = sym ((query_refused from a _ _).1 (reads_refused (for_atom from a) words r h told))

-- ---- the listing: r is what was read
module _ (from : Returned Setting) (words : List ℕ) (r : Source) (h : Reads from r words) (room : ℕ) where
  module _ {x : Outline} (told : r ≡ Ok x) (t : Tally) (vs : List View) (counts : t ≡ tally_of (setting_in x words)) (views : vs ≡ listing (setting_in x words)) where
    abbrev pub found : Result
    found = record { tally = t; views = vs }

    lists : list_call from room ≡ result_into records_need room found
    lists =
        let same : found ≡ result_of (setting_in x words) = λ i. record { tally = counts i; views = views i } in
        result-given records_need from room (reads_accepted from words r h told).1 ∙ ap (result_into records_need room) (sym same)

    pub list_returned : 4 * length vs ≤ room → list_call from room ≡ accepted found
    list_returned l = lists ∙ fits_limited _ room _ found l

    pub list_short : room < 4 * length vs → list_call from room ≡ refusal 9 (length vs)
    list_short l = lists ∙ short_limited _ room _ found l

  pub list_turned_back : {q : Refusal} → r ≡ Err q → list_call from room ≡ refusal (number_of q.reason) q.place
  list_turned_back told = (list_refused records_need from room _ _).1 (inl (reads_refused from words r h told))

-- ---- the answer and the lent buffer
module _ {A B : Type 0} (of : A → B) (words : A → List ℕ) {r : Returned A} (buffer : List ℕ) where
  pub kept : {number place : ℕ} → r ≡ refusal number place → (refusal number place ≡ answer of r) × (buffer ≡ afterwards words r buffer)
  kept e = (sym (ap (answer of) e), sym (ap (λ q. afterwards words q buffer) e))

  pub filled : {v : A} {b : B} {after : List ℕ} → r ≡ accepted v → of v ≡ b → after ≡ written (words v) buffer → (accepted b ≡ answer of r) × (after ≡ afterwards words r buffer)
  filled e says d = (ap accepted (sym says) ∙ sym (ap (answer of) e), d ∙ sym (ap (λ q. afterwards words q buffer) e))

-- ---- what the calls ensure, with the demands that follow
pub check-met : (sheet : List ℕ) → ((i : ℕ) → byte_at sheet i < 256) → (r : OrRefused Checked) → checked r ≡ check sheet → (checked r ≡ check sheet) × CheckDemand sheet r
check-met sheet small r e = (e, check_demand sheet (places_bytes sheet small) r e)

module _ (sheet : List ℕ) (ins outs : ℕ) where
  abbrev from : Returned Setting
  from = of_day sheet ins outs

  pub verdict-met : (g : ℕ) (v : OrRefused Answer) → judged v ≡ verdict_call from g
      → (judged v ≡ verdict_call from g) × (VerdictDemand from g v × VerdictDay sheet ins outs g v)
  verdict-met g v e = (e, (verdict_demand from g v e, verdict_day sheet ins outs g v e))

  pub sets-met : (g : ℕ) (before : List ℕ) (r : OrRefused ℕ) (after : List ℕ) → AsCounted from g r before after
      → (counted r ≡ answer length (belief_sets_call from g (length before)))
      × ((after ≡ afterwards (λ w. w) (belief_sets_call from g (length before)) before) × (SetsDemand from g r before after × (SetsDay sheet ins outs g r before after × SetsOpposites sheet r after)))
  sets-met g before r after p =
      let demand = sets_demand from g r before after p.0 p.1 in
      (p.0, (p.1, (demand, (sets_day sheet ins outs g r before after p, sets-opposites sheet ins outs g r before after demand))))

  pub query-met : (a : ℕ) (q : OrRefused Queried) → queried q ≡ query_call from a → (queried q ≡ query_call from a) × (QueryDemand from a q × QueryDay sheet ins outs a q)
  query-met a q e = (e, (query_demand from a q e, query_day sheet ins outs a q e))

  pub listing-met : (before : List ℕ) (r : OrRefused Counts) (after : List ℕ) → AsListed from r before after
      → (listed r ≡ answer (λ v. v.tally) (list_call from (length before)))
      × ((after ≡ afterwards records_of (list_call from (length before)) before) × (ListingDemand from r before after × ListingDay sheet ins outs r before after))
  listing-met before r after p = (p.0, (p.1, (listing_demand from r before after p.0 p.1, listing_day sheet ins outs r before after p)))

pub minute_met : (sheet calendar : List ℕ) (minute : ℕ) (before : List ℕ) (r : OrRefused Counts) (after : List ℕ) → AsListed (of_minute sheet calendar minute) r before after
    → (listed r ≡ answer (λ v. v.tally) (list_call (of_minute sheet calendar minute) (length before)))
    × ((after ≡ afterwards records_of (list_call (of_minute sheet calendar minute) (length before)) before) × MinuteDemand sheet calendar minute r before after)
minute_met sheet calendar minute before r after p = (p.0, (p.1, minute_demand sheet calendar minute r before after p))

pub changes-met : (sheet calendar before : List ℕ) (r : OrRefused ℕ) (after : List ℕ)
    → (counted r ≡ answer length (changes_call sheet calendar (length before))) × (after ≡ afterwards (λ w. w) (changes_call sheet calendar (length before)) before)
    → (counted r ≡ answer length (changes_call sheet calendar (length before)))
    × ((after ≡ afterwards (λ w. w) (changes_call sheet calendar (length before)) before) × ChangesDemand sheet calendar r before after)
changes-met sheet calendar before r after p = (p.0, (p.1, changes_demand sheet calendar r before after p.0 p.1))
