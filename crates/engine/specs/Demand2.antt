-- Demand 2, of the answers of the calls `verdict` and `belief_sets`. Assumes nothing.
use Rattle.std.specs.Prelude.{ℕ, ◌^◌, ◌≤◌, ◌<◌, ◌≡◌, refl, List, ◌↔◌, length, take, drop}
use Rattle.std.proofs.Common.{sym, ap, ◌∙◌, subst, inl, inr, arith, take_at, drop_at}
use Rattle.sets.specs.Decides.{is_true}
use Rattle.sets.specs.Lists.{◌among◌}
use Rattle.sets.specs.Sets.{◌∈◌}
use Rattle.semantics.specs.Definitions.Setting.{Setting, k, negation}
use Rattle.semantics.specs.Definitions.Returned.{Returned, accepted, refusal, answer, afterwards}
use Rattle.semantics.specs.Definitions.Verdict.{belief_sets, known_in, possible_in, guess_found}
use Rattle.semantics.specs.Definitions.Verdict as meant
use Rattle.semantics.specs.Definitions.Calls.{for_guess, verdict_call, sets_into, belief_sets_call}
use Rattle.semantics.specs.Theorems.Verdict.{Satisfied, Verifiable, SetsOf, Verified}
use Rattle.semantics.proofs.Theorems.Verdict.{found_exact, found_below, belief_below, dec_empty, empty_verdict, dec_unverifiable, other_verdict, sets_of, sets-only}
use Rattle.semantics.specs.Theorems.Returned.{fits_limited, short_limited, answer_accepted, answer_refused}
use Rattle.semantics.specs.Theorems.Calls as calls
use Rattle.semantics.proofs.Theorems.Calls as calls_proved
use Rattle.verdict.specs.declared.Verdict.{Verdict}
use Rattle.engine.specs.Answers.{OrRefused, judged, counted}

-- ---- of a guess: v is what `verdict` answers. The call's source is `from`: a setting, or the refusal that comes before.
pub record VerdictDemand (from : Returned Setting) (g : ℕ) (v : OrRefused Verdict) : Type 0 where
  -- 'verified' exactly when the guess is reduct-verifiable (000, Definition 5)
  pub verified_exactly : ((known : ℕ) × (possible : ℕ) × (sets : ℕ) × (judged v ≡ accepted (meant.verified known possible sets)))
      ↔ ((s : Setting) × calls.GuessOf from g s × Verifiable s g)
  -- and then with known, possible and the number of sets
  pub verified_values : (known possible sets : ℕ) → judged v ≡ accepted (meant.verified known possible sets)
      → (s : Setting) × calls.GuessOf from g s × Verified s g known possible sets
  -- "empty" exactly when no set is stable
  pub empty_exactly : (judged v ≡ accepted meant.empty) ↔ ((s : Setting) × calls.GuessOf from g s × ((i : ℕ) × (i among belief_sets s g) → ⊥))
  -- "other" in all other cases, with the guess found, which has exactly the negations that W satisfies
  pub other_exactly : ((found : ℕ) × (judged v ≡ accepted (meant.other found)))
      ↔ ((s : Setting) × calls.GuessOf from g s × (((i : ℕ) × (i among belief_sets s g)) × (Verifiable s g → ⊥)))
  pub other_values : (found : ℕ) → judged v ≡ accepted (meant.other found)
      → (s : Setting) × calls.GuessOf from g s × (found < 2 ^ k s) × ((j : ℕ) → j < k s → (j ∈ found) ↔ Satisfied (belief_sets s g) (negation s j))
  -- a refusal that comes before is the answer; then "8, 0" where "guess not below 2^k"
  pub refused_before : (number place : ℕ) → from ≡ refusal number place → judged v ≡ refusal number place
  pub guess_refused : (s : Setting) → from ≡ accepted s → 2 ^ k s ≤ g → judged v ≡ refusal 8 0

-- ---- r is what `belief_sets` answers where it is lent `before`, and leaves `after`
-- what `belief_sets` leaves where it answers n: the first n words are exactly the stable models of the reduct, each once, rising, and the
-- words after them are kept
pub record SetsWritten (from : Returned Setting) (g n : ℕ) (before after : List ℕ) : Type 0 where
  pub of : Setting
  pub guess_of : calls.GuessOf from g of
  pub models : SetsOf of g (take n after)
  pub rest : drop n after ≡ drop n before
  pub fits : n ≤ length before

pub record SetsDemand (from : Returned Setting) (g : ℕ) (r : OrRefused ℕ) (before after : List ℕ) : Type 0 where
  -- the belief sets written are exactly the stable models of its reduct; they are written wherever they fit
  pub sets-written : (n : ℕ) → counted r ≡ accepted n → SetsWritten from g n before after
  pub sets-fit : (s : Setting) → calls.GuessOf from g s → (w : List ℕ) → SetsOf s g w → length w ≤ length before → counted r ≡ accepted (length w)
  -- a refusal that comes before is the answer; then "8, 0" where "guess not below 2^k"; then 9 where there are more sets than words, with their number
  pub refused_before : (number place : ℕ) → from ≡ refusal number place → counted r ≡ refusal number place
  pub guess_refused : (s : Setting) → from ≡ accepted s → 2 ^ k s ≤ g → counted r ≡ refusal 8 0
  pub sets_too_many : (s : Setting) → calls.GuessOf from g s → (w : List ℕ) → SetsOf s g w → length before < length w → counted r ≡ refusal 9 (length w)
  -- "Every lent buffer holds what it held."
  pub refused_keeps : (number place : ℕ) → counted r ≡ refusal number place → after ≡ before

-- ---- proofs
-- by what the call ensures
module _ (from : Returned Setting) (g : ℕ) (v : OrRefused Verdict) (answered : judged v ≡ verdict_call from g) where
  says : (known possible sets : ℕ) → judged v ≡ accepted (meant.verified known possible sets) → (s : Setting) × calls.GuessOf from g s × Verified s g known possible sets
  says known possible sets e = calls_proved.verified_says from g known possible sets (sym answered ∙ e)

  verdict_was : {u : meant.Verdict} → judged v ≡ accepted u → (s : Setting) × calls.GuessOf from g s × (meant.verdict s g ≡ u)
  verdict_was {u} e = calls_proved.is_verdict from g u (sym answered ∙ e)

  verdict-then : {s : Setting} {u : Returned meant.Verdict} → calls.GuessOf from g s → accepted (meant.verdict s g) ≡ u → judged v ≡ u
  verdict-then h e = answered ∙ calls_proved.verdict_is from g h ∙ e

  refuses : {number place : ℕ} → for_guess from g ≡ refusal number place → judged v ≡ refusal number place
  refuses e = answered ∙ (calls_proved.verdict_refused from g _ _).1 e

  others : (found : ℕ) → judged v ≡ accepted (meant.other found)
      → (s : Setting) × calls.GuessOf from g s × (((i : ℕ) × (i among belief_sets s g)) × (Verifiable s g → ⊥)) × (meant.verdict s g ≡ meant.other found)
  others found e =
      let (s, h, d) = verdict_was e in
      (s, h, (dec_unverifiable s g h.below).yes (ap meant.is_other d), d)

  values : (found : ℕ) → judged v ≡ accepted (meant.other found)
      → (s : Setting) × calls.GuessOf from g s × (found < 2 ^ k s) × ((j : ℕ) → j < k s → (j ∈ found) ↔ Satisfied (belief_sets s g) (negation s j))
  values found e =
      let (s, h, (first, _), d) = others found e in
      let w = belief_sets s g in
      let z : meant.other found ≡ meant.other (guess_found s w) = sym d ∙ other_verdict s g (ap meant.is_other d) in
      let same : found ≡ guess_found s w = cc in (
        s,
        h,
        subst (λ f. f < 2 ^ k s) (sym same) (found_below s w),
        λ j l. subst (λ f. (j ∈ f) ↔ Satisfied w (negation s j)) (sym same) (found_exact s w (belief_below s g) first j l),
      )

  pub verdict_demand : VerdictDemand from g v
  verdict_demand = record {
    verified_exactly = (
      λ p. let (known, possible, sets, e) = p in
          let (s, h, m) = says known possible sets e in (s, h, m.verifiable),
      λ p. let (s, h, m) = p in (
        known_in s (belief_sets s g),
        possible_in (belief_sets s g),
        length (belief_sets s g),
        answered ∙ calls_proved.verifiable_verified from g h m,
      ),
    );
    verified_values = says;
    empty_exactly = (
      λ e. let (s, h, d) = verdict_was e in (s, h, (dec_empty s g).yes (ap meant.is_empty d)),
      λ p. let (s, h, n) = p in verdict-then h (ap accepted (empty_verdict s g (is_true (dec_empty s g) n))),
    );
    other_exactly = (
      λ p. let (found, e) = p in
          let (s, h, n, _) = others found e in (s, h, n),
      λ p. let (s, h, n) = p in
          (guess_found s (belief_sets s g), verdict-then h (ap accepted (other_verdict s g (is_true (dec_unverifiable s g h.below) n)))),
    );
    other_values = values;
    refused_before = λ number place e. refuses ((calls_proved.for_guess_refused from g number place).1 (inl e));
    guess_refused = λ s e l. refuses ((calls_proved.for_guess_refused from g 8 0).1 (inr (s, e, l, refl, refl)));
  }

-- by what the call ensures
module _ (from : Returned Setting) (g : ℕ) (r : OrRefused ℕ) (before after : List ℕ)
    (counts : counted r ≡ answer length (belief_sets_call from g (length before)))
    (leaves : after ≡ afterwards (λ w. w) (belief_sets_call from g (length before)) before) where
  answers : {q : Returned (List ℕ)} {u : Returned ℕ} → belief_sets_call from g (length before) ≡ q → answer length q ≡ u → counted r ≡ u
  answers d e = counts ∙ ap (answer length) d ∙ e

  given : {s : Setting} {w : List ℕ} → calls.GuessOf from g s → SetsOf s g w → belief_sets_call from g (length before) ≡ sets_into (length before) w
  given h o = calls_proved.sets-given from g (length before) h ∙ ap (sets_into (length before)) (sym (sets-only o))

  turned_back : {number place : ℕ} → for_guess from g ≡ refusal number place → counted r ≡ refusal number place
  turned_back e = answers ((calls_proved.sets_refused from g (length before) _ _).1 (inl e)) refl

  pub sets_demand : SetsDemand from g r before after
  sets_demand = record {
    sets-written = λ n e.
        let (w, d, long) = answer_accepted length (belief_sets_call from g (length before)) (sym counts ∙ e) in
        let (s, h, same, fit) = calls_proved.sets_say from g (length before) w d in
        let left = leaves ∙ ap (λ q. afterwards (λ z. z) q before) d in
        let first = ap (take n) left ∙ take_at w (drop (length w) before) n long in
        record {
          of = s;
          guess_of = h;
          models = subst (SetsOf s g) (sym (first ∙ same)) (sets_of s g);
          rest = ap (drop n) left ∙ drop_at w (drop (length w) before) n long ∙ ap (λ m. drop m before) long;
          fits = omega arith;
        };
    sets-fit = λ s h w o l. answers {q = accepted w} (given h o ∙ fits_limited _ (length before) _ w l) refl;
    refused_before = λ number place e. turned_back ((calls_proved.for_guess_refused from g number place).1 (inl e));
    guess_refused = λ s e l. turned_back ((calls_proved.for_guess_refused from g 8 0).1 (inr (s, e, l, refl, refl)));
    sets_too_many = λ s h w o l. answers {q = refusal 9 (length w)} (given h o ∙ short_limited _ (length before) _ w l) refl;
    refused_keeps = λ number place e. leaves ∙ ap (λ q. afterwards (λ z. z) q before) (answer_refused length (belief_sets_call from g (length before)) (sym counts ∙ e));
  }
