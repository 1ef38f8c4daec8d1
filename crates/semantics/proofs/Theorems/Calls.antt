-- What the calls that take a guess return. Refusals 8 and 9, exactly when; 'verified' exactly when the guess is reduct-verifiable (000,
-- Definition 5); and the belief sets, exactly the stable models of its reduct, each once, rising. Assumes nothing.
use Rattle.std.specs.Prelude.{ℕ, ◌^◌, ◌≤◌, ◌≡◌, List, ◌↔◌, ◌⊎◌}
use Rattle.std.proofs.Math.Path.{sym, ap, subst}
use Rattle.std.proofs.Common.{◌∙◌, arith, pow_mono}
use Rattle.std.proofs.Math.Logic.{inl, inr, ⊎_elim}
use Rattle.std.proofs.Math.ListN.{length}
use Rattle.sets.specs.Decides.{is_true}
use Rattle.semantics.specs.Definitions.Sheet.{most_atoms}
use Rattle.semantics.specs.Definitions.Setting.{Setting, k}
use Rattle.semantics.specs.Definitions.Returned.{Returned, accepted, refusal, ◌and_then◌, answer}
use Rattle.semantics.specs.Definitions.Verdict.{belief_sets, known_in, possible_in, Verdict, verified, verdict}
use Rattle.semantics.specs.Definitions.Calls.{for_guess, verdict_call, sets_into, belief_sets_call}
use Rattle.semantics.proofs.Theorems.Stable.{belief_sets_few}
use Rattle.semantics.specs.Theorems.Returned.{then_accepted, then_refused, answer_accepted, answer_refused, limited_fits, limited_short, short_limited}
use Rattle.semantics.specs.Theorems.Source.{Bounded}
use Rattle.semantics.proofs.Theorems.Source.{below_accepted, below_refused}
use Rattle.semantics.specs.Theorems.Verdict.{Verifiable, Verified}
use Rattle.semantics.proofs.Theorems.Verdict.{definition_5, verified_verdict, verified_means}
use Rattle.semantics.specs.Theorems.Calls.{GuessOf, NoGuess}
use Rattle.semantics.specs.Theorems.Calls as defined

module _ (from : Returned Setting) (g : ℕ) where
  pub for_guess_accepted : (s : Setting) → for_guess from g ≡ accepted s ↔ GuessOf from g s
  unfolding for_guess
  for_guess_accepted = below_accepted (λ s. 2 ^ k s) 8 from g

  -- refused: the source is, or the guess is not below 2^k
  pub for_guess_refused : (number place : ℕ) → for_guess from g ≡ refusal number place ↔ ((from ≡ refusal number place) ⊎ NoGuess from g number place)
  unfolding for_guess
  for_guess_refused = below_refused (λ s. 2 ^ k s) 8 from g

  -- what a call returns that takes a guess
  for_guess_lem : {A : Type 0} (rest : Setting → Returned A) {s : Setting} → GuessOf from g s → (for_guess from g and_then rest) ≡ rest s
  for_guess_lem rest {s} h = ap (λ r. r and_then rest) ((for_guess_accepted s).1 h)

  -- ---- the verdict
  pub verdict_refused : (number place : ℕ) → verdict_call from g ≡ refusal number place ↔ (for_guess from g ≡ refusal number place)
  unfolding verdict_call
  verdict_refused number place = (answer_refused (λ s. verdict s g) (for_guess from g), ap (answer (λ s. verdict s g)))

  pub verdict_is : {s : Setting} → GuessOf from g s → verdict_call from g ≡ accepted (verdict s g)
  unfolding verdict_call
  verdict_is = for_guess_lem (λ s. accepted (verdict s g))

  pub is_verdict : (v : Verdict) → verdict_call from g ≡ accepted v → (s : Setting) × GuessOf from g s × (verdict s g ≡ v)
  unfolding verdict_call
  is_verdict v e =
      let (s, d, f) = answer_accepted (λ s. verdict s g) (for_guess from g) e in
      (s, (for_guess_accepted s).0 d, f)

  pub verified_says : (known possible sets : ℕ) → verdict_call from g ≡ accepted (verified known possible sets)
      → (s : Setting) × GuessOf from g s × Verified s g known possible sets
  verified_says known possible sets e =
      let (s, h, d) = is_verdict (verified known possible sets) e in
      (s, h, verified_means s g h.below d)

  pub verifiable_verified : {s : Setting} → GuessOf from g s → Verifiable s g
      → verdict_call from g ≡ accepted (verified (known_in s (belief_sets s g)) (possible_in (belief_sets s g)) (length (belief_sets s g)))
  verifiable_verified {s} h v = verdict_is h ∙ ap accepted (verified_verdict s g (is_true (definition_5 s g h.below) v))

  -- ---- the belief sets
  pub sets-given : (words : ℕ) {s : Setting} → GuessOf from g s → belief_sets_call from g words ≡ sets_into words (belief_sets s g)
  unfolding belief_sets_call
  sets-given words = for_guess_lem (λ s. sets_into words (belief_sets s g))

  pub sets_say : (words : ℕ) (w : List ℕ) → belief_sets_call from g words ≡ accepted w → (s : Setting) × GuessOf from g s × (w ≡ belief_sets s g) × (length w ≤ words)
  unfolding belief_sets_call
  sets_say words w e =
      let (s, d, f) = then_accepted (for_guess from g) (λ s. sets_into words (belief_sets s g)) e in
      let (same, l) = limited_fits _ words _ (belief_sets s g) f in
      (s, (for_guess_accepted s).0 d, sym same, subst (λ z. length z ≤ words) same l)

  -- never more than 2^15
  pub sets_few : Bounded from → {s : Setting} → GuessOf from g s → length (belief_sets s g) ≤ 2 ^ most_atoms
  sets_few bounded {s} h =
      let few : 2 ^ s.atoms ≤ 2 ^ most_atoms = pow_mono (bounded.few_atoms s h.of) in
      omega (arith, few, belief_sets_few s g)

  -- there are more sets than words
  abbrev TooMany : (words number place : ℕ) → Type 0
  TooMany = defined.TooMany from g

  -- refused: the source or the guess is, or that is so
  pub sets_refused : (words number place : ℕ) → belief_sets_call from g words ≡ refusal number place
      ↔ ((for_guess from g ≡ refusal number place) ⊎ TooMany words number place)
  unfolding belief_sets_call
  sets_refused words number place =
      let both = then_refused (for_guess from g) (λ s. sets_into words (belief_sets s g)) number place in (
        λ e. ⊎_elim inl (λ (s, d, f). let (l, n, p) = limited_short _ words _ (belief_sets s g) f in inr (s, (for_guess_accepted s).0 d, l, n, p)) (both.0 e),
        ⊎_elim (λ d. both.1 (inl d)) (λ (s, h, l, n, p). rw (n, p) (sets-given words h ∙ short_limited _ words _ (belief_sets s g) l)),
      )
