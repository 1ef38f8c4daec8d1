-- What the listing returns, for every source and number of words. Assumes nothing.
use Rattle.std.specs.Prelude.{ℕ, ◌≤◌, ◌≡◌, ◌↔◌, ◌⊎◌, length}
use Rattle.std.proofs.Common.{sym, ap, ◌∙◌, inl, inr, ⊎_elim}
use Rattle.semantics.specs.Definitions.Setting.{Setting}
use Rattle.semantics.specs.Definitions.Returned.{Returned, accepted, refusal, ◌and_then◌}
use Rattle.semantics.specs.Definitions.Listing.{listing}
use Rattle.semantics.specs.Definitions.Calls.{Result, result_of, result_into, list_into}
use Rattle.semantics.specs.Theorems.Returned.{then_accepted, then_refused, limited_fits, limited_short, short_limited}
use Rattle.semantics.specs.Theorems.ListCall as defined

-- the result of a listing into so many words, whatever the views need
module _ (needed : ℕ → ℕ) (from : Returned Setting) (words : ℕ) where
  abbrev result : Setting → Returned Result
  result s = result_into needed words (result_of s)

  pub result-given : {s : Setting} → from ≡ accepted s → list_into needed from words ≡ result_into needed words (result_of s)
  result-given e = ap (λ r. r and_then result) e

  -- accepted: the views fit
  pub result_says : {r : Result} → list_into needed from words ≡ accepted r
      → (s : Setting) × (from ≡ accepted s) × (r ≡ result_of s) × (needed (length (listing s)) ≤ words)
  result_says e =
      let (s, d, f) = then_accepted from result e in
      let (same, fit) = limited_fits _ words _ (result_of s) f in
      (s, d, sym same, fit)

  -- what the views need is over the words
  abbrev TooManyViews : (number place : ℕ) → Type 0
  TooManyViews = defined.TooManyViews needed from words

  -- refused: the source is, or that is so
  pub list_refused : (number place : ℕ) → list_into needed from words ≡ refusal number place ↔ ((from ≡ refusal number place) ⊎ TooManyViews number place)
  list_refused number place =
      let both = then_refused from result number place in (
        λ e. ⊎_elim inl (λ (s, d, f). let (l, n, p) = limited_short _ words _ (result_of s) f in inr (s, d, l, n, p)) (both.0 e),
        ⊎_elim (λ d. both.1 (inl d)) (λ (s, h, l, n, p). rw (n, p) (result-given h ∙ short_limited _ words _ (result_of s) l)),
      )
