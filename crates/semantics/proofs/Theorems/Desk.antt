-- The desk call: words as bytes, the numbers it returns, and a buffer of words in which every listing fits. Assumes nothing.
use Rattle.std.specs.Prelude.{ℕ, ◌+◌, ◌*◌, ◌^◌, ◌/◌, ◌%◌, ◌≤◌, ◌<◌, ◌≡◌, refl, List, [], ◌∷◌, ◌++◌, length}
use Rattle.std.proofs.Common.{ap₂, ⊎_elim, arith, pow_mono}
use Rattle.sets.specs.Lists.{flat}
use Rattle.semantics.specs.Definitions.Setting.{Setting, k}
use Rattle.semantics.specs.Definitions.Check.{most_negations}
use Rattle.semantics.specs.Definitions.Returned.{Returned, accepted, refusal}
use Rattle.semantics.specs.Definitions.Listing.{tally_of, listing}
use Rattle.semantics.specs.Definitions.Calls.{list_into, records_need, list_call}
use Rattle.semantics.specs.Definitions.Desk.{bytes_of, words_in}
use Rattle.semantics.specs.Walk.{records_room}
use Rattle.semantics.specs.Theorems.Source.{Bounded}
use Rattle.semantics.specs.Theorems.Tally.{AtMost}
use Rattle.semantics.proofs.Theorems.Tally.{all_counted, tested-counted}
use Rattle.semantics.proofs.Theorems.Listing.{listing_long}
use Rattle.semantics.proofs.Theorems.ListCall.{list_refused}

-- ---- words as bytes
two : (w : ℕ) → w % 256 + 256 * (w / 256) ≡ w
two w = omega arith

-- the words that bytes stand for are read back, whatever follows
pub words_back : (ws rest : List ℕ) → words_in (bytes_of ws ++ rest) ≡ ws ++ words_in rest
unfolding flat words_in
words_back [] rest = refl
words_back (w ∷ ws) rest = ap₂ ◌∷◌ (two w) (words_back ws rest)

pub bytes_long : (ws : List ℕ) → length (bytes_of ws) ≡ 2 * length ws
unfolding flat
bytes_long [] = refl
bytes_long (w ∷ ws) = omega (arith, bytes_long ws)

-- ---- the counts of a listing within the limits are small
module _ {from : Returned Setting} (bounded : Bounded from) {s : Setting} (h : from ≡ accepted s) where
  few_guesses : 2 ^ k s ≤ 2 ^ most_negations
  few_guesses = pow_mono (bounded.few_negations s h)

  pub tally_small : AtMost (tally_of s) (2 ^ most_negations)
  tally_small =
      let a = all_counted s in
      let b = tested-counted s in
      let f = few_guesses in
      (omega arith, omega arith, omega arith, omega arith, omega arith, omega arith)

  pub views_few : length (listing s) ≤ records_room
  views_few = let e = listing_long s in let f = tally_small.0 in omega arith

module _ {from : Returned Setting} (bounded : Bounded from) (words number place : ℕ) where
  -- every refusal of a listing has a number above 0, and a place that fits two bytes
  pub refused_small : (needed : ℕ → ℕ) → list_into needed from words ≡ refusal number place → (1 ≤ number) × (place < 65536)
  refused_small needed e =
      ⊎_elim (bounded.told_apart number place)
      (λ (s, h, _, n, q). let few = views_few bounded h in (omega arith, omega arith))
      ((list_refused needed from words number place).0 e)

  -- a buffer that has room for all records is never too short
  pub never_short : 4 * records_room ≤ words → list_call from words ≡ refusal number place → from ≡ refusal number place
  never_short long e =
      ⊎_elim (λ d. d) (λ (s, h, l, _, _). let few = views_few bounded h in absurd (omega arith))
      ((list_refused records_need from words number place).0 e)
