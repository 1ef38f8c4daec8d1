-- The walk along a list of guesses, entry by entry, and at its end. Assumes nothing.
use Prim.Native.Nat.{ℕ, ◌+◌, ◌^◌, ◌≤◌, ◌<◌}
use mathlib.Core.Path.{◌≡◌, refl, sym, ap, ◌∙◌, subst}
use mathlib.Core.List.{List, [], ◌∷◌, ◌++◌, append-nil, foldl}
use native.Mathlib.Numerals.{add-one}
use native.Mathlib.Omega.{arith}
use borrow.Author.Tests.{lt-ltb, le-ltb}
use lib.Dec.{ltb}
use lib.ListN.{length, get_or, take, drop, length-append, take-append-drop}
use lib.Seq.{take-suc, take-length}
use Rattle.sets.specs.Lists.{keep, only, keep_append, keep_snoc, up_to}
use Rattle.semantics.specs.Definitions.Setting.{Setting, k}
use Rattle.semantics.specs.Definitions.Order.{members_below}
use Rattle.semantics.specs.Walk.{Walked, start, outcome, walk, advance}
use Rattle.semantics.specs.Theorems.Order.{Enumerates}
use Rattle.semantics.proofs.Theorems.Order.{enumerates_long}
use Rattle.semantics.specs.Theorems.Tally.{AtMost}
use Rattle.semantics.proofs.Theorems.Walk.{walk_more, walk_is}
use Rattle.records.specs.Records.{views_in}
use Rattle.listing.specs.Walks.{ListingAlong}
use Rattle.listing.proofs.Steps.{one_at_most}

-- ---- the guesses of n negations among the first i entries
abbrev pub passed : (n : ℕ) → List ℕ → (i : ℕ) → List ℕ
passed n l i = members_below n (take i l)

pub passed_begin : (n : ℕ) (l : List ℕ) (i : ℕ) → members_below n l ≡ passed n l i ++ members_below n (drop i l)
passed_begin n l i = ap (members_below n) (sym (take-append-drop i l)) ∙ keep_append (λ g. ltb g (2 ^ n)) (take i l) (drop i l)

-- entry i is a guess, or is passed over
module _ (n : ℕ) (l : List ℕ) (i : ℕ) (h : i < length l) where
  abbrev g : ℕ
  g = get_or l i 0

  passed-more : passed n l (i + 1) ≡ passed n l i ++ only (ltb g (2 ^ n)) g
  passed-more = ap (passed n l) (add-one i) ∙ ap (members_below n) (take-suc l i 0 h) ∙ keep_snoc (λ g. ltb g (2 ^ n)) (take i l) g

  passed_guess : g < 2 ^ n → passed n l (i + 1) ≡ passed n l i ++ g ∷ []
  passed_guess b = passed-more ∙ rw (lt-ltb g (2 ^ n) b)

  passed_over : 2 ^ n ≤ g → passed n l (i + 1) ≡ passed n l i
  passed_over b = passed-more ∙ rw (le-ltb g (2 ^ n) b) (append-nil (passed n l i))

-- ---- the walk over them
pub along_first : (s : Setting) (n : ℕ) (l ws : List ℕ) → record { met = views_in ws 0; tally = start.tally } ≡ walk s (passed n l 0)
unfolding keep walk views_in up_to
along_first s n l ws = refl

module _ (s : Setting) (n : ℕ) (l : List ℕ) (i : ℕ) (h : i < length l) {w : Walked} (e : w ≡ walk s (passed n l i)) where
  pub along_more : get_or l i 0 < 2 ^ n → {v : Walked} → v ≡ advance s w (get_or l i 0) → v ≡ walk s (passed n l (i + 1))
  along_more b d =
      d ∙ ap (λ z. advance s z (get_or l i 0)) e ∙ sym (walk_more s (passed n l i) (get_or l i 0)) ∙ ap (walk s) (sym (passed_guess n l i h b))

  pub along_same : 2 ^ n ≤ get_or l i 0 → w ≡ walk s (passed n l (i + 1))
  along_same b = e ∙ ap (walk s) (sym (passed_over n l i h b))

-- no count is over the number of guesses
walk_few : (s : Setting) (d : List ℕ) → AtMost (walk s d).tally (length d)
unfolding walk
walk_few s d = from d start 0 (omega arith) (omega arith)
  where
    from : (r : List ℕ) (w : Walked) (n : ℕ) → AtMost w.tally n → n + length r ≤ length d → AtMost (foldl (advance s) w r).tally (length d)
    from [] w n a h = omega arith
    from (g ∷ r) w n a h = from r (advance s w g) (n + 1) (one_at_most w.tally n (outcome s w.met g) a) (omega arith)

-- ---- along all guesses, each once
module _ (n : ℕ) (l : List ℕ) (en : Enumerates n (members_below n l)) where
  few_passed : (i : ℕ) → length (passed n l i) ≤ 2 ^ n
  few_passed i =
      let begin = ap length (passed_begin n l i) ∙ length-append (passed n l i) (members_below n (drop i l)) in
      omega (arith, begin, enumerates_long n (members_below n l) en)

  module _ (s : Setting) (i : ℕ) {w : Walked} (e : w ≡ walk s (passed n l i)) where
    counts : AtMost w.tally (length (passed n l i))
    counts = rw e (walk_few s (passed n l i))

    pub counts_few : AtMost w.tally (2 ^ n)
    counts_few = omega (arith, counts, few_passed i)

    -- where a guess is left there is a view less
    pub views_fewer : i < length l → get_or l i 0 < 2 ^ n → w.tally.views < 2 ^ n
    views_fewer h b =
        let more = ap length (passed_guess n l i h b) ∙ length-append (passed n l i) (get_or l i 0 ∷ []) in
        omega (arith, counts.0, few_passed (i + 1), more)

-- ---- at its end it has the whole listing
pub along_whole : (s : Setting) (n : ℕ) (l : List ℕ) → n ≡ k s → Enumerates n (members_below n l) → {w : Walked} → w ≡ walk s (passed n l (length l))
    → ListingAlong s l w.tally w.met
along_whole s n l same en e =
    let is = e ∙ ap (λ j. walk s (passed j l (length l))) same ∙ ap (λ z. walk s (members_below (k s) z)) (take-length l)
    ∙ walk_is s (members_below (k s) l) (subst (λ j. Enumerates j (members_below j l)) same en) in
    (ap (λ z. z.tally) is, ap (λ z. z.met) is)
