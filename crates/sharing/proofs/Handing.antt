-- What is handed out at the end of the run is what the definitions say. Assumes nothing.
use Prim.Native.Nat.{ℕ, ◌+◌, ◌*◌, ◌≤◌, ◌<◌}
use mathlib.Core.Path.{◌≡◌, refl, sym, ap, ◌∙◌, subst}
use mathlib.Core.Bool.{Bool, true, false, not}
use mathlib.Core.List.{List, [], ◌∷◌, map}
use native.Mathlib.Nat.{zero-add}
use native.Mathlib.Omega.{arith}
use borrow.Author.Tests.{lt-ltb, le-ltb}
use lib.ListN.{length, get_or, length-map, get_or-map}
use lib.Seq.{length-take-le}
use Rattle.sets.specs.Lists.{up_to, length-up_to, get_or-up_to}
use Rattle.semantics.specs.Definitions.Setting.{Setting}
use Rattle.semantics.specs.Definitions.Returned.{accepted, refusal, written}
use Rattle.semantics.specs.Definitions.Listing.{words}
use Rattle.semantics.specs.Definitions.Sharing.{tests_of, finished_in, turns_at, Share, share_of, paid, shares_of, granted, denied, ◌and_so◌, share_into, shares_into, Numbers, numbers_of, absent, filled, handed}
use Rattle.semantics.specs.Theorems.Returned.{fits_limited, short_limited}
use Rattle.allowance.specs.SheetBySheet.{each_granted, each_denied}
use Rattle.allowance.specs.Shares.{shares_long, share-at, share_tests}
use Rattle.source.specs.Sources.{Source}
use Rattle.listing.specs.declared.paused.Paused.{Paused}
use Rattle.records.specs.Records.{views_in, views_in_long}
use Rattle.listing.specs.Pauses.{fresh, waits}
use Rattle.sharing.specs.Held.{setting_at, settings_in, Served, spent_in, Idle}
use Rattle.std.specs.Prelude.{Some}
use Rattle.answers.specs.Refusals.{number_of}
use Rattle.answers.specs.declared.refusal.Refusal.{Refusal}
use Rattle.sharing.specs.declared.result.SharedRefusal.{SharedRefusal}
use Rattle.sharing.specs.Refusals.{FitTo, FirstShort}
use Rattle.sharing.specs.Handed.{four, numbers_at, carried_in, handed_at}

-- ---- four places
pub filled-four : (l : List Numbers) (f : ℕ → Numbers) → length l ≤ 4 → ((q : ℕ) → q < length l → get_or l q absent ≡ f q) → ((q : ℕ) → length l ≤ q → absent ≡ f q)
    → filled l ≡ f 0 ∷ f 1 ∷ f 2 ∷ f 3 ∷ []
filled-four [] f h w b = λ i. b 0 (omega arith) i ∷ b 1 (omega arith) i ∷ b 2 (omega arith) i ∷ b 3 (omega arith) i ∷ []
filled-four (x ∷ []) f h w b = λ i. w 0 (omega arith) i ∷ b 1 (omega arith) i ∷ b 2 (omega arith) i ∷ b 3 (omega arith) i ∷ []
filled-four (x ∷ y ∷ []) f h w b = λ i. w 0 (omega arith) i ∷ w 1 (omega arith) i ∷ b 2 (omega arith) i ∷ b 3 (omega arith) i ∷ []
filled-four (x ∷ y ∷ z ∷ []) f h w b = λ i. w 0 (omega arith) i ∷ w 1 (omega arith) i ∷ w 2 (omega arith) i ∷ b 3 (omega arith) i ∷ []
filled-four (x ∷ y ∷ z ∷ u ∷ []) f h w b = λ i. w 0 (omega arith) i ∷ w 1 (omega arith) i ∷ w 2 (omega arith) i ∷ w 3 (omega arith) i ∷ []
filled-four (x ∷ y ∷ z ∷ u ∷ v ∷ l) f h w b = absurd (omega (arith, h))

-- of no sheet
abbrev pub none : Share
none = record { finished = true; tests = 0; views = [] }

pub handed-four : (l : List Share) (f : ℕ → List ℕ → List ℕ) → length l ≤ 4 → ((q : ℕ) → q < length l → (o : List ℕ) → written (words (get_or l q none).views) o ≡ f q o)
    → ((q : ℕ) → length l ≤ q → (o : List ℕ) → o ≡ f q o) → (oa ob oc od : List ℕ) → handed l (four oa ob oc od) ≡ four (f 0 oa) (f 1 ob) (f 2 oc) (f 3 od)
unfolding handed
handed-four [] f h w b oa ob oc od = λ i. four (b 0 (omega arith) oa i) (b 1 (omega arith) ob i) (b 2 (omega arith) oc i) (b 3 (omega arith) od i)
handed-four (x ∷ []) f h w b oa ob oc od = λ i. four (w 0 (omega arith) oa i) (b 1 (omega arith) ob i) (b 2 (omega arith) oc i) (b 3 (omega arith) od i)
handed-four (x ∷ y ∷ []) f h w b oa ob oc od = λ i. four (w 0 (omega arith) oa i) (w 1 (omega arith) ob i) (b 2 (omega arith) oc i) (b 3 (omega arith) od i)
handed-four (x ∷ y ∷ z ∷ []) f h w b oa ob oc od = λ i. four (w 0 (omega arith) oa i) (w 1 (omega arith) ob i) (w 2 (omega arith) oc i) (b 3 (omega arith) od i)
handed-four (x ∷ y ∷ z ∷ u ∷ []) f h w b oa ob oc od = λ i. four (w 0 (omega arith) oa i) (w 1 (omega arith) ob i) (w 2 (omega arith) oc i) (w 3 (omega arith) od i)
handed-four (x ∷ y ∷ z ∷ u ∷ v ∷ l) f h w b oa ob oc od = absurd (omega (arith, h))

-- ---- the run's end
twice : (b : Bool) → not (not b) ≡ b
twice true = refl
twice false = refl

module _ (sources : List Source) (words' : List (List ℕ)) (n allowance : ℕ) (states : List Paused) (records : List (List ℕ)) (few : n ≤ 4) (idle : Idle n states)
    (served : Served sources words' n allowance states records) (spent : spent_in states ≡ length (paid allowance (settings_in sources words' n))) where
  abbrev ss : List Setting
  ss = settings_in sources words' n

  abbrev each : List Share
  each = (shares_of allowance ss).each

  settings_long : length ss ≡ n
  settings_long = length-map (up_to n) (setting_at sources words') ∙ length-up_to n

  each_long : length each ≡ n
  each_long = shares_long allowance ss ∙ settings_long

  -- the share at a position
  is_share : (q : ℕ) → q < n → (d : Share) → get_or each q d ≡ share_of (setting_at sources words' q) (turns_at (paid allowance ss) q)
  is_share q h d =
      share-at allowance ss q (omega (arith, h, settings_long)) d (setting_at sources words' 0)
      ∙ ap (λ s. share_of s (turns_at (paid allowance ss) q)) (get_or-up_to (setting_at sources words') (setting_at sources words' 0) n q h)

  pub views_at : (q : ℕ) → q < n → (d : Share) → views_in (get_or records q []) (get_or states q fresh).tally.views ≡ (get_or each q d).views
  views_at q h d = (served q h).views_are ∙ ap (λ x. x.views) (sym (is_share q h d))

  pub views_number : (q : ℕ) → q < n → (d : Share) → (get_or states q fresh).tally.views ≡ length (get_or each q d).views
  views_number q h d = sym (views_in_long (get_or records q []) (get_or states q fresh).tally.views) ∙ ap length (views_at q h d)

  numbers-at : (q : ℕ) → q < n → (d : Share) → numbers_of (get_or each q d) ≡ numbers_at (get_or states q fresh)
  numbers-at q h d =
      let m = turns_at (paid allowance ss) q in
      let s = setting_at sources words' q in
      let x = is_share q h d in
      let inside : m ≤ length (tests_of s) = subst (λ z. m ≤ length (tests_of z)) (get_or-up_to (setting_at sources words') (setting_at sources words' 0) n q h)
      (subst (λ z. z.tests ≤ length (tests_of (get_or ss q (setting_at sources words' 0)))) x (share_tests allowance ss q (omega (arith, h, settings_long)) d (setting_at sources words' 0))) in
      let finished : (get_or each q d).finished ≡ not (waits (get_or states q fresh)) = ap (λ z. z.finished) x ∙ sym (twice (finished_in s m)) ∙ ap not (sym (served q h).waits_where) in
      let tests : (get_or each q d).tests ≡ (get_or states q fresh).tally.tested = ap (λ z. z.tests) x ∙ sym (length-take-le m (tests_of s) inside) ∙ sym (served q h).tests_are in
      λ i. record { finished = finished i; tests = tests i; views = sym (views_number q h d) i }

  -- what the result carries
  pub carried_is : carried_in states ≡ record { tests = (shares_of allowance ss).tests; each = filled (map numbers_of each) }
  carried_is =
      let long : length (map numbers_of each) ≡ n = length-map each numbers_of ∙ each_long in
      let places = filled-four (map numbers_of each) (λ q. numbers_at (get_or states q fresh)) (omega (arith, long, few))
      (λ q h. number q (omega (arith, h, long)))
      (λ q h. sym (ap numbers_at (idle q (omega (arith, h, long))))) in
      λ i. record { tests = spent i; each = sym places i }
    where
      number : (q : ℕ) → q < n → get_or (map numbers_of each) q absent ≡ numbers_at (get_or states q fresh)
      number q h = get_or-map numbers_of each q none ∙ numbers-at q h none

  -- the buffers
  pub handed_is : (oa ob oc od : List ℕ) → handed each (four oa ob oc od)
      ≡ four (handed_at n states records 0 oa) (handed_at n states records 1 ob) (handed_at n states records 2 oc) (handed_at n states records 3 od)
  handed_is =
      handed-four each (handed_at n states records) (omega (arith, each_long, few)) (λ q h o. one q (omega (arith, h, each_long)) o) (λ q h o. other q (omega (arith, h, each_long)) o)
    where
      one : (q : ℕ) → q < n → (o : List ℕ) → written (words (get_or each q none).views) o ≡ handed_at n states records q o
      one q h o = ap (λ vs. written (words vs) o) (sym (views_at q h none)) ∙ rw (lt-ltb q n h) refl

      other : (q : ℕ) → n ≤ q → (o : List ℕ) → o ≡ handed_at n states records q o
      other q h o = rw (le-ltb q n h) refl

  -- refusal 9
  module _ (rooms : List ℕ) where
    fit : (q : ℕ) → q < n → 4 * (get_or states q fresh).tally.views ≤ get_or rooms q 0 → share_into rooms (0 + q) (get_or each q none) ≡ accepted (get_or each q none)
    fit q h room =
        subst (λ m. share_into rooms m (get_or each q none) ≡ accepted (get_or each q none)) (sym (zero-add q))
        (fits_limited (4 * length (get_or each q none).views) (get_or rooms q 0) (length (get_or each q none).views) (get_or each q none) (omega (arith, room, views_number q h none)))

    pub all_fit : FitTo states rooms n → shares_into rooms (shares_of allowance ss) ≡ granted (shares_of allowance ss)
    all_fit fits =
        ap (λ r. r and_so λ _. granted (shares_of allowance ss))
        (each_granted (share_into rooms) 0 each each none none refl (λ q h. fit q (omega (arith, h, each_long)) (fits q (omega (arith, h, each_long)))))

    pub one_short : {r : SharedRefusal} → FirstShort states rooms n (Some r)
        → shares_into rooms (shares_of allowance ss) ≡ denied (number_of r.refusal.reason) r.refusal.place r.position
    one_short {r} (h, fits, short, is) =
        let position = r.position in
        let place = r.refusal.place in
        let nine : number_of r.refusal.reason ≡ 9 = ap (λ (q : Refusal). number_of q.reason) is in
        let views : place ≡ (get_or states position fresh).tally.views = ap (λ (q : Refusal). q.place) is in
        let x = get_or each position none in
        let refused : share_into rooms (0 + position) x ≡ refusal 9 (length x.views) = subst (λ m. share_into rooms m x ≡ refusal 9 (length x.views)) (sym (zero-add position))
        (short_limited (4 * length x.views) (get_or rooms position 0) (length x.views) x (omega (arith, short, views_number position h none))) in
        ap (λ r. r and_so λ _. granted (shares_of allowance ss))
        (each_denied (share_into rooms) 0 each none position 9 (length x.views) (omega (arith, h, each_long)) (λ p b. (get_or each p none, fit p (omega (arith, b, h)) (fits p b))) refused)
        ∙ ap (λ v. denied 9 v (0 + position)) (sym (views ∙ views_number position h none)) ∙ ap (denied 9 place) (zero-add position) ∙ ap (λ m. denied m place position) (sym nine)
