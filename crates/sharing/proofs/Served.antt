-- The run: where the sheets stand between the rounds, and what each has at its end. Assumes nothing.
use Prim.Native.Nat.{ℕ, zero, suc, ◌+◌, ◌*◌, ◌^◌, ◌≤◌, ◌<◌}
use native.Mathlib.Numerals.{add-one}
use mathlib.Core.Path.{◌≡◌, refl, sym, ap, ◌∙◌, subst}
use mathlib.Core.Bool.{true, false, not}
use mathlib.Core.List.{List, [], ◌∷◌, map}
use mathlib.Core.Logic.{⊎_elim}
use native.Mathlib.Omega.{arith}
use borrow.Author.Tests.{not-true, not-false}
use lib.ListN.{length, get_or, take, drop, length-map}
use lib.Pow.{pow_mono}
use Rattle.sets.specs.Decides.{decided, dec_lt}
use Rattle.sets.specs.Lists.{null, up_to, length-up_to, get_or-up_to, map_up_to_same}
use Rattle.sets.specs.Counting.{keep_shorter}
use Rattle.semantics.specs.Definitions.Setting.{Setting, k}
use Rattle.semantics.specs.Definitions.Check.{most_negations}
use Rattle.semantics.specs.Definitions.Order.{order as order_of}
use Rattle.semantics.specs.Definitions.Listing.{tested, views_along}
use Rattle.semantics.specs.Definitions.Sharing.{tests_of, met_in, finished_in, in_all, turns_at, paid}
use Rattle.semantics.proofs.Theorems.Order.{order_long}
use Rattle.allowance.specs.Allowance.{done, done-had, done_waits, done_spent, done_all, done_adds}
use Rattle.allowance.specs.Shares.{many-at, many_long, dec_tests, finished_many}
use Rattle.order.specs.Table.{table_width}
use Rattle.order.specs.Ordered.{table_enumerates}
use Rattle.source.specs.Sources.{Source}
use Rattle.std.specs.Prelude.{Ok, Err}
use Rattle.listing.specs.declared.paused.Paused.{Paused}
use Rattle.listing.specs.Pauses.{fresh, waits}
use Rattle.listing.proofs.Reaching.{few_counts, along_start}
use Rattle.sharing.specs.Held.{unread, setting_from, IsRead, Goes, Has, setting_at, settings_in, AllRead, AllGo, HasAt, Near, Served, spent_in, FewAll, Idle, Rounded}
use Rattle.sharing.proofs.Rounded.{four_spent}

-- ---- a sheet by itself
-- so many tests as it has with t
take_same : (t : ℕ) (l : List ℕ) → take (length (take t l)) l ≡ take t l
take_same zero l = refl
take_same (suc t) [] = refl
take_same (suc t) (x ∷ l) = ap (λ z. x ∷ z) (take_same t l)

none-same : (t : ℕ) (l : List ℕ) → null (drop (length (take t l)) l) ≡ null (drop t l)
none-same zero l = refl
none-same (suc t) [] = refl
none-same (suc t) (x ∷ l) = none-same t l

has_as_many : (s : Setting) (t : ℕ) (p : Paused) (records : List ℕ) → Has s t p records → Has s (length (take t (tests_of s))) p records
unfolding met_in finished_in
has_as_many s t p records h = record {
  tests_are = h.tests_are ∙ ap length (sym (take_same t (tests_of s)));
  views_are = h.views_are ∙ ap (λ l. views_along s l) (sym (take_same t (tests_of s)));
  waits_where = h.waits_where ∙ ap not (sym (none-same t (tests_of s)));
}

-- a test more
take_near : (t : ℕ) (l : List ℕ) → (length (take t l) ≤ length (take (suc t) l)) × (length (take (suc t) l) ≤ length (take t l) + 1)
take_near zero [] = (omega arith, omega arith)
take_near zero (x ∷ l) = (omega arith, omega arith)
take_near (suc t) [] = (omega arith, omega arith)
take_near (suc t) (x ∷ l) = let (a, b) = take_near t l in (omega (arith, a), omega (arith, b))

-- no more tests than guesses
tests_fit : (s : Setting) → length (tests_of s) ≤ 2 ^ k s
unfolding tests_of
tests_fit s = omega (arith, keep_shorter (tested s) (order_of (k s)), order_long (k s))

-- ---- one that is accepted
pub goes_first : (source : Source) (words order program records : List ℕ) → IsRead source words → Goes source words order fresh program records
goes_first (Ok x) words order program records o = along_start x words order program records
goes_first (Err q) words order program records o = o

few_guesses : (source : Source) (words : List ℕ) → IsRead source words → k (setting_from source words) ≤ most_negations
few_guesses (Ok x) words o = omega (arith, o.counted, o.few_negations)
few_guesses (Err q) words o = absurd o

goes_few : (source : Source) (words order : List ℕ) → order ≡ order_of table_width → IsRead source words → (p : Paused) (program records : List ℕ) → Goes source words order p program records
    → (p.tally.views ≤ 2 ^ most_negations) × (p.tally.tested ≤ 2 ^ most_negations)
goes_few (Ok x) words order is o p program records along = let few = few_counts order o (table_enumerates is o.few_negations) along in (few.0, few.3)
goes_few (Err q) words order is o p program records along = absurd o

-- ---- all of them
-- those beyond the first n have made no tests
pub spent_first : (l : List Paused) → length l ≡ 4 → (n : ℕ) → n ≤ 4 → Idle n l → spent_in l ≡ in_all (map (λ q. (get_or l q fresh).tally.tested) (up_to n))
unfolding in_all up_to
spent_first l e n h idle = four_spent l e ∙ go n h idle
  where
    none : (n : ℕ) → Idle n l → (q : ℕ) → n ≤ q → (get_or l q fresh).tally.tested ≡ 0
    none n idle q h = ap (λ z. z.tally.tested) (idle q h)

    go : (n : ℕ) → n ≤ 4 → Idle n l
        → (get_or l 0 fresh).tally.tested + (get_or l 1 fresh).tally.tested + (get_or l 2 fresh).tally.tested + (get_or l 3 fresh).tally.tested
        ≡ in_all (map (λ q. (get_or l q fresh).tally.tested) (up_to n))
    go zero h idle = omega (arith, none 0 idle 0 (omega arith), none 0 idle 1 (omega arith), none 0 idle 2 (omega arith), none 0 idle 3 (omega arith))
    go (suc zero) h idle = omega (arith, none 1 idle 1 (omega arith), none 1 idle 2 (omega arith), none 1 idle 3 (omega arith))
    go (suc (suc zero)) h idle = omega (arith, none 2 idle 2 (omega arith), none 2 idle 3 (omega arith))
    go (suc (suc (suc zero))) h idle = omega (arith, none 3 idle 3 (omega arith))
    go (suc (suc (suc (suc zero)))) h idle = omega arith
    go (suc (suc (suc (suc (suc n))))) h idle = absurd (omega arith)

module _ (sources : List Source) (words : List (List ℕ)) (n : ℕ) where
  settings_long : length (settings_in sources words n) ≡ n
  settings_long = length-map (up_to n) (setting_at sources words) ∙ length-up_to n

  -- how many tests each has to make
  abbrev many : List ℕ
  many = map (λ s. length (tests_of s)) (settings_in sources words n)

  as_many : length many ≡ n
  as_many = many_long (settings_in sources words n) ∙ settings_long

  many_is : (q : ℕ) → q < n → length (tests_of (setting_at sources words q)) ≡ get_or many q 0
  many_is q h =
      let none = setting_at sources words 0 in
      sym (many-at (settings_in sources words n) q none (omega (arith, settings_long, h)) ∙ ap (λ s. length (tests_of s)) (get_or-up_to (setting_at sources words) none n q h))

  -- r rounds, and the first p once more
  abbrev pub Mixed : (r p : ℕ) → List Paused → (records : List (List ℕ)) → Type 0
  Mixed r p states records =
      ((q : ℕ) → q < p → HasAt sources words (r + 1) states records q) × ((q : ℕ) → p ≤ q → q < n → HasAt sources words r states records q)

  module _ (states : List Paused) (records : List (List ℕ)) (four : length states ≡ 4) (few : n ≤ 4) (idle : Idle n states) (r p : ℕ) (within : p ≤ n)
      (mixed : Mixed r p states records) where
    had : (q : ℕ) → q < n → HasAt sources words (turns_at (done many r p) q) states records q × ((get_or states q fresh).tally.tested ≡ turns_at (done many r p) q)
    had q h =
        ⊎_elim
        (λ b. at (r + 1) (done-had many r p q b (omega (arith, within, as_many)) (tests_of (setting_at sources words q)) (many_is q h)) (mixed.0 q b))
        (λ b. at r (done_waits many r p q (omega (arith, b)) (omega (arith, h, as_many)) (tests_of (setting_at sources words q)) (many_is q h)) (mixed.1 q (omega (arith, b)) h))
        (decided (dec_lt q p))
      where
        at : (t : ℕ) → turns_at (done many r p) q ≡ length (take t (tests_of (setting_at sources words q))) → HasAt sources words t states records q
            → HasAt sources words (turns_at (done many r p) q) states records q × ((get_or states q fresh).tally.tested ≡ turns_at (done many r p) q)
        at t e x = (
          subst (λ m. HasAt sources words m states records q) (sym e) (has_as_many (setting_at sources words q) t (get_or states q fresh) (get_or records q []) x),
          x.tests_are ∙ sym e,
        )

    spent : spent_in states ≡ length (done many r p)
    spent =
        spent_first states four n few idle
        ∙ ap in_all (map_up_to_same (λ q. (get_or states q fresh).tally.tested) (turns_at (done many r p)) n (λ q h. (had q h).1))
        ∙ ap (λ m. in_all (map (turns_at (done many r p)) (up_to m))) (sym as_many) ∙ done_adds many r p (omega (arith, within, as_many))

    served_by : (allowance : ℕ) → paid allowance (settings_in sources words n) ≡ done many r p
        → Served sources words n allowance states records × (spent_in states ≡ length (paid allowance (settings_in sources words n)))
    served_by allowance e =
        (λ q h. subst (λ l. HasAt sources words (turns_at l q) states records q) (sym e) (had q h).0, spent ∙ ap length (sym e))

    -- the allowance is spent
    pub served_spent : (allowance : ℕ) → spent_in states ≡ allowance
        → Served sources words n allowance states records × (spent_in states ≡ length (paid allowance (settings_in sources words n)))
    served_spent allowance e = served_by allowance (done_spent many r p allowance (omega (arith, within, as_many)) (sym spent ∙ e))

  -- all are finished
  pub served_all : (states : List Paused) (records : List (List ℕ)) → length states ≡ 4 → n ≤ 4 → Idle n states → (r allowance : ℕ)
      → ((q : ℕ) → q < n → HasAt sources words r states records q) → ((q : ℕ) → q < n → waits (get_or states q fresh) ≡ false) → spent_in states ≤ allowance
      → Served sources words n allowance states records × (spent_in states ≡ length (paid allowance (settings_in sources words n)))
  served_all states records four few idle r allowance all ended le =
      served_by states records four few idle r 0 (omega arith) mixed allowance
      (done_all many r allowance (λ q h. finished q (omega (arith, h, as_many))) (omega (arith, le, spent states records four few idle r 0 (omega arith) mixed)))
    where
      mixed : Mixed r 0 states records
      mixed = (λ q b. absurd (omega (arith, b)), λ q _ h. all q h)

      finished : (q : ℕ) → q < n → get_or many q 0 ≤ r
      finished q h =
          omega (arith, many_is q h, (finished_many (setting_at sources words q) r).0 (not-false (finished_in (setting_at sources words q) r) (sym (all q h).waits_where ∙ ended q h)))

  -- all are finished where each had as many tests as there are guesses
  pub served_end : (order : List ℕ) → order ≡ order_of table_width → AllRead sources words n → (states : List Paused) (programs records : List (List ℕ)) → length states ≡ 4 → n ≤ 4 → Idle n states
      → AllGo sources words order n states programs records → (allowance : ℕ) → 4 * 2 ^ most_negations ≤ allowance → ((q : ℕ) → q < n → HasAt sources words (2 ^ most_negations) states records q)
      → Served sources words n allowance states records × (spent_in states ≡ length (paid allowance (settings_in sources words n)))
  served_end order is read states programs records four few idle go allowance enough all =
      served_all states records four few idle (2 ^ most_negations) allowance all ended (omega (arith, four_spent states four, at 0, at 1, at 2, at 3, enough))
    where
      ended : (q : ℕ) → q < n → waits (get_or states q fresh) ≡ false
      ended q h =
          let s = setting_at sources words q in
          let most : length (tests_of s) ≤ 2 ^ most_negations = omega (arith, tests_fit s, pow_mono (few_guesses (get_or sources q unread) (get_or words q []) (read q h))) in
          (all q h).waits_where ∙ ap not ((finished_many s (2 ^ most_negations)).1 most)

      at : (q : ℕ) → (get_or states q fresh).tally.tested ≤ 2 ^ most_negations
      at q =
          ⊎_elim
          (λ h. (goes_few (get_or sources q unread) (get_or words q []) order is (read q h) (get_or states q fresh) (get_or programs q []) (get_or records q []) (go q h)).1)
          (λ h. subst (λ z. z.tally.tested ≤ 2 ^ most_negations) (sym (idle q (omega (arith, h)))) (omega arith))
          (decided (dec_lt q n))

-- ---- between the rounds
module _ (sources : List Source) (words : List (List ℕ)) (order : List ℕ) (n : ℕ) where
  pub few_all : order ≡ order_of table_width → AllRead sources words n → (states : List Paused) (programs records : List (List ℕ)) → AllGo sources words order n states programs records → Idle n states
      → FewAll states
  few_all is read states programs records go idle q =
      ⊎_elim
      (λ h. goes_few (get_or sources q unread) (get_or words q []) order is (read q h) (get_or states q fresh) (get_or programs q []) (get_or records q []) (go q h))
      (λ h. subst (λ z. (z.tally.views ≤ 2 ^ most_negations) × (z.tally.tested ≤ 2 ^ most_negations)) (sym (idle q (omega (arith, h)))) (omega arith, omega arith))
      (decided (dec_lt q n))

  -- with a test more for each
  pub near_next : (t : ℕ) (states : List Paused) (records : List (List ℕ)) → ((q : ℕ) → q < n → HasAt sources words t states records q) → Near sources words n (t + 1) states
  near_next t states records all q h =
      let near = subst (λ m. (length (take t (tests_of (setting_at sources words q))) ≤ length (take m (tests_of (setting_at sources words q)))) × (length (take m (tests_of (setting_at sources words q))) ≤ length (take t (tests_of (setting_at sources words q))) + 1)) (sym (add-one t)) (take_near t (tests_of (setting_at sources words q))) in
      (omega (arith, (all q h).tests_are, near.0), omega (arith, (all q h).tests_are, near.1))

  -- one that waits has a guess left
  pub waits_below : AllRead sources words n → (t : ℕ) (states : List Paused) (records : List (List ℕ)) → ((q : ℕ) → q < n → HasAt sources words t states records q)
      → (q : ℕ) × (q < n) × (waits (get_or states q fresh) ≡ true) → t < 2 ^ most_negations
  waits_below read t states records all (q, h, e) =
      let s = setting_at sources words q in
      let open' : finished_in s t ≡ false = not-true (finished_in s t) (sym (all q h).waits_where ∙ e) in
      let left : length (tests_of s) ≤ t → ⊥ = (dec_tests s t).no open' in
      let more : t < length (tests_of s) = omega (arith, left) in
      omega (arith, more, tests_fit s, pow_mono (few_guesses (get_or sources q unread) (get_or words q []) (read q h)))

  -- ---- after a round with t + 1 tests
  module _ {t left : ℕ} {states states' : List Paused} {programs' records records' : List (List ℕ)} (all : (q : ℕ) → q < n → HasAt sources words t states records q)
      (d : Rounded sources words order n (t + 1) left states states' programs' records records') where
    pub idle_next : Idle n states → Idle n states'
    idle_next idle q h = d.others q (omega (arith, h, d.within)) ∙ idle q h

    pub mixed_next : Mixed sources words n t d.turned states' records'
    mixed_next = (
      λ q b. d.have q b,
      λ q b h.
          subst (λ z. Has (setting_at sources words q) t z (get_or records' q [])) (sym (d.others q b))
          (subst (λ z. Has (setting_at sources words q) t (get_or states q fresh) z) (sym (d.other_records q b)) (all q h)),
    )

    pub all_next : spent_in states' < spent_in states + left → (q : ℕ) → q < n → HasAt sources words (t + 1) states' records' q
    all_next l q h = ⊎_elim (λ e. d.have q (omega (arith, e, h))) (λ e. absurd (omega (arith, e, l))) d.ended

-- ---- every sheet afresh
pub first-fresh : (p : Paused) → p ≡ fresh → (q : ℕ) → get_or (p ∷ p ∷ p ∷ p ∷ []) q fresh ≡ fresh
first-fresh p e zero = e
first-fresh p e (suc zero) = e
first-fresh p e (suc (suc zero)) = e
first-fresh p e (suc (suc (suc zero))) = e
first-fresh p e (suc (suc (suc (suc q)))) = refl

module _ (sources : List Source) (words : List (List ℕ)) (order : List ℕ) (n : ℕ) (states : List Paused) (first : (q : ℕ) → get_or states q fresh ≡ fresh) where
  pub go_first : (programs records : List (List ℕ)) → AllRead sources words n → AllGo sources words order n states programs records
  go_first programs records read q h =
      subst (λ z. Goes (get_or sources q unread) (get_or words q []) order z (get_or programs q []) (get_or records q [])) (sym (first q))
      (goes_first (get_or sources q unread) (get_or words q []) order (get_or programs q []) (get_or records q []) (read q h))

  pub near_first : Near sources words n 0 states
  near_first q h = let none = ap (λ z. z.tally.tested) (first q) in (omega (arith, none), omega (arith, none))

  module _ {states' : List Paused} {programs' records records' : List (List ℕ)} (four : length states ≡ 4) (d : Rounded sources words order n 0 1 states states' programs' records records') where
    untested : (q : ℕ) → (get_or states' q fresh).tally.tested ≡ 0
    untested q =
        ⊎_elim (λ h. (d.have q h).tests_are) (λ h. ap (λ z. z.tally.tested) (d.others q (omega (arith, h)) ∙ first q)) (decided (dec_lt q d.turned))

    pub none_spent : spent_in states' ≡ 0
    none_spent = omega (arith, four_spent states' (d.long ∙ four), untested 0, untested 1, untested 2, untested 3)

    pub all_first : (q : ℕ) → q < n → HasAt sources words 0 states' records' q
    all_first q h =
        let before : spent_in states ≡ 0 = omega (arith, four_spent states four, at 0, at 1, at 2, at 3) in
        ⊎_elim (λ e. d.have q (omega (arith, e, h))) (λ e. absurd (omega (arith, e, none_spent, before))) d.ended
      where
        at : (q : ℕ) → (get_or states q fresh).tally.tested ≡ 0
        at q = ap (λ z. z.tally.tested) (first q)

    pub idle_first : Idle n states'
    idle_first q h = d.others q (omega (arith, h, d.within)) ∙ first q
