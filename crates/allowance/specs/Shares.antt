-- K4, "Four studios on one allowance": when a sheet is finished, which views it has met, and what each sheet has of the allowance. Assumes nothing.
use Rattle.std.specs.Prelude.{ℕ, zero, suc, ◌+◌, ◌/◌, ◌^◌, ◌≤◌, ◌<◌, ◌≡◌, Bool, true, false, ◌↔◌, ◌⊎◌, get_or, drop}
use Rattle.std.proofs.Math.Path.{refl, sym, ap}
use Rattle.std.proofs.Common.{ap₂, ◌∙◌, subst, true≢false, inl, inr, le_of_suc-le-suc, not-suc-le-zero, zero-add, add-zero, take_all, take-take, ext_get_or}
use mathlib.Core.List.{List, [], ◌∷◌, ◌++◌, map, map-append}
use Rattle.std.proofs.Math.Logic.{⊎_elim}
use native.Mathlib.Omega.{arith}
use Rattle.std.proofs.Math.ListN.{length, take, length-append, length-map, length-take, length-drop, take-append-drop, get_or-map}
use Rattle.sets.specs.Decides.{Decides, is_true, dec_true, dec_false, dec_iff}
use Rattle.sets.specs.Lists.{◌among◌, nowhere, among-append, among_place, null, keep, up_to, among-keep, keep_append, dec_null, length-up_to, get_or-up_to}
use Rattle.sets.specs.Pairwise.{Distinct, pairwise_keep, pairwise_across}
use Rattle.sets.specs.Counting.{keep_shorter}
use Rattle.semantics.specs.Definitions.Setting.{Setting, k}
use Rattle.semantics.specs.Definitions.Order.{order}
use Rattle.semantics.specs.Definitions.Listing.{is_world_view, tested, tally_of, View, view_of, views_along, listing}
use Rattle.semantics.specs.Definitions.Sharing.{tests_of, met_in, finished_in, in_all, turns, turns_at, Share, share_of, shares_from, paid, shares_of}
use Rattle.semantics.specs.Theorems.Tally.{Tested}
use Rattle.semantics.proofs.Theorems.Tally.{dec_tested}
use Rattle.semantics.proofs.Theorems.Tests.{views_tested}
use Rattle.semantics.proofs.Theorems.Order.{among-order, order_enumerates}
use Rattle.semantics.proofs.Theorems.Walk.{count_along}
use Rattle.allowance.specs.Allowance.{spent_in_all, turns_add_up, turns_few, turns_long, turns-whole, turns_alone, more-turns, none_later_ahead, none_far_ahead, fair_quotient}

-- ---- a sheet's own listing, test by test
dec_empty : {A : Type 0} (l : List A) → Decides (length l ≡ 0) (null l)
dec_empty [] = dec_true refl
dec_empty (x ∷ l) = dec_false (λ e. omega arith)

module _ (s : Setting) where
  pub among_tests : {g : ℕ} → g among tests_of s ↔ ((g among order (k s)) × (tested s g ≡ true))
  unfolding tests_of
  among_tests = among-keep (tested s) (order (k s))

  -- no guess is tested twice
  pub tests_once : Distinct (tests_of s)
  unfolding tests_of
  tests_once = pairwise_keep _ (tested s) (order (k s)) (order_enumerates (k s)).once

  -- as many as the tally says
  pub tests_number : length (tests_of s) ≡ (tally_of s).tested
  unfolding tests_of tally_of
  tests_number = count_along s (order (k s)) (order_enumerates (k s)) (tested s)

  pub views_append : (l m : List ℕ) → views_along s (l ++ m) ≡ views_along s l ++ views_along s m
  unfolding views_along
  views_append l m = ap (map (view_of s)) (keep_append (is_world_view s) l m) ∙ map-append (view_of s) (keep (is_world_view s) l) (keep (is_world_view s) m)

  -- the world views are tested: they are met along the guesses that are
  pub tests_views : views_along s (tests_of s) ≡ listing s
  unfolding tests_of
  tests_views = sym (views_tested s (order (k s)) (order_enumerates (k s)).below)

  -- ---- "finished"
  -- "no guess that would be tested remains": each is among the first t tests
  abbrev pub NoneRemains : (t : ℕ) → Type 0
  NoneRemains t = (g : ℕ) → g among order (k s) → tested s g ≡ true → g among take t (tests_of s)

  pub dec_finished : (t : ℕ) → Decides (NoneRemains t) (finished_in s t)
  unfolding finished_in
  dec_finished t =
      let l = tests_of s in
      let parts = take-append-drop t l in
      dec_iff (
        λ n g m e. ⊎_elim (λ a. a) (λ a. absurd (n (g, a)))
            ((among-append (take t l)).0 (subst (λ z. g among z) (sym parts) (among_tests.1 (m, e)))),
        λ f (g, m). let (a, e) = among_tests.0 (subst (λ z. g among z) parts ((among-append (take t l)).1 (inr m))) in
            pairwise_across _ (take t l) (drop t l) (subst (λ z. Distinct z) (sym parts) tests_once) g g (f g a e) m refl,
      ) (dec_null (drop t l))

  -- "said exactly when no guess that would be tested remains"
  pub finished_exactly : (t : ℕ) → (finished_in s t ≡ true) ↔ NoneRemains t
  finished_exactly t = ((dec_finished t).yes, is_true (dec_finished t))

  -- in the words of the definitions: neither covered nor ruled
  pub none_remains : (t : ℕ) → NoneRemains t ↔ ((g : ℕ) → g < 2 ^ k s → Tested s g → g among take t (tests_of s))
  none_remains t =
      ((λ f g l w. f g ((among-order (k s)).1 l) (is_true (dec_tested s g) w)), λ f g m e. f g ((among-order (k s)).0 m) ((dec_tested s g).yes e))

  pub dec_tests : (t : ℕ) → Decides (length (tests_of s) ≤ t) (finished_in s t)
  unfolding finished_in
  dec_tests t =
      let n = length-drop t (tests_of s) in
      dec_iff (λ e. omega arith, λ h. omega arith) (dec_empty (drop t (tests_of s)))

  pub finished_many : (t : ℕ) → (finished_in s t ≡ true) ↔ (length (tests_of s) ≤ t)
  finished_many t = ((dec_tests t).yes, is_true (dec_tests t))

  -- "covered and ruled guesses are passed over even with the allowance spent or zero": without a test, finished exactly when there is no other
  pub finished_untested : (finished_in s 0 ≡ true) ↔ ((g : ℕ) → g among order (k s) → tested s g ≡ false)
  finished_untested = ((λ e g m. go (tested s g) ((finished_exactly 0).0 e g m)), λ f. (finished_exactly 0).1 (λ g m e. absurd (true≢false (sym e ∙ f g m))))
    where
      go : {g : ℕ} (b : Bool) → (b ≡ true → g among []) → b ≡ false
      go true f = absurd (nowhere (f refl))
      go false f = refl

  -- ---- "those its own listing meets in as many tests"
  -- "all of them when finished"
  pub finished_whole : (t : ℕ) → finished_in s t ≡ true → met_in s t ≡ listing s
  unfolding met_in
  finished_whole t e = ap (views_along s) (take_all t (tests_of s) ((finished_many t).0 e)) ∙ tests_views

  -- the listing begins with them
  pub met_begins : (t : ℕ) → (more : List View) × (listing s ≡ met_in s t ++ more)
  unfolding met_in
  met_begins t =
      let l = tests_of s in
      (views_along s (drop t l), sym tests_views ∙ ap (views_along s) (sym (take-append-drop t l)) ∙ views_append (take t l) (drop t l))

  -- more tests only add views
  pub met-more : (t u : ℕ) → t ≤ u → (more : List View) × (met_in s u ≡ met_in s t ++ more)
  unfolding met_in
  met-more t u h =
      let l = take u (tests_of s) in (
        views_along s (drop t l),
        ap (views_along s) (sym (take-append-drop t l)) ∙ views_append (take t l) (drop t l)
            ∙ ap (λ z. views_along s z ++ views_along s (drop t l)) (take-take t u (tests_of s) h),
      )

  pub met-among : (t : ℕ) {v : View} → v among met_in s t → v among listing s
  met-among t {v} m =
      let (more, e) = met_begins t in
      subst (λ z. v among z) (sym e) ((among-append (met_in s t)).1 (inl m))

  pub met_few : (t : ℕ) → (length (met_in s t) ≤ length (listing s)) × (length (met_in s t) ≤ t)
  unfolding met_in views_along
  met_few t =
      let (more, e) = met_begins t in
      let l = take t (tests_of s) in (
        omega (arith, ap length e, length-append (met_in s t) more),
        omega (arith, length-map (keep (is_world_view s) l) (view_of s), keep_shorter (is_world_view s) l, length-take t (tests_of s)),
      )

-- what stands where there is no sheet
pub no_sheet : Setting
no_sheet = record { atoms = 0; negations = []; program = λ g. [] }

-- ---- the tests that each sheet has to make
pub many-at : (ss : List Setting) (p : ℕ) (e : Setting) → p < length ss → get_or (map (λ s. length (tests_of s)) ss) p 0 ≡ length (tests_of (get_or ss p e))
many-at [] p e h = absurd (not-suc-le-zero h)
many-at (s ∷ ss) zero e h = refl
many-at (s ∷ ss) (suc p) e h = many-at ss p e (le_of_suc-le-suc h)

pub many_long : (ss : List Setting) → length (map (λ s. length (tests_of s)) ss) ≡ length ss
many_long ss = length-map ss (λ s. length (tests_of s))

-- ---- the shares, by the positions of the sheets
-- the share of the sheet at a position
abbrev pub share : (a : ℕ) (ss : List Setting) (p : ℕ) (d : Share) → Share
share a ss p d = get_or (shares_of a ss).each p d

from_long : (ps : List ℕ) (p : ℕ) (ss : List Setting) → length (shares_from ps p ss) ≡ length ss
unfolding shares_from
from_long ps p [] = refl
from_long ps p (s ∷ ss) = ap suc (from_long ps (suc p) ss)

from_at : (ps : List ℕ) (p : ℕ) (ss : List Setting) (q : ℕ) → q < length ss → (d : Share) (e : Setting)
    → get_or (shares_from ps p ss) q d ≡ share_of (get_or ss q e) (turns_at ps (p + q))
unfolding shares_from
from_at ps p [] q h d e = absurd (not-suc-le-zero h)
from_at ps p (s ∷ ss) zero h d e = ap (λ n. share_of s (turns_at ps n)) (sym (add-zero p))
from_at ps p (s ∷ ss) (suc q) h d e =
    let n : suc p + q ≡ p + suc q = omega arith in
    from_at ps (suc p) ss q (le_of_suc-le-suc h) d e ∙ ap (λ n. share_of (get_or ss q e) (turns_at ps n)) n

module _ (a : ℕ) (ss : List Setting) where
  pub shares_long : length (shares_of a ss).each ≡ length ss
  shares_long = from_long (paid a ss) 0 ss

  pub share-at : (p : ℕ) → p < length ss → (d : Share) (e : Setting) → get_or (shares_of a ss).each p d ≡ share_of (get_or ss p e) (turns_at (paid a ss) p)
  share-at p h d e = from_at (paid a ss) 0 ss p h d e ∙ ap (λ n. share_of (get_or ss p e) (turns_at (paid a ss) n)) (zero-add p)

  -- ---- in all
  each_tests : map (λ (x : Share). x.tests) (shares_of a ss).each ≡ map (turns_at (paid a ss)) (up_to (length ss))
  each_tests =
      let n = length ss in
      let none : Share = record { finished = false; tests = 0; views = [] } in
      let long = length-map (shares_of a ss).each (λ (x : Share). x.tests) ∙ shares_long in
      ext_get_or 0 _ _ (long ∙ sym (length-map (up_to n) (turns_at (paid a ss)) ∙ length-up_to n))
      (λ i h.
      let l : i < n = omega arith in
      get_or-map (λ (x : Share). x.tests) (shares_of a ss).each i none ∙ ap (λ (x : Share). x.tests) (share-at i l none no_sheet)
      ∙ sym (get_or-up_to (turns_at (paid a ss)) 0 n i l))

  all_finished : length (paid a ss) ≡ in_all (map (λ s. length (tests_of s)) ss) → (x : Share) → x among (shares_of a ss).each → x.finished ≡ true
  all_finished e x m =
      let many = map (λ s. length (tests_of s)) ss in
      let (i, h, same) = among_place (shares_of a ss).each x m in
      let l : i < length ss = omega (arith, shares_long) in
      let whole : paid a ss ≡ turns many = take_all a (turns many) (omega (arith, (spent_in_all many a).0, turns_long many)) in
      let had : turns_at (paid a ss) i ≡ length (tests_of (get_or ss i no_sheet)) =
      ap (λ ps. turns_at ps i) whole ∙ turns-whole many i (omega (arith, many_long ss)) ∙ many-at ss i no_sheet l in
      ap (λ (x : Share). x.finished) (sym same ∙ share-at i l x no_sheet)
      ∙ (finished_many (get_or ss i no_sheet) (turns_at (paid a ss) i)).1 (omega arith)

  -- "The tests used, carried in the result for each sheet and in all, never pass the allowance"; "until the allowance is spent or all are finished"
  pub shares_total : ((shares_of a ss).tests ≤ a)
      × (in_all (map (λ (x : Share). x.tests) (shares_of a ss).each) ≡ (shares_of a ss).tests)
      × (((shares_of a ss).tests ≡ a) ⊎ ((x : Share) → x among (shares_of a ss).each → x.finished ≡ true))
  shares_total =
      let many = map (λ s. length (tests_of s)) ss in
      let (few, _, or) = spent_in_all many a in (
        few,
        ap in_all (each_tests ∙ ap (λ n. map (turns_at (paid a ss)) (up_to n)) (sym (many_long ss))) ∙ turns_add_up many a,
        ⊎_elim inl (λ e. inr (all_finished e)) or,
      )

-- ---- a sheet's share, whose setting is that at its position
module _ (a : ℕ) (ss : List Setting) (p : ℕ) (h : p < length ss) (d : Share) (e : Setting) where
  -- the tests of every sheet, and those that this one has had
  abbrev many : List ℕ
  many = map (λ s. length (tests_of s)) ss

  abbrev had : ℕ
  had = turns_at (paid a ss) p

  of_share : (P : Share → Type 0) → P (share_of (get_or ss p e) had) → P (share a ss p d)
  of_share P q = subst P (sym (share-at a ss p h d e)) q

  -- it makes no more tests than its sheet has
  pub share_tests : (share a ss p d).tests ≤ length (tests_of (get_or ss p e))
  share_tests = of_share (λ x. x.tests ≤ length (tests_of (get_or ss p e))) (omega (arith, turns_few many a p, many-at ss p e h))

  -- "exactly those its own listing meets in as many tests [..] whatever the other sheets hold"
  pub share_views : (share a ss p d).views ≡ met_in (get_or ss p e) (share a ss p d).tests
  share_views = of_share (λ x. x.views ≡ met_in (get_or ss p e) x.tests) refl

  -- ""Finished" is said exactly when no guess that would be tested remains"
  pub shares_finished : ((share a ss p d).finished ≡ true) ↔ NoneRemains (get_or ss p e) (share a ss p d).tests
  shares_finished = of_share (λ x. (x.finished ≡ true) ↔ NoneRemains (get_or ss p e) x.tests) (finished_exactly (get_or ss p e) had)

  -- "all of them when finished"
  pub shares_whole : (share a ss p d).finished ≡ true → (share a ss p d).views ≡ listing (get_or ss p e)
  shares_whole = of_share (λ x. x.finished ≡ true → x.views ≡ listing (get_or ss p e)) (finished_whole (get_or ss p e) had)

  left : (share a ss p d).finished ≡ false → had < get_or many p 0
  left = of_share (λ x. x.finished ≡ false → had < get_or many p 0) (λ n. let more = (dec_tests (get_or ss p e) had).no n in omega (arith, many-at ss p e h))

  tests_had : (share a ss p d).tests ≡ had
  tests_had = of_share (λ x. x.tests ≡ had) refl

  there : p < length many
  there = omega (arith, many_long ss)

  -- "a sheet left unfinished has had at least the allowance divided by the number of sheets, rounded down"
  pub shares_fair : (share a ss p d).finished ≡ false → a / length ss ≤ (share a ss p d).tests
  shares_fair n = rw (tests_had, ← many_long ss) (fair_quotient many a p there (left n))

  -- no later sheet has had more tests than one left unfinished, and none more than one more
  pub shares_behind : (share a ss p d).finished ≡ false → (q : ℕ) → q < length ss → (p ≤ q → (share a ss q d).tests ≤ (share a ss p d).tests)
      × ((share a ss q d).tests ≤ (share a ss p d).tests + 1)
  shares_behind n q l =
      let other : (share a ss q d).tests ≡ turns_at (paid a ss) q = ap (λ (x : Share). x.tests) (share-at a ss q l d e) in
      rw (tests_had, other) (none_later_ahead many a p there (left n) q, none_far_ahead many a p there (left n) q)

  -- "exactly those its own listing meets": as the sheet alone has with an allowance of as many tests
  pub shares_alone : share (share a ss p d).tests (get_or ss p e ∷ []) 0 d ≡ share a ss p d
  shares_alone =
      let m = length (tests_of (get_or ss p e)) in
      let enough : turns_at (take had (turns (m ∷ []))) 0 ≡ had = turns_alone m had (omega (arith, turns_few many a p, many-at ss p e h)) in
      ap (λ t. share t (get_or ss p e ∷ []) 0 d) tests_had ∙ share-at had (get_or ss p e ∷ []) 0 (omega arith) d e
      ∙ ap (share_of (get_or ss p e)) enough ∙ sym (share-at a ss p h d e)

-- "goes round the unfinished sheets in their order, one test each": the earlier of two left unfinished has had as many tests as the later, or one more
pub shares_in_turn : (a : ℕ) (ss : List Setting) (p q : ℕ) → p < q → q < length ss → (d : Share)
    → (share a ss p d).finished ≡ false → (share a ss q d).finished ≡ false
    → ((share a ss q d).tests ≤ (share a ss p d).tests) × ((share a ss p d).tests ≤ (share a ss q d).tests + 1)
shares_in_turn a ss p q h l d n m =
    ((shares_behind a ss p (omega arith) d no_sheet n q l).0 (omega arith), (shares_behind a ss q l d no_sheet m p (omega arith)).1)

-- "a larger allowance only adds views"
pub shares_more : (a b : ℕ) → a ≤ b → (ss : List Setting) (p : ℕ) → p < length ss → (d : Share)
    → (more : List View) × ((share b ss p d).views ≡ (share a ss p d).views ++ more)
shares_more a b l ss p h d =
    let s = get_or ss p no_sheet in
    let fewer = more-turns a b (turns (map (λ s. length (tests_of s)) ss)) p l in
    let (more, e) = met-more s (turns_at (paid a ss) p) (turns_at (paid b ss) p) fewer in
    (more, ap (λ (x : Share). x.views) (share-at b ss p h d no_sheet) ∙ e ∙ ap (λ (x : Share). x.views ++ more) (sym (share-at a ss p h d no_sheet)))

-- "whatever the other sheets hold": two sheets of one setting, in any two calls, with as many tests have the same views, and both are finished or neither
pub shares_own : (a b : ℕ) (ss us : List Setting) (p q : ℕ) → p < length ss → q < length us → (d : Share) (e : Setting) → get_or ss p e ≡ get_or us q e
    → (share a ss p d).tests ≡ (share b us q d).tests → share a ss p d ≡ share b us q d
shares_own a b ss us p q h l d e same tests =
    share-at a ss p h d e ∙ ap₂ share_of same (sym (tests_had a ss p h d e) ∙ tests ∙ tests_had b us q l d e) ∙ sym (share-at b us q l d e)
