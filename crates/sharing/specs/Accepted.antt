-- Document 02, K4, of the call `share` where it accepts: what it answers of all sheets, and what other calls would give each. Assumes nothing.
use Rattle.std.specs.Prelude.{ℕ, ◌+◌, ◌*◌, ◌/◌, ◌≤◌, ◌<◌, ◌≡◌, refl, true, false, List, [], ◌∷◌, map, ◌⊎◌, take, drop, Ok, Err}
use Rattle.std.proofs.Math.Path.{sym, ap}
use Rattle.std.proofs.Common.{ap₂, ◌∙◌, subst, inl, inr, ⊎_elim, length-append, take_at}
use native.Mathlib.Omega.{arith}
use Rattle.std.proofs.Math.ListN.{length, get_or, get_or-map}
use Rattle.sets.specs.Decides.{unequal}
use Rattle.sets.specs.Lists.{get_or-among}
use Rattle.semantics.specs.Definitions.Setting.{Setting}
use Rattle.semantics.specs.Definitions.Returned.{accepted, written}
use Rattle.semantics.specs.Definitions.Check.{of_sheet}
use Rattle.semantics.specs.Definitions.Listing.{words}
use Rattle.semantics.specs.Definitions.Sharing.{tests_of, met_in, finished_in, in_all, turns, turns_at, share_of, paid, shares_of, granted, share_call, Numbers, Carried, numbers_of, absent, carried, lent_after}
use Rattle.semantics.specs.Definitions.Sharing as meant
use Rattle.semantics.proofs.Theorems.Records.{words_long}
use Rattle.allowance.specs.Allowance.{more-turns}
use Rattle.allowance.specs.Shares.{no_sheet, met-more, share, shares_long, share-at, shares_total, share_tests, shares_fair, shares_behind}
use Rattle.allowance.specs.ShareCall.{AllRead, reached, Granted, share_granted}
use Rattle.allowance.specs.Carried.{Reached, reached_so, carried-at, carried_none, carried_tests, handed-at, handed-none, read_once, alone-reached}
use Rattle.sharing.specs.declared.result.Share.{Share}
use Rattle.sharing.specs.declared.result.Shares.{Shares}
use Rattle.sharing.specs.Answers.{numbers_from, carried_by, Shared, shared}
use Rattle.sharing.specs.Shares.{at, no_share, share_at, SameRecords, AsShared, SheetShare, begins, share_for, sheet-share}

-- ---- of the call, where it answers s
pub record SharedOut (count : ℕ) (sheets : List (List ℕ)) (allowance : ℕ) (s : Shares) (before after : List (List ℕ)) : Type 0 where
  -- the settings of the sheets, all accepted; and these tests of theirs are the only ones that are in turn
  pub of : List Setting
  pub reached : Reached count sheets allowance of (λ q. (share_at s q).tests)
  -- "The tests used, carried in the result for each sheet and in all, never pass the allowance"
  pub tests_in_all : s.tests ≡ s.first.tests + s.second.tests + s.third.tests + s.fourth.tests
  pub never_pass : s.tests ≤ allowance
  -- "until the allowance is spent or all are finished"
  pub spent_or_finished : (s.tests ≡ allowance) ⊎ ((q : ℕ) → q < count → (share_at s q).finished ≡ true)
  -- "goes round the unfinished sheets in their order, one test each": beside one left unfinished no other has more than one test more, and no later one more
  pub in_turn : (p q : ℕ) → p < count → q < count → (share_at s p).finished ≡ false
      → ((share_at s q).tests ≤ (share_at s p).tests + 1) × (p ≤ q → (share_at s q).tests ≤ (share_at s p).tests)
  -- "Each sheet has its own output buffer"
  pub each : (q : ℕ) → q < count → SheetShare (get_or of q no_sheet) count allowance (share_at s q) (at before q) (at after q)
  -- and where there is no sheet, the buffer holds what it held
  pub without_sheets : (q : ℕ) → count ≤ q → (share_at s q ≡ no_share) × (at after q ≡ at before q)
  -- "its own listing": the sheet alone, its tests the allowance, has the same share and the same records in any buffer where they fit
  pub alone : (q : ℕ) → q < count → (others : List (List ℕ)) (r' : Shared) (before' after' : List (List ℕ)) → at others 0 ≡ at sheets q
      → AsShared 1 others (share_at s q).tests r' before' after' → 4 * (share_at s q).views ≤ length (at before' 0)
      → (s' : Shares) × (r' ≡ Ok s') × (s'.first ≡ share_at s q) × SameRecords (share_at s q).views (at after' 0) (at after q)
  -- "whatever the other sheets hold": in any call, at any position, with as many tests
  pub whatever_others : (q : ℕ) → q < count → (count' : ℕ) (others : List (List ℕ)) (allowance' : ℕ) (s' : Shares) (before' after' : List (List ℕ))
      → AsShared count' others allowance' (Ok s') before' after' → (p : ℕ) → p < count' → at others p ≡ at sheets q
      → (share_at s' p).tests ≡ (share_at s q).tests → (share_at s' p ≡ share_at s q) × SameRecords (share_at s q).views (at after' p) (at after q)
  -- "with buffers long enough a larger allowance only adds views": the records are the first of those
  pub larger_adds : (larger : ℕ) → allowance ≤ larger → (s' : Shares) (before' after' : List (List ℕ))
      → AsShared count sheets larger (Ok s') before' after' → (q : ℕ) → q < count
      → ((share_at s q).views ≤ (share_at s' q).views) × SameRecords (share_at s q).views (at after' q) (at after q)

-- ---- proofs
-- an answer that is no refusal
pub is_accepted : (r : Shared) {v : Carried} → shared r ≡ granted v → (s : Shares) × (r ≡ Ok s) × (carried_by s ≡ v)
is_accepted (Ok s) e = (s, refl, cc)
is_accepted (Err q) e = unequal cc

carried_granted : (c : meant.Shared meant.Shares) {v : Carried} → carried c ≡ granted v → (w : meant.Shares) × (c ≡ granted w)
carried_granted (granted w) e = (w, refl)
carried_granted (meant.denied number place position) e = unequal cc

-- what the numbers of a share mean fixes it
share_from : Numbers → Share
share_from n = record { finished = n.finished; tests = n.tests; views = n.views }

share_fixed : {x : Share} (u : Setting) (t : ℕ) → numbers_from x ≡ numbers_of (share_of u t) → x ≡ share_for u t
unfolding share_from
share_fixed u t e = ap share_from e

none_fixed : {x : Share} → numbers_from x ≡ absent → x ≡ no_share
unfolding share_from
none_fixed e = ap share_from e

-- the words of a buffer
pub room : (buffers : List (List ℕ)) (q : ℕ) → get_or (map length buffers) q 0 ≡ length (at buffers q)
room buffers q = get_or-map length buffers q []

-- ---- a call that is granted, its settings ss
record Given (count : ℕ) (sheets : List (List ℕ)) (allowance : ℕ) (s : Shares) (before after : List (List ℕ)) (ss : List Setting) : Type 0 where
  read : AllRead count sheets ss
  -- its shares and buffers, by position
  in_all : s.tests ≡ (shares_of allowance ss).tests
  adds_up : s.tests ≡ s.first.tests + s.second.tests + s.third.tests + s.fourth.tests
  share_is : (q : ℕ) → q < count → share_at s q ≡ share_for (get_or ss q no_sheet) (turns_at (paid allowance ss) q)
  absent_share : (q : ℕ) → count ≤ q → share_at s q ≡ no_share
  fit : (q : ℕ) → q < count → 4 * length (reached allowance ss q) ≤ length (at before q)
  left : (q : ℕ) → q < count → at after q ≡ written (words (reached allowance ss q)) (at before q)
  kept : (q : ℕ) → count ≤ q → at after q ≡ at before q

module _ {count : ℕ} {sheets : List (List ℕ)} {allowance : ℕ} {r : Shared} {before after : List (List ℕ)} (c : AsShared count sheets allowance r before after) where
  call_given : (ss : List Setting) → Granted count sheets allowance (map length before) ss
      → (s : Shares) × (r ≡ Ok s) × Given count sheets allowance s before after ss
  unfolding in_all
  call_given ss g =
      let d = (share_granted count sheets c.four-sheets allowance (map length before) (shares_of allowance ss)).1 (ss, g, refl) in
      let (s, e, told) = is_accepted r (c.answers ∙ ap carried d) in
      let long = g.read.long in
      let few : length ss ≤ 4 = omega (arith, g.some.1) in
      let each = ap (λ (v : Carried). v.each) told in
      let at_each : (q : ℕ) → numbers_from (share_at s q) ≡ get_or (carried_by s).each q absent =
      λ q. sym (get_or-map numbers_from (s.first ∷ s.second ∷ s.third ∷ s.fourth ∷ []) q no_share) in
      let holds = c.leaves ∙ ap (λ r. lent_after r before) d in (
        s,
        e,
        record {
          read = g.read;
          in_all = ap (λ (v : Carried). v.tests) told;
          adds_up = omega (
            arith,
            ap (λ (v : Carried). v.tests) told,
            ap (λ ns. in_all (map (λ (n : Numbers). n.tests) ns)) each,
            carried_tests allowance ss few,
          );
          share_is = λ q h. share_fixed _ _ (at_each q ∙ ap (λ ns. get_or ns q absent) each ∙ carried-at allowance ss few q (omega arith));
          absent_share = λ q h. none_fixed (at_each q ∙ ap (λ ns. get_or ns q absent) each ∙ carried_none allowance ss few q (omega arith));
          fit = λ q h. omega (arith, g.fit q h, room before q);
          left = λ q h. ap (λ l. at l q) holds ∙ handed-at allowance ss before q (omega arith) (omega (arith, c.four_buffers, g.some.1));
          kept = λ q h. ap (λ l. at l q) holds ∙ handed-none allowance ss before q (omega arith);
        },
      )

module _ {count : ℕ} {sheets : List (List ℕ)} {allowance : ℕ} {s : Shares} {before after : List (List ℕ)} (c : AsShared count sheets allowance (Ok s) before after) where
  pub accepted_granted : (ss : List Setting) × Granted count sheets allowance (map length before) ss
  accepted_granted =
      let (w, d) = carried_granted (share_call count sheets allowance (map length before)) (sym c.answers) in
      let (ss, g, _) = (share_granted count sheets c.four-sheets allowance (map length before) w).0 d in
      (ss, g)

  accepted_given : (ss : List Setting) × Given count sheets allowance s before after ss
  accepted_given =
      let (ss, g) = accepted_granted in
      let (s', e, v) = call_given c ss g in
      let same : s' ≡ s = cc in
      (ss, subst (λ s. Given count sheets allowance s before after ss) same v)

records_are : {count : ℕ} {sheets : List (List ℕ)} {allowance : ℕ} {s : Shares} {before after : List (List ℕ)} {ss : List Setting}
    → Given count sheets allowance s before after ss → (q : ℕ) → q < count → take (4 * (share_at s q).views) (at after q) ≡ words (reached allowance ss q)
records_are {count} {sheets} {allowance} {s} {before} {after} {ss} v q h =
    let vs = reached allowance ss q in
    ap (λ (x : Share). take (4 * x.views) (at after q)) (v.share_is q h) ∙ ap (take (4 * length vs)) (v.left q h)
    ∙ take_at (words vs) (drop (length (words vs)) (at before q)) (4 * length vs) (words_long vs)

-- ---- two calls
module _ {count : ℕ} {sheets : List (List ℕ)} {allowance : ℕ} {s : Shares} {before after : List (List ℕ)} {ss : List Setting}
    (v : Given count sheets allowance s before after ss) (q : ℕ) (h : q < count) where
  -- a sheet that has had as many tests in another
  module _ {count' : ℕ} {others : List (List ℕ)} {allowance' : ℕ} {s' : Shares} {before' after' : List (List ℕ)} {us : List Setting}
      (w : Given count' others allowance' s' before' after' us) (p : ℕ) (l : p < count') (bytes : at others p ≡ at sheets q)
      (tests : (share_at s' p).tests ≡ (share_at s q).tests) where
    same-setting : get_or us p no_sheet ≡ get_or ss q no_sheet
    same-setting =
        let e : accepted (get_or us p no_sheet) ≡ accepted (get_or ss q no_sheet) = sym (w.read.reads p l) ∙ ap of_sheet bytes ∙ v.read.reads q h in
        cc

    same-turns : turns_at (paid allowance' us) p ≡ turns_at (paid allowance ss) q
    same-turns = sym (ap (λ (x : Share). x.tests) (w.share_is p l)) ∙ tests ∙ ap (λ (x : Share). x.tests) (v.share_is q h)

    same-share : share_at s' p ≡ share_at s q
    same-share = w.share_is p l ∙ ap₂ share_for same-setting same-turns ∙ sym (v.share_is q h)

    same_records : SameRecords (share_at s q).views (at after' p) (at after q)
    same_records =
        ap (λ (x : Share). take (4 * x.views) (at after' p)) (sym same-share) ∙ records_are w p l
        ∙ ap words (ap₂ met_in same-setting same-turns) ∙ sym (records_are v q h)

  abbrev own : Setting
  own = get_or ss q no_sheet

  abbrev had : ℕ
  had = turns_at (paid allowance ss) q

  -- the sheet alone
  module _ (others : List (List ℕ)) (r' : Shared) (before' after' : List (List ℕ)) (bytes : at others 0 ≡ at sheets q)
      (c : AsShared 1 others (share_at s q).tests r' before' after') (fits : 4 * (share_at s q).views ≤ length (at before' 0)) where
    at_0 : (P : ℕ → Type 0) → P 0 → (p : ℕ) → p < 1 → P p
    at_0 P x p l = let first : 0 ≡ p = omega arith in subst P first x

    of_alone : AsShared 1 others had r' before' after'
    of_alone = subst (λ n. AsShared 1 others n r' before' after') (ap (λ (x : Share). x.tests) (v.share_is q h)) c

    all_had : turns_at (paid had (own ∷ [])) 0 ≡ had
    all_had = alone-reached allowance ss q (omega (arith, v.read.long))

    grants : Granted 1 others had (map length before') (own ∷ [])
    grants = record {
      some = (omega arith, omega arith);
      read = record { long = refl; reads = at_0 (λ p. of_sheet (at others p) ≡ accepted (get_or (own ∷ []) p no_sheet)) (ap of_sheet bytes ∙ v.read.reads q h) };
      fit = at_0 (λ p. 4 * length (reached had (own ∷ []) p) ≤ get_or (map length before') p 0) (omega (
        arith,
        room before' 0,
        ap (λ t. length (met_in own t)) all_had,
        ap (λ (x : Share). x.views) (v.share_is q h),
      ));
    }

    alone-same : (s' : Shares) × (r' ≡ Ok s') × (s'.first ≡ share_at s q) × SameRecords (share_at s q).views (at after' 0) (at after q)
    alone-same =
        let (s', e, w) = call_given of_alone (own ∷ []) grants in
        let tests : (share_at s' 0).tests ≡ (share_at s q).tests =
        ap (λ (x : Share). x.tests) (w.share_is 0 (omega arith)) ∙ all_had ∙ sym (ap (λ (x : Share). x.tests) (v.share_is q h)) in
        (s', e, same-share w 0 (omega arith) bytes tests, same_records w 0 (omega arith) bytes tests)

  -- a larger allowance
  module _ (larger : ℕ) (more : allowance ≤ larger) {s' : Shares} {before' after' : List (List ℕ)} (w : Given count sheets larger s' before' after' ss) where
    larger_same : ((share_at s q).views ≤ (share_at s' q).views) × SameRecords (share_at s q).views (at after' q) (at after q)
    larger_same =
        let few = more-turns allowance larger (turns (map (λ u. length (tests_of u)) ss)) q more in
        let (added, e) = met-more own had (turns_at (paid larger ss) q) few in
        let vs = met_in own had in
        let views = ap (λ (x : Share). x.views) (v.share_is q h) in (
          omega (arith, views, ap (λ (x : Share). x.views) (w.share_is q h), ap length e, length-append vs added),
          ap (λ n. take (4 * n) (at after' q)) views
              ∙ ap (take (4 * length vs)) (w.left q h ∙ ap (λ l. written (words l) (at before' q)) e)
              ∙ begins vs added _ ∙ sym (records_are v q h),
        )

-- ---- the record
module _ {count : ℕ} {sheets : List (List ℕ)} {allowance : ℕ} {s : Shares} {before after : List (List ℕ)} (c : AsShared count sheets allowance (Ok s) before after) where
  pub shared-out : SharedOut count sheets allowance s before after
  shared-out =
      let (ss, v) = accepted_given c in
      let d : meant.Share = record { finished = true; tests = 0; views = [] } in
      let long = v.read.long in
      let (few, _, or) = shares_total allowance ss in
      let share-so : (q : ℕ) → q < count → share allowance ss q d ≡ share_of (get_or ss q no_sheet) (turns_at (paid allowance ss) q) =
      λ q h. share-at allowance ss q (omega arith) d no_sheet in
      let tests-so : (q : ℕ) → q < count → (share_at s q).tests ≡ turns_at (paid allowance ss) q = λ q h. ap (λ (x : Share). x.tests) (v.share_is q h) in
      record {
        of = ss;
        reached = reached_so allowance v.read _ tests-so;
        tests_in_all = v.adds_up;
        never_pass = omega (arith, v.in_all);
        spent_or_finished =
            ⊎_elim (λ e. inl (v.in_all ∙ e))
            (λ f. inr (λ q h.
            ap (λ (x : Share). x.finished) (v.share_is q h) ∙ sym (ap (λ (x : meant.Share). x.finished) (share-so q h))
            ∙ f (share allowance ss q d) (get_or-among (shares_of allowance ss).each d q (omega (arith, shares_long allowance ss)))))
            or;
        in_turn = λ p q h l e.
            let left : (share allowance ss p d).finished ≡ false =
            ap (λ (x : meant.Share). x.finished) (share-so p h) ∙ sym (ap (λ (x : Share). x.finished) (v.share_is p h)) ∙ e in
            let (order, one) = shares_behind allowance ss p (omega arith) d no_sheet left q (omega arith) in
            let same-p = tests-so p h ∙ sym (ap (λ (x : meant.Share). x.tests) (share-so p h)) in
            let same-q = tests-so q l ∙ sym (ap (λ (x : meant.Share). x.tests) (share-so q l)) in
            rw (same-p, same-q) (one, order);
        each = λ q h.
            let t = turns_at (paid allowance ss) q in
            let u = get_or ss q no_sheet in
            let there : q < length ss = omega arith in
            let few_tests = subst (λ (x : meant.Share). x.tests ≤ length (tests_of u)) (share-so q h) (share_tests allowance ss q there d no_sheet) in
            let fair = subst (λ (x : meant.Share). x.finished ≡ false → allowance / length ss ≤ x.tests) (share-so q h) (shares_fair allowance ss q there d no_sheet) in
            subst (λ x. SheetShare u count allowance x (at before q) (at after q)) (sym (v.share_is q h))
            (sheet-share u t count allowance few_tests (subst (λ n. finished_in u t ≡ false → allowance / n ≤ t) long fair) (at before q) (at after q) (v.fit q h) (v.left q h));
        without_sheets = λ q h. (v.absent_share q h, v.kept q h);
        alone = λ q h others r' before' after' bytes c' fits. alone-same v q h others r' before' after' bytes c' fits;
        whatever_others = λ q h count' others allowance' s' before' after' c' p l bytes tests.
            let (us, w) = accepted_given c' in
            (same-share v q h w p l bytes tests, same_records v q h w p l bytes tests);
        larger_adds = λ larger more s' before' after' c' q h.
            let (us, w) = accepted_given c' in
            let same = read_once count sheets us ss w.read v.read in
            larger_same v q h larger more (subst (Given count sheets larger s' before' after') same w);
      }
