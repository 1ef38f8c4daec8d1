-- K4: what the result of a granted call carries at each position, what the buffers then hold, and what one call says of another. Assumes nothing.
use Rattle.std.specs.Prelude.{ℕ, zero, suc, ◌≤◌, ◌<◌, ◌≡◌, refl, true, List, [], ◌∷◌, ◌++◌, map, length, get_or}
use Rattle.std.proofs.Common.{sym, ap, ◌∙◌, ⊎_elim, arith, le_of_suc-le-suc, not-suc-le-zero, length-take, get_or-take, ext_get_or}
use Rattle.std.proofs.lemmas.List.{length-map}
use Rattle.std.proofs.Math.ListN.{get_or-eq_default, get_or-map}
use Rattle.sets.specs.Decides.{decided, dec_lt}
use Rattle.sets.specs.Lists.{map_up_to_same}
use Rattle.semantics.specs.Definitions.Setting.{Setting}
use Rattle.semantics.specs.Definitions.Returned.{accepted, written}
use Rattle.semantics.specs.Definitions.Listing.{View, words}
use Rattle.semantics.specs.Definitions.Sharing.{tests_of, met_in, in_all, turns_at, Share, share_of, paid, shares_of, most_sheets, Numbers, numbers_of, absent, filled, handed}
use Rattle.allowance.specs.Allowance.{InTurn, in_turn, in_turn_only, turns_alone, turns_few}
use Rattle.allowance.specs.Shares.{no_sheet, many-at, many_long, shares_long, share-at, shares_total}
use Rattle.allowance.specs.ShareCall.{AllRead, reached}

-- ---- four places
padded : (ns : List Numbers) (q : ℕ) → get_or (ns ++ absent ∷ absent ∷ absent ∷ absent ∷ []) q absent ≡ get_or ns q absent
padded [] zero = refl
padded [] (suc zero) = refl
padded [] (suc (suc zero)) = refl
padded [] (suc (suc (suc zero))) = refl
padded [] (suc (suc (suc (suc q)))) = refl
padded (n ∷ ns) zero = refl
padded (n ∷ ns) (suc q) = padded ns q

filled_at : (ns : List Numbers) → length ns ≤ most_sheets → (q : ℕ) → get_or (filled ns) q absent ≡ get_or ns q absent
filled_at ns few q =
    let l = ns ++ absent ∷ absent ∷ absent ∷ absent ∷ [] in
    ⊎_elim (λ h. get_or-take most_sheets l q absent h ∙ padded ns q)
    (λ h. get_or-eq_default (filled ns) absent (omega (arith, length-take most_sheets l)) ∙ sym (get_or-eq_default ns absent (omega arith)))
    (decided (dec_lt q most_sheets))

abbrev tests_in : List Numbers → ℕ
tests_in ns = in_all (map (λ (n : Numbers). n.tests) ns)

filled_tests : (ns : List Numbers) → length ns ≤ most_sheets → tests_in (filled ns) ≡ tests_in ns
unfolding in_all
filled_tests [] few = refl
filled_tests (a ∷ []) few = refl
filled_tests (a ∷ b ∷ []) few = refl
filled_tests (a ∷ b ∷ c ∷ []) few = refl
filled_tests (a ∷ b ∷ c ∷ d ∷ []) few = refl
filled_tests (a ∷ b ∷ c ∷ d ∷ e ∷ ns) few = absurd (omega arith)

abbrev no_share : Share
no_share = record { finished = true; tests = 0; views = [] }

module _ (a : ℕ) (ss : List Setting) (few : length ss ≤ most_sheets) where
  abbrev each : List Share
  each = (shares_of a ss).each

  long : length (map numbers_of each) ≡ length ss
  long = length-map each numbers_of ∙ shares_long a ss

  -- of a sheet
  pub carried-at : (q : ℕ) → q < length ss → get_or (filled (map numbers_of each)) q absent ≡ numbers_of (share_of (get_or ss q no_sheet) (turns_at (paid a ss) q))
  carried-at q h = filled_at (map numbers_of each) (omega (arith, long)) q ∙ get_or-map numbers_of each q no_share ∙ ap numbers_of (share-at a ss q h no_share no_sheet)

  -- "finished", no tests and no views where there is no sheet
  pub carried_none : (q : ℕ) → length ss ≤ q → get_or (filled (map numbers_of each)) q absent ≡ absent
  carried_none q h = filled_at (map numbers_of each) (omega (arith, long)) q ∙ get_or-eq_default (map numbers_of each) absent (omega (arith, long))

  -- "for each sheet and in all"
  pub carried_tests : in_all (map (λ (n : Numbers). n.tests) (filled (map numbers_of each))) ≡ (shares_of a ss).tests
  carried_tests = filled_tests (map numbers_of each) (omega (arith, long)) ∙ ap in_all (go each) ∙ (shares_total a ss).1
    where
      go : (xs : List Share) → map (λ (n : Numbers). n.tests) (map numbers_of xs) ≡ map (λ (x : Share). x.tests) xs
      go [] = refl
      go (x ∷ xs) = ap (λ l. x.tests ∷ l) (go xs)

-- ---- the buffers
handed-share : (xs : List Share) (buffers : List (List ℕ)) (d : Share) (q : ℕ) → q < length xs → q < length buffers
    → get_or (handed xs buffers) q [] ≡ written (words (get_or xs q d).views) (get_or buffers q [])
unfolding handed
handed-share [] buffers d q h l = absurd (not-suc-le-zero h)
handed-share (x ∷ xs) [] d q h l = absurd (not-suc-le-zero l)
handed-share (x ∷ xs) (b ∷ bs) d zero h l = refl
handed-share (x ∷ xs) (b ∷ bs) d (suc q) h l = handed-share xs bs d q (le_of_suc-le-suc h) (le_of_suc-le-suc l)

handed-over : (xs : List Share) (buffers : List (List ℕ)) (q : ℕ) → length xs ≤ q → get_or (handed xs buffers) q [] ≡ get_or buffers q []
unfolding handed
handed-over [] buffers q h = refl
handed-over (x ∷ xs) [] q h = refl
handed-over (x ∷ xs) (b ∷ bs) zero h = absurd (not-suc-le-zero h)
handed-over (x ∷ xs) (b ∷ bs) (suc q) h = handed-over xs bs q (le_of_suc-le-suc h)

module _ (a : ℕ) (ss : List Setting) (buffers : List (List ℕ)) where
  pub handed-at : (q : ℕ) → q < length ss → q < length buffers
      → get_or (handed (shares_of a ss).each buffers) q [] ≡ written (words (reached a ss q)) (get_or buffers q [])
  handed-at q h l =
      handed-share (shares_of a ss).each buffers no_share q (omega (arith, shares_long a ss)) l
      ∙ ap (λ (x : Share). written (words x.views) (get_or buffers q [])) (share-at a ss q h no_share no_sheet)

  pub handed-none : (q : ℕ) → length ss ≤ q → get_or (handed (shares_of a ss).each buffers) q [] ≡ get_or buffers q []
  handed-none q h = handed-over (shares_of a ss).each buffers q (omega (arith, shares_long a ss))

pub handed_long : (xs : List Share) (buffers : List (List ℕ)) → length (handed xs buffers) ≡ length buffers
unfolding handed
handed_long [] buffers = refl
handed_long (x ∷ xs) [] = refl
handed_long (x ∷ xs) (b ∷ bs) = ap suc (handed_long xs bs)

-- ---- two calls
-- the same sheets have the same settings
pub read_once : (n : ℕ) (sheets : List (List ℕ)) (ss us : List Setting) → AllRead n sheets ss → AllRead n sheets us → ss ≡ us
read_once n sheets ss us r t =
    ext_get_or no_sheet ss us (r.long ∙ sym t.long)
    (λ q h. let l : q < n = omega (arith, r.long) in same (sym (r.reads q l) ∙ t.reads q l))
  where
    same : {s u : Setting} → accepted s ≡ accepted u → s ≡ u
    same e = cc

-- a sheet alone, with an allowance of as many tests
pub alone-reached : (a : ℕ) (ss : List Setting) (q : ℕ) → q < length ss
    → turns_at (paid (turns_at (paid a ss) q) (get_or ss q no_sheet ∷ [])) 0 ≡ turns_at (paid a ss) q
alone-reached a ss q h =
    let many = map (λ s. length (tests_of s)) ss in
    turns_alone (length (tests_of (get_or ss q no_sheet))) (turns_at (paid a ss) q) (omega (arith, turns_few many a q, many-at ss q no_sheet h))

-- ---- the tests, by the sentences on them alone
-- the first n sheets are accepted, with these settings, and each has had so many tests when "the allowance is spent or all are finished": no other
-- numbers are in turn (Allowance.antt, `in_turn_only`)
pub record Reached (n : ℕ) (sheets : List (List ℕ)) (allowance : ℕ) (ss : List Setting) (tests : ℕ → ℕ) : Type 0 where
  pub read : AllRead n sheets ss
  pub in_turn : InTurn (map (λ s. length (tests_of s)) ss) allowance tests

-- the views that the sheet at a position has met
abbrev pub met : List Setting → (tests : ℕ → ℕ) (position : ℕ) → List View
met ss tests q = met_in (get_or ss q no_sheet) (tests q)

in_turn_same : (many : List ℕ) (a : ℕ) (f g : ℕ → ℕ) → ((q : ℕ) → q < length many → g q ≡ f q) → InTurn many a f → InTurn many a g
in_turn_same many a f g e i = record {
  in_all = ap in_all (map_up_to_same g f (length many) e) ∙ i.in_all;
  each = λ p h. rw (e p h) (i.each p h);
  behind = λ p q h l. rw (e p h, e q l) (i.behind p q h l);
}

module _ {n : ℕ} {sheets : List (List ℕ)} (a : ℕ) {ss : List Setting} where
  pub reached_so : AllRead n sheets ss → (tests : ℕ → ℕ) → ((q : ℕ) → q < n → tests q ≡ turns_at (paid a ss) q) → Reached n sheets a ss tests
  reached_so r tests e = record {
    read = r;
    in_turn = in_turn_same _ a (turns_at (paid a ss)) tests (λ q h. e q (omega (arith, many_long ss, r.long))) (in_turn (map (λ s. length (tests_of s)) ss) a);
  }

  pub reached-only : {tests : ℕ → ℕ} → Reached n sheets a ss tests → (q : ℕ) → q < n → met ss tests q ≡ reached a ss q
  reached-only {tests} r q h =
      ap (met_in (get_or ss q no_sheet)) (in_turn_only (map (λ s. length (tests_of s)) ss) a tests r.in_turn q (omega (arith, many_long ss, r.read.long)))
