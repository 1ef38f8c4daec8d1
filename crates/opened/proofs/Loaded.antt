-- Rules and pairs in words, as they are written: one mask, one rule or one pair more. Assumes nothing.
use Prim.Native.Nat.{ℕ, suc, ◌+◌, ◌*◌, ◌≤◌, ◌<◌}
use mathlib.Core.Bool.{Bool, true, false}
use mathlib.Core.Path.{◌≡◌, refl, sym, ap, ap₂, ◌∙◌, subst}
use mathlib.Core.List.{List, [], ◌∷◌, ◌++◌, map, map-append, append-nil, append_assoc}
use native.Mathlib.Numerals.{add-one}
use native.Mathlib.Omega.{arith}
use borrow.Author.Count.{below_more}
use lib.ListN.{length, get_or, take, set}
use lib.Seq.{get_or-set_same, get_or-set_other}
use Rattle.sets.specs.Lists.{keep, only, keep_snoc, map_keep_same, up_to, among-up_to, map_up_to_same}
use Rattle.sets.specs.Sets.{◌∈?◌, ◌∪◌, single}
use Rattle.semantics.specs.Definitions.Reading.{field}
use Rattle.semantics.specs.Definitions.Sheet.{Opposites, Sheet, byte_at, pair_from, most_rules, most_pairs, longest_sheet}
use Rattle.semantics.specs.Definitions.Check.{opposed, opened}
use Rattle.semantics.specs.Words.{eight_masks, pairs_written, word_stays, mask_in, masks_in, rules_in, rules-none, rules-more}
use Rattle.semantics.specs.Fields.{rule_from, rules_from, pairs_from}
use Rattle.semantics.proofs.Theorems.Fields.{rules_from-more, pairs_from-more}
use Rattle.semantics.proofs.Theorems.Accepted.{accepted_read, accepted_lies, rule_lies}
use Rattle.semantics.specs.Theorems.Pairs.{Disjoint}
use Rattle.semantics.proofs.Theorems.Pairs.{bytes-atoms}
use Rattle.semantics.proofs.Theorems.Layout.{accepted_fits}
use Rattle.sheet.specs.declared.Contents.{Contents}
use Rattle.sheet.specs.Opened.{contents, Holds}
use Rattle.opened.specs.Fetched.{RulesBegin, remembered}
use Rattle.opened.specs.Loaded.{RulesLoad, RulesLoadOnly, constraint_masks, Atoms, Loads, LoadsOnly}

-- ---- the first i masks of rule n are these
module _ (mask : ℕ → ℕ) (n : ℕ) where
  abbrev pub MasksLoaded : (out : List ℕ) (i : ℕ) → Type 0
  MasksLoaded out i = (j : ℕ) → j < i → mask_in out n j ≡ mask j

  module _ (out : List ℕ) (i : ℕ) (loaded : MasksLoaded out i) where
    pub one-mask : {w : ℕ} → w ≡ mask i → 8 * n + i < length out → MasksLoaded (set out (8 * n + i) w) (i + 1)
    one-mask {w} e h =
        below_more (λ j. mask_in (set out (8 * n + i) w) n j ≡ mask j) i
        (λ j l. get_or-set_other out (8 * n + i) (8 * n + j) w 0 (λ z. omega arith) ∙ loaded j l)
        (get_or-set_same out (8 * n + i) w 0 h ∙ e)

    pub all_masks : 8 ≤ i → masks_in out n ≡ map mask (up_to 8)
    all_masks h = map_up_to_same (mask_in out n) mask 8 (λ j l. loaded j (omega arith))

-- ---- one rule more, after the first n
module _ (n : ℕ) (after out : List ℕ) (stays : take (8 * n) after ≡ take (8 * n) out) where
  before_stay : rules_in after n ≡ rules_in out n
  unfolding rules_in
  before_stay =
      map_up_to_same (masks_in after) (masks_in out) n (λ j h. map_up_to_same (mask_in after j) (mask_in out j) 8 (λ i l.
      word_stays (8 * n) after out stays (8 * j + i) (omega arith)))

  pub rule-added : {r : List ℕ} → masks_in after n ≡ r → rules_in after (n + 1) ≡ rules_in out n ++ r ∷ []
  rule-added is = rules-more after n ∙ rw (before_stay, is)

-- ---- the first n rules are those from a place on
module _ (s : List ℕ) (at : ℕ) where
  abbrev pub RulesLoaded : (out : List ℕ) (n : ℕ) → Type 0
  RulesLoaded out n = rules_in out n ≡ rules_from s n at

  pub no_rules : (out : List ℕ) → RulesLoaded out 0
  unfolding up_to
  no_rules out = rules-none out

  module _ (out : List ℕ) (n : ℕ) (loaded : RulesLoaded out n) where
    pub one-rule : (after : List ℕ) → take (8 * n) after ≡ take (8 * n) out → {place : ℕ} → place ≡ at + 16 * n → masks_in after n ≡ rule_from s place
        → RulesLoaded after (n + 1)
    one-rule after stays there is = rule-added n after out stays is ∙ rw (loaded, there, add-one n) (sym (rules_from-more s n at))

    pub all_rules : (rules : ℕ) → RulesBegin s at rules → n ≡ rules → RulesLoad s rules out
    all_rules rules begin e x end f =
        let (there, many) = remembered s at rules begin x end f in
        rw (sym e) (loaded ∙ rw (e ∙ many, there) (sym (accepted_lies s x end f).rules_lie))

-- ---- the first n rules are those from a place on whose numbers, below another, are in a set
module _ (s : List ℕ) (at set : ℕ) where
  abbrev chosen : ℕ → List ℕ
  chosen number = keep (λ i. i ∈? set) (up_to number)

  abbrev pub OnlyLoaded : (out : List ℕ) (n number : ℕ) → Type 0
  OnlyLoaded out n number = rules_in out n ≡ map (λ i. rule_from s (at + 16 * i)) (chosen number)

  pub none_loaded : (out : List ℕ) → OnlyLoaded out 0 0
  unfolding up_to keep
  none_loaded out = rules-none out

  module _ (out : List ℕ) (n number : ℕ) (loaded : OnlyLoaded out n number) where
    pub one_number : (after : List ℕ) (m : ℕ) {yes : Bool} {place : ℕ} → yes ≡ (number ∈? set) → place ≡ at + 16 * number
        → rules_in after m ≡ rules_in out n ++ only yes (rule_from s place) → OnlyLoaded after m (number + 1)
    unfolding up_to
    one_number after m {yes} {place} tested there is =
        let more : map (λ i. rule_from s (at + 16 * i)) (chosen (suc number)) ≡ map (λ i. rule_from s (at + 16 * i)) (chosen number) ++ only yes (rule_from s place) =
        ap (map (λ i. rule_from s (at + 16 * i))) (keep_snoc (λ i. i ∈? set) (up_to number) number)
        ∙ map-append (λ i. rule_from s (at + 16 * i)) (chosen number) (only (number ∈? set) number)
        ∙ ap (λ l. map (λ i. rule_from s (at + 16 * i)) (chosen number) ++ l) (map-only (number ∈? set)) ∙ rw (tested, there) in
        is ∙ rw (loaded, add-one number) (sym more)
      where
        map-only : (b : Bool) → map (λ i. rule_from s (at + 16 * i)) (only b number) ≡ only b (rule_from s (at + 16 * number))
        map-only true = refl
        map-only false = refl

    pub all_numbers : (rules : ℕ) → RulesBegin s at rules → number ≡ rules → RulesLoadOnly s set n out
    all_numbers rules begin e x end f =
        let (there, many) = remembered s at rules begin x end f in
        loaded ∙ rw (e ∙ many, there) (map_keep_same (λ i. i ∈? set) (λ i. i ∈? set) (λ i. rule_from s (x.rules_at + 16 * i)) (λ i. get_or x.rules i []) (up_to (length x.rules))
        (λ i m. (refl, sym (rule_lies s x end f i ((among-up_to (length x.rules)).0 m)))))

-- ---- pairs after the first n rules
-- a pair's masks, by its atoms
pub pair-written : (p : Opposites) → constraint_masks (single p.first ∪ single p.second) ≡ eight_masks (opposed p)
unfolding up_to
pair-written p = refl

-- the first i pairs from a place on, after n rules of `before`
module _ (s : List ℕ) (from n : ℕ) (before : List ℕ) where
  abbrev pub PairsLoaded : (out : List ℕ) (i : ℕ) → Type 0
  PairsLoaded out i = rules_in out (n + i) ≡ rules_in before n ++ pairs_written (pairs_from s i from)

  pub no_pair : PairsLoaded before 0
  unfolding up_to
  no_pair =
      let z : n + 0 ≡ n = omega arith in
      rw z (sym (append-nil (rules_in before n)))

  module _ (out : List ℕ) (i : ℕ) (loaded : PairsLoaded out i) where
    pub one-pair : (after : List ℕ) → take (8 * (n + i)) after ≡ take (8 * (n + i)) out → {a b : ℕ} → a ≡ byte_at s (from + 2 * i) → b ≡ byte_at s (from + 2 * i + 1)
        → masks_in after (n + i) ≡ constraint_masks (single a ∪ single b) → PairsLoaded after (i + 1)
    one-pair after stays first second is =
        let p = pair_from s (from + 2 * i) in
        let z : n + (i + 1) ≡ n + i + 1 = omega arith in
        let masks : masks_in after (n + i) ≡ eight_masks (opposed p) = is ∙ rw (first, second) (pair-written p) in
        let more : pairs_written (pairs_from s (suc i) from) ≡ pairs_written (pairs_from s i from) ++ eight_masks (opposed p) ∷ [] =
        ap pairs_written (pairs_from-more s i from) ∙ ap (map eight_masks) (map-append opposed (pairs_from s i from) (p ∷ []))
        ∙ map-append eight_masks (map opposed (pairs_from s i from)) (opposed p ∷ []) in
        ap (rules_in after) z ∙ rule-added (n + i) after out stays masks ∙ ap (λ l. l ++ eight_masks (opposed p) ∷ []) loaded
        ∙ append_assoc (rules_in before n) (pairs_written (pairs_from s i from)) (eight_masks (opposed p) ∷ [])
        ∙ ap (λ l. rules_in before n ++ l) (sym more) ∙ ap (λ m. rules_in before n ++ pairs_written (pairs_from s m from)) (sym (add-one i))

-- both bytes of pair i are below 16
pub pair-atoms : (s : List ℕ) (from pairs i : ℕ) → Atoms s from pairs → i < pairs → (byte_at s (from + 2 * i) < 16) × (byte_at s (from + 2 * i + 1) < 16)
pair-atoms s from pairs i atoms l =
    let z : from + (2 * i + 1) ≡ from + 2 * i + 1 = omega arith in
    (atoms (2 * i) (omega arith), subst (λ p. byte_at s p < 16) z (atoms (2 * i + 1) (omega arith)))

-- ---- what `load` requires of the pairs, and that rules and pairs are all
module _ (s : List ℕ) {x : Contents} (holds : Holds s x) where
  abbrev pub pairs_place : ℕ
  pairs_place = x.rules_at + 16 * x.rules + 1

  pub held_begin : RulesBegin s x.rules_at x.rules
  held_begin = let (y, end, e, same) = holds in (y, end, e, ap (λ z. z.rules_at) same, ap (λ z. z.rules) same)

  pub held_few : (x.rules ≤ most_rules) × (x.pairs ≤ most_pairs)
  held_few =
      let (y, end, e, same) = holds in
      let r = (accepted_read s y end e).0 in
      (omega (arith, r.front_read.few_rules, ap (λ z. z.rules) same), omega (arith, r.few_pairs, ap (λ z. z.pairs) same))

  pub held_there : pairs_place + 2 * x.pairs ≡ length s
  held_there =
      let (y, end, e, same) = holds in
      omega (arith, (accepted_lies s y end e).whole, ap (λ z. z.rules_at) same, ap (λ z. z.rules) same, ap (λ z. z.pairs) same)

  pub held_long : length s ≤ longest_sheet
  held_long = let (y, end, e, _) = holds in (accepted_lies s y end e).not_long

  pub held_pairs : (y : Sheet) (end : ℕ) → opened s ≡ field y end → pairs_from s x.pairs pairs_place ≡ y.pairs
  held_pairs z last f =
      let (y, end, e, same) = holds in
      let both : field y end ≡ field z last = sym e ∙ f in
      let one : y ≡ z = cc in
      let kept : x ≡ contents z = same ∙ ap contents one in
      rw kept (sym (accepted_lies s z last f).pairs_lie)

  pub held_atoms : Atoms s pairs_place x.pairs
  held_atoms i l =
      let (y, end, e, same) = holds in
      let f = accepted_fits s y end e in
      let few = f.front_fits.few_names in
      let disjoint = subst (Disjoint (length y.names)) (sym (held_pairs y end e)) f.disjoint in
      omega (arith, bytes-atoms s (length y.names) x.pairs pairs_place (omega (arith, held_there)) disjoint i l)

  -- the rules and then the pairs
  pub all_loaded : (words out : List ℕ) (n : ℕ) → n ≡ x.rules → RulesLoad s x.rules words
      → rules_in out (n + x.pairs) ≡ rules_in words n ++ pairs_written (pairs_from s x.pairs pairs_place) → Loads s (n + x.pairs) out
  all_loaded words out n many rules pairs y end e =
      pairs ∙ ap₂ ◌++◌ (ap (rules_in words) many ∙ rules y end e) (ap pairs_written (held_pairs y end e))

  pub only_loaded : (set : ℕ) (words out : List ℕ) (n : ℕ) → RulesLoadOnly s set n words
      → rules_in out (n + x.pairs) ≡ rules_in words n ++ pairs_written (pairs_from s x.pairs pairs_place) → LoadsOnly s set (n + x.pairs) out
  only_loaded set words out n rules pairs y end e = pairs ∙ ap₂ ◌++◌ (rules y end e) (ap pairs_written (held_pairs y end e))
