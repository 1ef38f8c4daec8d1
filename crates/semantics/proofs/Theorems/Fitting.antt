-- Names, rules and pairs that fit a sheet are read off the bytes that they have by the layout. Assumes nothing.
use Prim.Native.Nat.{ℕ, ◌+◌, ◌*◌, ◌/◌, ◌%◌, ◌^◌, ◌≤◌, ◌<◌}
use Rattle.std.specs.Prelude.{◌≡◌, refl, get_or}
use Rattle.std.proofs.Math.Path.{sym, ap}
use Rattle.std.proofs.Common.{◌∙◌, subst, lt-ltb, eq-eqb, length-drop, drop-drop, get_or-drop}
use mathlib.Core.List.{List, [], ◌∷◌, ◌++◌, append-nil, append_assoc}
use native.Mathlib.Omega.{arith}
use Rattle.std.proofs.Math.ListN.{length, drop, length-append}
use Rattle.std.proofs.Math.Seq.{drop-append_seam}
use Rattle.sets.specs.Decides.{is_true, dec_not, dec_le}
use Rattle.sets.specs.Lists.{◌among◌, here, among_middle, null, same_list, flat, flat-single, dec_some, dec_same}
use Rattle.sets.specs.Pairwise.{Distinct, pairwise_across}
use Rattle.sets.specs.Sets.{Below}
use Rattle.semantics.specs.Definitions.Reading.{Reading, field, require, times}
use Rattle.semantics.specs.Definitions.Sheet.{Opposites, good_pair, byte_at, word_at, present, count_at, name_byte_at, name_at, mask_at, rule_at, pair_from, pair_at, front, pairs_at, sections, most_atoms, most_rules, most_pairs, longest_name}
use Rattle.semantics.specs.Definitions.Setting.{k}
use Rattle.semantics.specs.Definitions.Check.{most_negations, setting, opened}
use Rattle.semantics.specs.Theorems.Reading.{then_is, require_is}
use Rattle.semantics.specs.Theorems.Names.{GoodName, Letter, Allowed, dec_between, dec_allowed}
use Rattle.semantics.specs.Theorems.Pairs.{GoodPair, Disjoint}
use Rattle.semantics.proofs.Theorems.Pairs.{dec_good_pair, disjoint_good}
use Rattle.semantics.specs.Theorems.Layout.{name_bytes, mask_bytes, rule_bytes, pair_bytes, front_bytes, sheet_bytes, sheet_of, FrontFits, Fits}
use Rattle.semantics.specs.Theorems.Fitting as defined

-- ---- bytes
allowed_at : (n earlier later : List ℕ) (b : ℕ) → GoodName n → earlier ++ b ∷ later ≡ n → Allowed (null earlier) b
allowed_at n [] later b good e = subst (λ l. Letter (get_or l 0 0)) (sym e) good.first
allowed_at n (c ∷ earlier) later b good e = good.bytes b (among_middle (c ∷ earlier) b later e)

length-masks : (r : List ℕ) → length (rule_bytes r) ≡ 2 * length r
unfolding flat
length-masks [] = refl
length-masks (m ∷ r) = omega (arith, length-masks r)

module _ (s : List ℕ) where
  -- from the place `at` the bytes bs stand in s, and then the others
  abbrev Stands : (at : ℕ) (bs others : List ℕ) → Type 0
  Stands = defined.Stands s

  after : (at : ℕ) (bs others : List ℕ) → Stands at bs others → drop (at + length bs) s ≡ others
  after at bs others e = sym (drop-drop (length bs) at s) ∙ ap (drop (length bs)) e ∙ drop-append_seam bs others

  byte_here : (at b : ℕ) (others : List ℕ) → Stands at (b ∷ []) others → byte_at s at ≡ b
  byte_here at b others e =
      let z : at ≡ at + 0 = omega arith in
      ap (λ i. get_or s i 0) z ∙ sym (get_or-drop at s 0 0) ∙ ap (λ l. get_or l 0 0) e

  present_is : {A : Type 0} (at : ℕ) (bs others : List ℕ) (n : ℕ) {rest x : Reading A} → Stands at bs others → 1 ≤ n → n ≤ length bs
      → rest ≡ x → present s at n rest ≡ x
  present_is at bs others n e low high f =
      let l = length-drop at s in
      let m = ap length e ∙ length-append bs others in
      require_is 1 (length s) (is_true (dec_le (at + n) (length s)) (omega arith)) f

  -- the same step for each member of a list, whose bytes stand end to end
  module _ {A : Type 0} (step : List A → ℕ → Reading A) (bytes : A → List ℕ) (whole : List A)
      (each : (earlier : List A) (x : A) (later : List A) (at : ℕ) (others : List ℕ) → earlier ++ x ∷ later ≡ whole → Stands at (bytes x) others
      → step earlier at ≡ field x (at + length (bytes x))) where
    go_on : (l earlier : List A) (at : ℕ) (others : List ℕ) → earlier ++ l ≡ whole → Stands at (flat bytes l) others
        → times (length l) earlier step at ≡ field whole (at + length (flat bytes l))
    unfolding times flat
    go_on [] earlier at others e h =
        let z : at + 0 ≡ at = omega arith in
        rw (z, ← append-nil earlier, e)
    go_on (x ∷ l) earlier at others e h =
        let g = h ∙ append_assoc (bytes x) (flat bytes l) others in
        let z : at + length (bytes x) + length (flat bytes l) ≡ at + length (bytes x ++ flat bytes l) =
        omega (arith, length-append (bytes x) (flat bytes l)) in
        then_is _ (each earlier x l at (flat bytes l ++ others) e g)
        (go_on l (earlier ++ x ∷ []) (at + length (bytes x)) others (append_assoc earlier (x ∷ []) l ∙ e)
        (after at (bytes x) (flat bytes l ++ others) g)
        ∙ ap (field whole) z)

    times_is : (at : ℕ) (others : List ℕ) → Stands at (flat bytes whole) others
        → times (length whole) [] step at ≡ field whole (at + length (flat bytes whole))
    times_is at others = go_on whole [] at others refl

  pub count_is : (limit at b : ℕ) (others : List ℕ) → Stands at (b ∷ []) others → b ≤ limit → count_at s limit at ≡ field b (at + 1)
  unfolding count_at
  count_is limit at b others e l =
      present_is at (b ∷ []) others 1 e (omega arith) (omega arith)
      (rw (byte_here at b others e) (require_is 2 at (is_true (dec_le b limit) l) refl))

  -- ---- names
  name_byte_is : (earlier : List ℕ) (b at : ℕ) (others : List ℕ) → Allowed (null earlier) b → Stands at (b ∷ []) others
      → name_byte_at s earlier at ≡ field b (at + 1)
  unfolding name_byte_at
  name_byte_is earlier b at others a e = rw (byte_here at b others e) (require_is 3 at (is_true (dec_allowed (null earlier) b) a) refl)

  name_bytes_are : (n : List ℕ) (at : ℕ) (others : List ℕ) → GoodName n → Stands at n others
      → times (length n) [] (name_byte_at s) at ≡ field n (at + length n)
  name_bytes_are n at others good e =
      times_is (name_byte_at s) (λ b. b ∷ []) n (λ earlier b later p o q. name_byte_is earlier b p o (allowed_at n earlier later b good q)) at others
      (e ∙ ap (λ l. l ++ others) (sym (flat-single n))) ∙ ap (λ l. field n (at + length l)) (flat-single n)

  name_is : (earlier : List (List ℕ)) (n : List ℕ) (at : ℕ) (others : List ℕ) → GoodName n → ((y : List ℕ) → y among earlier → n ≡ y → ⊥)
      → Stands at (name_bytes n) others → name_at s earlier at ≡ field n (at + length (name_bytes n))
  unfolding name_at
  name_is earlier n at others good new e =
      let g = after at (length n ∷ []) (n ++ others) e in
      let low = good.not_empty in
      let few = good.not_long in
      let z : at + 1 + length n ≡ at + length (name_bytes n) = omega arith in
      present_is at (name_bytes n) others 1 e (omega arith) (omega arith)
      (rw (byte_here at (length n) (n ++ others) e)
      (require_is 3 at (is_true (dec_between 1 longest_name (length n)) (low, few))
      (present_is (at + 1) n others (length n) g low (omega arith)
      (then_is _ (name_bytes_are n (at + 1) others good g)
      (require_is 4 at (is_true (dec_not (dec_some (same_list n) (λ y. n ≡ y) earlier (λ y _. dec_same n y))) (λ q. new q.0 q.1 q.2))
      (ap (field n) z))))))

  -- ---- rules
  mask_is : (atoms m at : ℕ) (others : List ℕ) → m < 2 ^ atoms → Stands at (mask_bytes m) others → mask_at s atoms at ≡ field m (at + 2)
  unfolding mask_at
  mask_is atoms m at others l e =
      let low = byte_here at (m % 256) (m / 256 ∷ others) e in
      let high = byte_here (at + 1) (m / 256) others (after at (m % 256 ∷ []) (m / 256 ∷ others) e) in
      let w : word_at s at ≡ m = omega arith in
      rw w (require_is 5 at (lt-ltb m (2 ^ atoms) l) refl)

  rule_is : (atoms : ℕ) (r : List ℕ) (at : ℕ) (others : List ℕ) → length r ≡ 8 → Below atoms r
      → Stands at (rule_bytes r) others → rule_at s atoms at ≡ field r (at + length (rule_bytes r))
  unfolding rule_at
  rule_is atoms r at others eight below e =
      present_is at (rule_bytes r) others 16 e (omega arith) (omega (arith, length-masks r))
      (subst (λ n. times n [] (λ _. mask_at s atoms) at ≡ field r (at + length (rule_bytes r))) eight
      (times_is (λ _. mask_at s atoms) mask_bytes r
      (λ earlier m later p o q. mask_is atoms m p o (below m (among_middle earlier m later q))) at others e))

  -- ---- names and rules
  module _ (names rules : List (List ℕ)) (f : FrontFits names rules) where
    names_are : (at : ℕ) (others : List ℕ) → Stands at (flat name_bytes names) others
        → times (length names) [] (name_at s) at ≡ field names (at + length (flat name_bytes names))
    names_are =
        times_is (name_at s) name_bytes names (λ earlier n later p o q.
        name_is earlier n p o (f.good_names n (among_middle earlier n later q))
        (λ y m e. pairwise_across _ earlier (n ∷ later) (subst Distinct (sym q) f.distinct) y n m here (sym e)))

    rules_are : (at : ℕ) (others : List ℕ) → Stands at (flat rule_bytes rules) others
        → times (length rules) [] (λ _. rule_at s (length names)) at ≡ field rules (at + length (flat rule_bytes rules))
    rules_are =
        times_is (λ _. rule_at s (length names)) rule_bytes rules (λ earlier r later p o q.
        let m = among_middle earlier r later q in
        rule_is (length names) r p o (f.whole-rules r m) (f.masks_below r m))

    -- whatever follows them
    pub front_is : (others : List ℕ) → s ≡ front_bytes names rules ++ others → front s ≡ field (sheet_of names rules []) (length (front_bytes names rules))
    unfolding front
    front_is others e =
        let n = length names in
        let m = length rules in
        let F = flat name_bytes names in
        let G = flat rule_bytes rules in
        let at = 1 + length F in
        let M : List ℕ = m ∷ (G ++ others) in
        let d : s ≡ n ∷ (F ++ M) = e ∙ append_assoc (n ∷ F) (m ∷ G) others in
        let h₁ = after 0 (n ∷ []) (F ++ M) d in
        let h₂ = after 1 F M h₁ in
        let h₃ = after at (m ∷ []) (G ++ others) h₂ in
        let z : at + 1 + length G ≡ length (front_bytes names rules) = omega (arith, length-append F (m ∷ G)) in
        then_is _ (count_is most_atoms 0 n (F ++ M) d f.few_names)
        (then_is _ (names_are 1 M h₁)
        (then_is _ (count_is most_rules at m (G ++ others) h₂ f.few_rules)
        (then_is _ (rules_are (at + 1) others h₃) (ap (field (sheet_of names rules [])) z))))

  -- ---- pairs
  pair_is : (atoms : ℕ) (earlier : List Opposites) (p : Opposites) (at : ℕ) (others : List ℕ) → GoodPair atoms earlier p → Stands at (pair_bytes p) others
      → pair_at s atoms earlier at ≡ field p (at + 2)
  unfolding pair_at
  pair_is atoms earlier p at others good e =
      let first = byte_here at p.first (p.second ∷ others) e in
      let second = byte_here (at + 1) p.second others (after at (p.first ∷ []) (p.second ∷ others) e) in
      let there : pair_from s at ≡ p = λ i. record { first = first i; second = second i } in
      present_is at (pair_bytes p) others 2 e (omega arith) (omega arith)
      (ap (λ q. require (good_pair atoms earlier q) 15 at (field q (at + 2))) there ∙ require_is 15 at (is_true (dec_good_pair atoms earlier p) good) refl)

  pairs_are : (atoms : ℕ) (pairs : List Opposites) → length pairs ≤ most_pairs → Disjoint atoms pairs → (at : ℕ) (others : List ℕ)
      → Stands at (length pairs ∷ flat pair_bytes pairs) others → pairs_at s atoms at ≡ field pairs (at + 1 + length (flat pair_bytes pairs))
  unfolding pairs_at
  pairs_are atoms pairs few disjoint at others e =
      then_is _ (count_is most_pairs at (length pairs) (flat pair_bytes pairs ++ others) e few)
      (times_is (pair_at s atoms) pair_bytes pairs
      (λ earlier p later q o h. pair_is atoms earlier p q o (disjoint_good atoms earlier p later (subst (Disjoint atoms) (sym h) disjoint)))
      (at + 1) others (after at (length pairs ∷ []) (flat pair_bytes pairs ++ others) e))

  -- ---- the whole
  module _ (names rules : List (List ℕ)) (pairs : List Opposites) (f : Fits names rules pairs) where
    opened_is : s ≡ sheet_bytes names rules pairs → opened s ≡ field (sheet_of names rules pairs) (length s)
    unfolding opened sections
    opened_is e =
        let F = front_bytes names rules in
        let P = length pairs ∷ flat pair_bytes pairs in
        let at = length F in
        let first : at ≡ 0 + at = omega arith in
        let stands : Stands at P [] = ap (λ p. drop p s) first ∙ after 0 F P e ∙ sym (append-nil P) in
        let z : at + 1 + length (flat pair_bytes pairs) ≡ length s = omega (arith, ap length e, length-append F P) in
        then_is _
        (then_is _ (front_is names rules f.front_fits P e)
        (then_is _ (pairs_are (length names) pairs f.few_pairs f.disjoint at [] stands)
        (require_is 6 (at + 1 + length (flat pair_bytes pairs)) (eq-eqb _ _ z) (ap (field (sheet_of names rules pairs)) z))))
        (require_is 7 0 (is_true (dec_le (k (setting (sheet_of names rules pairs))) most_negations) f.front_fits.few_negations) refl)

pub fits_accepted : (names rules : List (List ℕ)) (pairs : List Opposites) → Fits names rules pairs
    → opened (sheet_bytes names rules pairs) ≡ field (sheet_of names rules pairs) (length (sheet_bytes names rules pairs))
fits_accepted names rules pairs f = opened_is (sheet_bytes names rules pairs) names rules pairs f refl
