-- The number of each negation: how many stand before it. Assumes nothing.
use Prim.Native.Nat.{ℕ, zero, suc, ◌+◌, ◌≤◌, ◌<◌}
use mathlib.Core.Path.{◌≡◌, refl, sym, ap, ◌∙◌, subst}
use mathlib.Core.Bool.{Bool, true, false, not, cond, ◌&&◌, ◌||◌}
use mathlib.Core.List.Memᴰ
use mathlib.Core.List.{List, [], ◌∷◌, ◌++◌, append-nil, append_assoc}
use native.Mathlib.Omega.{arith}
use native.Mathlib.Nat.{eq-or-lt_of_le, le_of_suc-le-suc}
use mathlib.Core.Logic.{⊎_elim}
use lib.ListN.{length, length-append}
use lib.Seq.{get_or_at}
use Rattle.sets.specs.Decides.{dec_one, dec_iff, is_false}
use Rattle.sets.specs.Lists.{◌among◌, some, only, flat, up_to, flat_snoc, get_or-among}
use Rattle.sets.specs.Pairwise.{Distinct, distinct_places}
use Rattle.sets.specs.Counting.{one, length-only}
use Rattle.sets.specs.Sets.{◌∈◌, ◌∈?◌, ◌∪◌, ∅, single, set_of}
use Rattle.sets.specs.Members.{dec_∈, ∅-∪, set_of-suc}
use Rattle.semantics.specs.Definitions.Rules.{EpistemicRule, Subjective, K, not_k, M, not_m}
use Rattle.semantics.specs.Definitions.Guesses.{Negation, not_known, may_be, numbered, assumed, negations_of}
use Rattle.semantics.specs.Definitions.Verdict.{found_has}
use Rattle.semantics.specs.Theorems.Negations.{Mentioned, Appears}
use Rattle.semantics.proofs.Theorems.Negations.{definition_3, negations_distinct, dec_assumed}
use Rattle.guess.specs.Negations.{negations_in}

-- ---- a negation of a known number, and one that is not there
module _ (es : List Negation) (g : ℕ) (e : Negation) where
  assumed-at : (j : ℕ) → Distinct es → j < length es → numbered es j ≡ e → assumed es g e ≡ (j ∈? g)
  assumed-at j d l n =
      dec_one (dec_assumed es g e)
      (dec_iff (
        λ m. (j, l, (m, n)),
        λ p. let (i, h, (m, o)) = p in subst (λ z. z ∈ g) (distinct_places es (not_known 0) d i j h l (o ∙ sym n)) m,
      ) (dec_∈ j g))

  assumed-none : (e among es → ⊥) → assumed es g e ≡ false
  assumed-none f = is_false (dec_assumed es g e) (λ p. let (i, h, (_, o)) = p in f (subst (λ z. z among es) o (get_or-among es (not_known 0) i h)))

-- ---- the negations on the atoms below n; those under K are in k, those under M in m
module _ (k m : ℕ) where
  abbrev on : ℕ → List Negation
  on a = only (a ∈? k) (not_known a) ++ only (a ∈? m) (may_be a)

  next : (a : ℕ) → negations_in (suc a) k m ≡ negations_in a k m ++ on a
  unfolding negations_in up_to
  next a = flat_snoc on (up_to a) a

  pub next_number : (a : ℕ) → length (negations_in (suc a) k m) ≡ length (negations_in a k m) + one (a ∈? k) + one (a ∈? m)
  next_number a =
      ap length (next a) ∙ length-append (negations_in a k m) (on a) ∙ rw (length-append (only (a ∈? k) (not_known a)) (only (a ∈? m) (may_be a)))
      (omega (arith, length-only (a ∈? k) (not_known a), length-only (a ∈? m) (may_be a)))

  -- the same list as the definition makes of one rule that has these atoms
  rule : EpistemicRule
  rule = record { objective = record { head = ∅; plain = ∅; nots = ∅; not_nots = ∅ }; mask = masks }
    where
      masks : Subjective → ℕ
      masks K = k
      masks not_k = k
      masks M = m
      masks not_m = m

  as_defined : (n : ℕ) → negations_of n (rule ∷ []) ≡ negations_in n k m
  unfolding negations_in rule some
  as_defined n = λ i. flat (λ a. only (twice (a ∈? k) i) (not_known a) ++ only (twice (a ∈? m) i) (may_be a)) (up_to n)
    where
      twice : (b : Bool) → ((b || b) || false) ≡ b
      twice true = refl
      twice false = refl

  distinct : (n : ℕ) → Distinct (negations_in n k m)
  distinct n = subst Distinct (as_defined n) (negations_distinct (rule ∷ []) n)

  begins : (a n : ℕ) → a ≤ n → (rest : List Negation) × (negations_in n k m ≡ negations_in a k m ++ rest)
  begins a zero h =
      let e : a ≡ zero = omega arith in
      ([], rw e (sym (append-nil _)))
  begins a (suc n) h = ⊎_elim
      (λ e. ([], rw e (sym (append-nil _))))
      (λ l. let (rest, e) = begins a n (le_of_suc-le-suc l) in
      (rest ++ on n, next n ∙ ap (λ z. z ++ on n) e ∙ append_assoc (negations_in a k m) rest (on n)))
      (eq-or-lt_of_le h)

  -- ---- of n atoms, the negations on atom a: "not K a" has the number j of those before it, "M a" the next
  module _ (n a : ℕ) (h : a < n) where
    abbrev es : List Negation
    es = negations_in n k m

    abbrev j : ℕ
    j = length (negations_in a k m)

    middle : (before : List Negation) (e : Negation) (after : List Negation) (i : ℕ) → es ≡ before ++ e ∷ after → length before ≡ i
        → (i < length es) × (numbered es i ≡ e)
    middle before e after i p q =
        let l = ap length p ∙ length-append before (e ∷ after) in
        (omega arith, ap (λ z. numbered z i) p ∙ get_or_at before e after (not_known 0) i q)

    place_k : (a ∈? k) ≡ true → (j < length es) × (numbered es j ≡ not_known a)
    place_k b =
        let (rest, e) = begins (suc a) n h in
        let f : on a ≡ not_known a ∷ only (a ∈? m) (may_be a) = rw b in
        middle (negations_in a k m) (not_known a) (only (a ∈? m) (may_be a) ++ rest) j
        (e ∙ ap (λ z. z ++ rest) (next a) ∙ append_assoc (negations_in a k m) (on a) rest ∙ ap (λ z. negations_in a k m ++ (z ++ rest)) f) refl

    place_m : (a ∈? m) ≡ true → (j + one (a ∈? k) < length es) × (numbered es (j + one (a ∈? k)) ≡ may_be a)
    place_m b =
        let (rest, e) = begins (suc a) n h in
        let first = only (a ∈? k) (not_known a) in
        let f : on a ++ rest ≡ first ++ (may_be a ∷ rest) = append_assoc first (only (a ∈? m) (may_be a)) rest ∙ rw b in
        middle (negations_in a k m ++ first) (may_be a) rest (j + one (a ∈? k))
        (e ∙ ap (λ z. z ++ rest) (next a) ∙ append_assoc (negations_in a k m) (on a) rest ∙ ap (λ z. negations_in a k m ++ z) f
        ∙ sym (append_assoc (negations_in a k m) first (may_be a ∷ rest)))
        (length-append (negations_in a k m) first ∙ ap (λ z. j + z) (length-only (a ∈? k) (not_known a)))

    mentioned : {e : Negation} → e among es → Appears (rule ∷ []) e
    mentioned {e} o = ((definition_3 (rule ∷ []) n).0 (subst (λ z. e among z) (sym (as_defined n)) o)).1

    in_rule : (x y : Subjective) (z : ℕ) → rule.mask x ≡ z → rule.mask y ≡ z → Mentioned (rule ∷ []) x y a → a ∈ z
    in_rule x y z p q o =
        let (r, i, b) = o in
        let e = Memᴰ.eq_of_singleton i in
        ⊎_elim (λ c. subst (λ w. a ∈ w) (ap (λ w. w.mask x) e ∙ p) c) (λ c. subst (λ w. a ∈ w) (ap (λ w. w.mask y) e ∙ q) c) b

    k-only : not_known a among es → a ∈ k
    unfolding rule
    k-only o = in_rule K not_k k refl refl (mentioned o)

    m-only : may_be a among es → a ∈ m
    unfolding rule
    m-only o = in_rule M not_m m refl refl (mentioned o)

    -- what a guess g assumes of a
    module _ (g : ℕ) where
      by_number : (e : Negation) (x i : ℕ) (b : Bool) → (a ∈? x) ≡ b → ((a ∈? x) ≡ true → (i < length es) × (numbered es i ≡ e)) → (e among es → a ∈ x)
          → assumed es g e ≡ b && (i ∈? g)
      by_number e x i true c place within = let (l, o) = place c in assumed-at es g e i (distinct n) l o
      by_number e x i false c place within = assumed-none es g e (λ o. (dec_∈ a x).no c (within o))

      pub assumed-k : assumed es g (not_known a) ≡ (a ∈? k) && (j ∈? g)
      assumed-k = by_number (not_known a) k j (a ∈? k) refl place_k k-only

      pub assumed-m : assumed es g (may_be a) ≡ (a ∈? m) && (j + one (a ∈? k) ∈? g)
      assumed-m = by_number (may_be a) m (j + one (a ∈? k)) (a ∈? m) refl place_m m-only

    -- the guess found, as far as the negations before number i
    module _ (known possible : ℕ) where
      abbrev has : ℕ → Bool
      has i = found_has known possible (numbered es i)

      grown : (i : ℕ) (b c : Bool) → (b ≡ true → has i ≡ c) → set_of has (i + one b) ≡ cond (b && c) (single i) ∅ ∪ set_of has i
      grown i true c f = ap (set_of has) (omega arith) ∙ set_of-suc has i ∙ ap (λ z. cond z (single i) ∅ ∪ set_of has i) (f refl)
      grown i false c f = ap (set_of has) (omega arith) ∙ sym (∅-∪ (set_of has i))

      pub found-k : set_of has (j + one (a ∈? k)) ≡ cond ((a ∈? k) && not (a ∈? known)) (single j) ∅ ∪ set_of has j
      found-k = grown j (a ∈? k) (not (a ∈? known)) (λ b. ap (found_has known possible) (place_k b).1)

      pub found-m : set_of has (j + one (a ∈? k) + one (a ∈? m)) ≡ cond ((a ∈? m) && (a ∈? possible)) (single (j + one (a ∈? k))) ∅ ∪ set_of has (j + one (a ∈? k))
      found-m = grown (j + one (a ∈? k)) (a ∈? m) (a ∈? possible) (λ b. ap (found_has known possible) (place_m b).1)

    pub number_fits : j + one (a ∈? k) + one (a ∈? m) ≤ length es
    number_fits =
        let (rest, e) = begins (suc a) n h in
        omega (arith, ap length e ∙ length-append (negations_in (suc a) k m) rest, next_number a)
