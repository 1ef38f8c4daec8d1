-- A search, in many lanes at once, for a proper subset of i that is a model of the rules that are on: it has every atom of j, and no atom of out.
-- Where a rule fails in j, an atom of its head is decided: it is in the subset, or it is not. Assumes nothing.
use Rattle.std.specs.Prelude.{ℕ, ◌+◌, ◌≤◌, ◌<◌, ◌≡◌, refl, List, ◌↔◌, ◌⊎◌, get_or, Option}
use Rattle.std.specs.Option.{MatchOption}
use Rattle.std.proofs.Common.{sym, subst, inl, inr, ⊎_elim, arith, not-suc-le-zero, below_more}
use Rattle.sets.specs.Decides.{decided}
use Rattle.sets.specs.Sets.{◌∈◌, ◌⊆◌, ◌⊂◌, Meets, ◌∩◌, ◌∪◌, ◌∖◌, ∅, size}
use Rattle.sets.specs.Members.{dec_∈, ∈-∅, ∈-∩, ∈-∪, ∈-∖, ∈-single, ⊆_trans, ⊆_refl, ⊆_antisym, ∪-⊆, ∖-⊆, ⊆_∪_left, ⊆_∪_right, dec_meets, meets-⊆}
use Rattle.sets.specs.One.{OneOf}
use Rattle.sets.specs.Size.{size-⊂}
use Rattle.lanes.specs.declared.rule.Rule.{Rule}
use Rattle.lanes.specs.Rules.{rule_at}
use Rattle.lanes.specs.Lanes.{Lanes, lanes_self, lanes_is, lanes_iff, lanes_and, lanes_or, lanes_minus, lanes_none}
use Rattle.lanes.specs.Smaller.{Fails, Passes, passes_none}
use Rattle.search.specs.Smaller.{Small}

-- a member of s, alone; nothing where s has none
abbrev pub Chosen : ℕ → Option ℕ → Type 0
Chosen s r = MatchOption r (s ≡ ∅) (OneOf s)

-- ---- one member of s, alone
module _ {s a : ℕ} (o : OneOf s a) where
  has_one : o.0 ∈ a
  has_one = subst (λ z. o.0 ∈ z) (sym o.2) ((∈-single o.0 o.0).1 refl)

  is_one : {c : ℕ} → c ∈ a → c ≡ o.0
  is_one {c} m = (∈-single c o.0).0 (subst (λ z. c ∈ z) o.2 m)

  one-⊆ : {t : ℕ} → o.0 ∈ t → a ⊆ t
  one-⊆ {t} m = record { into = λ k. subst (λ z. z ∈ t) (sym (is_one k)) m }

-- ---- the atoms of i that are undecided: in neither j nor out
abbrev pub undecided : (i j out : ℕ) → ℕ
undecided i j out = i ∖ (j ∪ out)

fewer : (i y z k : ℕ) → k ∈ i → (k ∈ y → ⊥) → k ∈ z → y ⊆ z → size (i ∖ z) < size (i ∖ y)
fewer i y z k m n h s = size-⊂ (record {
  within = record { into = λ {a} u. let (p, q) = (∈-∖ a i z).0 u in (∈-∖ a i y).1 (p, λ v. q (s.into v)) };
  differ = λ e. ((∈-∖ k i z).0 (subst (λ w. k ∈ w) (sym e) ((∈-∖ k i y).1 (m, n)))).1 h;
})

module _ (i j out head : ℕ) {a : ℕ} (o : OneOf (head ∩ undecided i j out) a) where
  at_hand : (o.0 ∈ i) × (o.0 ∈ j ∪ out → ⊥)
  at_hand = (∈-∖ o.0 i (j ∪ out)).0 ((∈-∩ o.0 head (undecided i j out)).0 o.1).1

  not_out : o.0 ∈ out → ⊥
  not_out m = at_hand.1 ((⊆_∪_right j out).into m)

  not_in : o.0 ∈ j → ⊥
  not_in m = at_hand.1 ((⊆_∪_left j out).into m)

  pub into-j : (j ⊆ i) → (Meets j out → ⊥) → (size (undecided i (j ∪ a) out) < size (undecided i j out)) × (j ∪ a ⊆ i) × (Meets (j ∪ a) out → ⊥)
  into-j s d = (
    fewer i (j ∪ out) (j ∪ a ∪ out) o.0 at_hand.0 at_hand.1 ((⊆_∪_left (j ∪ a) out).into ((⊆_∪_right j a).into (has_one o)))
        ((∪-⊆ j out (j ∪ a ∪ out)).1 (⊆_trans (⊆_∪_left j a) (⊆_∪_left (j ∪ a) out), ⊆_∪_right (j ∪ a) out)),
    (∪-⊆ j a i).1 (s, one-⊆ o at_hand.0),
    λ m. ⊎_elim (λ l. d (record { common = m.common; left = l; right = m.right }))
        (λ l. not_out (subst (λ z. z ∈ out) (is_one o l) m.right)) ((∈-∪ m.common j a).0 m.left),
  )

  pub into-out : (Meets j out → ⊥) → (size (undecided i j (out ∪ a)) < size (undecided i j out)) × (Meets j (out ∪ a) → ⊥)
  into-out d = (
    fewer i (j ∪ out) (j ∪ (out ∪ a)) o.0 at_hand.0 at_hand.1 ((⊆_∪_right j (out ∪ a)).into ((⊆_∪_right out a).into (has_one o)))
        ((∪-⊆ j out (j ∪ (out ∪ a))).1 (⊆_∪_left j (out ∪ a), ⊆_trans (⊆_∪_left out a) (⊆_∪_right j (out ∪ a)))),
    λ m. ⊎_elim (λ l. d (record { common = m.common; left = m.left; right = l }))
        (λ l. not_in (subst (λ z. z ∈ j) (is_one o l) m.left)) ((∈-∪ m.common out a).0 m.right),
  )

-- ---- one lane
module _ {rules : List Rule} {on : List ℕ} {n i j out b : ℕ} where
  small_all : j ≡ i → Small rules on n i j out b → ⊥
  small_all e t = t.within.differ (⊆_antisym t.within.within (subst (λ z. z ⊆ t.set) e t.from))

  -- a rule that is on and fails in j, and has no undecided atom in its head
  small_none : (r : ℕ) → r < n → b ∈ get_or on r 0 → Fails (rule_at rules r) j → (rule_at rules r).head ∩ undecided i j out ≡ ∅ → Small rules on n i j out b → ⊥
  small_none r l o f e t =
      ⊎_elim (λ m.
      let decided_no : m.common ∈ j ∪ out → ⊥ = λ k.
      ⊎_elim (λ u. f.head (record { common = m.common; left = m.left; right = u }))
      (λ u. t.apart (record { common = m.common; left = m.right; right = u })) ((∈-∪ m.common j out).0 k) in
      let h = (∈-∖ m.common i (j ∪ out)).1 (t.within.within.into m.right, decided_no) in
      ∈-∅ {a = m.common} (subst (λ z. m.common ∈ z) e ((∈-∩ m.common ((rule_at rules r).head) (undecided i j out)).1 (m.left, h))))
      (λ d. t.passes.rule r l o (record { body = ⊆_trans f.body t.from; head = d })) (decided (dec_meets ((rule_at rules r).head) t.set))

  -- an atom is in the set, or it is not
  small_splits : {s a : ℕ} → OneOf s a → Small rules on n i j out b ↔ (Small rules on n i (j ∪ a) out b ⊎ Small rules on n i j (out ∪ a) b)
  small_splits {a = a} o = (
    λ t. ⊎_elim (λ m. inl (record { set = t.set; from = (∪-⊆ j a t.set).1 (t.from, one-⊆ o m); within = t.within; apart = t.apart; passes = t.passes }))
        (λ d. inr (record {
          set = t.set;
          from = t.from;
          within = t.within;
          apart = λ m. ⊎_elim (λ l. t.apart (record { common = m.common; left = m.left; right = l }))
              (λ l. d (subst (λ z. z ∈ t.set) (is_one o l) m.left)) ((∈-∪ m.common out a).0 m.right);
          passes = t.passes;
        })) (decided (dec_∈ o.0 t.set)),
    ⊎_elim (λ t. record { set = t.set; from = ⊆_trans (⊆_∪_left j a) t.from; within = t.within; apart = t.apart; passes = t.passes })
        (λ t. record { set = t.set; from = t.from; within = t.within; apart = λ m. t.apart (meets-⊆ m (⊆_∪_left out a)); passes = t.passes }),
  )

-- ---- the lanes x: j passes the first r rules in those that are left; of the others, those in which there is a small set are found
pub record Searched (rules : List Rule) (on : List ℕ) (n i j out x r left found : ℕ) : Type 0 where
  pub passing : Lanes (λ b. (b ∈ x) × Passes rules on r b j) left
  pub small : Lanes (λ b. (b ∈ x) × (Passes rules on r b j → ⊥) × Small rules on n i j out b) found

module _ {rules : List Rule} {on : List ℕ} {n i j out x : ℕ} where
  pub search_full : j ≡ i → Lanes (λ b. (b ∈ x) × Small rules on n i j out b) ∅
  search_full e = lanes_none (λ b l u. small_all e u.1)

  pub search_starts : Searched rules on n i j out x 0 x ∅
  search_starts = record {
    passing = passes_none rules on;
    small = lanes_none (λ b l u. u.1 (record { rule = λ r k. absurd (not-suc-le-zero k) }));
  }

  pub search_is : {r left found left' found' : ℕ} → left' ≡ left → found' ≡ found → Searched rules on n i j out x r left found
      → Searched rules on n i j out x r left' found'
  search_is e h s = record { passing = lanes_is e s.passing; small = lanes_is h s.small }

module _ {rules : List Rule} {on : List ℕ} {n i j out x r left found : ℕ} (s : Searched rules on n i j out x r left found) where
  less : {b : ℕ} → Passes rules on (r + 1) b j → Passes rules on r b j
  less p = record { rule = λ q k. p.rule q (omega arith) }

  -- rule r fails in j in no lane that is left
  pub search_holds : ((b : ℕ) → b ∈ left → b ∈ get_or on r 0 → Fails (rule_at rules r) j → ⊥) → Searched rules on n i j out x (r + 1) left found
  search_holds h = record {
    passing = lanes_iff (λ b l. (λ u. (u.0, more b l u.0 u.1), λ u. (u.0, less u.1))) s.passing;
    small = lanes_iff (λ b l. (λ u. (u.0, λ p. u.1 (less p), u.2), λ u. (u.0, λ p. u.1 (more b l u.0 p), u.2))) s.small;
  }
    where
      more : (b : ℕ) → b < 64 → b ∈ x → Passes rules on r b j → Passes rules on (r + 1) b j
      more b l m p = record { rule = below_more _ r p.rule (h b ((s.passing.lane l).1 (m, p))) }

  -- it fails in j: the lanes that are left and in which it is on are decided
  decides : {all : ℕ} → Fails (rule_at rules r) j → Lanes (λ b. (b ∈ found) ⊎ ((b ∈ left ∩ get_or on r 0) × Small rules on n i j out b)) all
      → Searched rules on n i j out x (r + 1) (left ∖ (left ∩ get_or on r 0)) all
  decides f a = record {
    passing = lanes_iff (λ b l. (
      λ u. (u.0.0, record { rule = below_more _ r u.0.1.rule (λ o _. u.1 (u.0, o)) }),
      λ u. ((u.0, less u.1), λ v. u.1.rule r (omega arith) v.1 f),
    )) (lanes_minus s.passing (lanes_and s.passing lanes_self));
    small = lanes_iff (λ b l. (
      ⊎_elim (λ m. let u = (s.small.lane l).0 m in (u.0, λ p. u.1 (less p), u.2))
          (λ u. let (m, o) = (∈-∩ b left (get_or on r 0)).0 u.0 in (((s.passing.lane l).0 m).0, λ p. p.rule r (omega arith) o f, u.1)),
      λ u. ⊎_elim (λ m. inr (m, u.2))
          (λ d. inl ((s.small.lane l).1 (
            u.0,
            λ p. u.1 (record {
              rule = below_more _ r p.rule (λ o _. d ((∈-∩ b left (get_or on r 0)).1 ((s.passing.lane l).1 (u.0, p), o)));
            }),
            u.2,
          ))) (decided (dec_∈ b (left ∩ get_or on r 0))),
    )) a;
  }

  pub search_none : r < n → Fails (rule_at rules r) j → (rule_at rules r).head ∩ undecided i j out ≡ ∅ → Searched rules on n i j out x (r + 1) (left ∖ (left ∩ get_or on r 0)) found
  search_none h f e =
      decides f (lanes_iff (λ b l. (
        inl,
        ⊎_elim (λ m. m) (λ u. absurd (small_none r h ((∈-∩ b left (get_or on r 0)).0 u.0).1 f e u.1)),
      )) lanes_self)

  pub search_splits : {t a with without rest : ℕ} → Fails (rule_at rules r) j → OneOf t a → rest ≡ (left ∩ get_or on r 0) ∖ with
      → Lanes (λ b. (b ∈ left ∩ get_or on r 0) × Small rules on n i (j ∪ a) out b) with → Lanes (λ b. (b ∈ rest) × Small rules on n i j (out ∪ a) b) without
      → Searched rules on n i j out x (r + 1) (left ∖ (left ∩ get_or on r 0)) (found ∪ with ∪ without)
  search_splits {with = with} f o e p q =
      decides f (lanes_iff (λ b l. (
        ⊎_elim (⊎_elim inl (λ u. inr (u.0, (small_splits o).1 (inl u.1))))
            (λ u. inr ((∖-⊆ (left ∩ get_or on r 0) with).into (subst (λ z. b ∈ z) e u.0), (small_splits o).1 (inr u.1))),
        ⊎_elim (λ m. inl (inl m))
            (λ u. ⊎_elim (λ m. inl (inr ((p.lane l).0 m)))
            (λ d. ⊎_elim (λ t. absurd (d ((p.lane l).1 (u.0, t))))
            (λ t. inr (subst (λ z. b ∈ z) (sym e) ((∈-∖ b (left ∩ get_or on r 0) with).1 (u.0, d)), t)) ((small_splits o).0 u.1)) (decided (dec_∈ b with))),
      )) (lanes_or (lanes_or lanes_self p) q))

  -- no lane is left
  pub search_stops : left ≡ 0 → Lanes (λ b. (b ∈ x) × Small rules on n i j out b) found
  search_stops e =
      lanes_iff (λ b l. (λ u. (u.0, u.2), λ u. (u.0, λ p. ∈-∅ (subst (λ z. b ∈ z) e ((s.passing.lane l).1 (u.0, p))), u.1))) s.small

  -- no rule is left: j itself, in the lanes that are left
  pub search_ends : n ≤ r → j ⊂ i → (Meets j out → ⊥) → Lanes (λ b. (b ∈ x) × Small rules on n i j out b) (found ∪ left)
  search_ends k h d =
      lanes_iff (λ b l. (
        ⊎_elim (λ u. (u.0, u.2))
            (λ u. (u.0, record { set = j; from = ⊆_refl; within = h; apart = d; passes = record { rule = λ q m. u.1.rule q (omega arith) } })),
        λ u. ⊎_elim (λ m. inr ((s.passing.lane l).0 m)) (λ m. inl (u.0, λ p. m ((s.passing.lane l).1 (u.0, p)), u.1)) (decided (dec_∈ b left)),
      )) (lanes_or s.small s.passing)
