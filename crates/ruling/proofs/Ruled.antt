-- A lane passes the tests exactly when its guess is not contradicted. Assumes nothing.
use Prim.Native.Nat.{ℕ, ◌+◌, ◌*◌, ◌^◌, ◌<◌}
use mathlib.Core.Path.{◌≡◌, sym, ap, subst, ◌∙◌}
use mathlib.Core.List.{List}
use mathlib.Core.Logic.{◌↔◌, ◌⊎◌, inl, inr, ⊎_elim}
use native.Mathlib.Omega.{arith}
use lib.ListN.{get_or}
use Rattle.sets.specs.Decides.{Decides, is_true, is_false, decided, dec_lt}
use Rattle.sets.specs.Sets.{◌∈◌, Meets, ◌∈?◌, ◌∖◌, ∅, full}
use Rattle.sets.specs.Members.{dec_∈, ∅-⊆, ∈-∖, ∈-full, ∈_below, below_power}
use Rattle.semantics.specs.Definitions.Rules.{K, not_k, M, not_m}
use Rattle.semantics.specs.Definitions.Guesses.{not_known, may_be}
use Rattle.semantics.specs.Definitions.Propagation.{Pair}
use Rattle.semantics.specs.Words.{rules_in}
use Rattle.semantics.specs.Theorems.Negations.{Mentioned, dec_mentioned}
use Rattle.semantics.specs.Theorems.Subjects.{mentioned_in, k_atoms_below, m_atoms_below}
use Rattle.semantics.specs.Theorems.Contradicted.{pair_of}
use Rattle.semantics.specs.Theorems.Literals.{Assumes, RuledOut}
use Rattle.semantics.proofs.Theorems.Literals.{dec_ruled_out}
use Rattle.guess.specs.declared.outline.Outline.{Outline}
use Rattle.guess.specs.Programs.{unmasked_in, Outlines}
use Rattle.guess.specs.Numbered.{rules_of, masks_below}
use Rattle.lanes.specs.Lanes.{Lanes, lanes_is}
use Rattle.lanes.specs.Cube.{InCube}
use Rattle.lanes.specs.Planes.{Word}
use Rattle.ruling.specs.Literals.{InSome}
use Rattle.ruling.specs.Contradiction.{ClashAt, RuledOutIn}
use Rattle.ruling.specs.declared.assumed.Numbers.{Numbers}
use Rattle.ruling.specs.Assumed.{NumbersOf, AssumedIn}
use Rattle.ruling.specs.Free.{Free}
use Rattle.ruling.proofs.Sides.{Assumed, At, Sides, sides}
use Rattle.ruling.proofs.Stages.{sure-rules, at_last}
use Rattle.ruling.proofs.Assuming.{lane_assumes}

-- ---- the guesses: numbers without a member at or above the number of negations
guess_cube : (k g : ℕ) → g < 2 ^ 15 → InCube (full 15 ∖ full k) ∅ g ↔ (g < 2 ^ k)
guess_cube k g h = (
  λ c. (below_power k g).1 (λ a m. ⊎_elim (λ l. l) (λ n. absurd (c.apart (record {
    common = a;
    left = (∈-∖ a (full 15) (full k)).1 ((∈-full a 15).1 (∈_below h m), λ q. n ((∈-full a k).0 q));
    right = m;
  }))) (decided (dec_lt a k))),
  λ l. record {
    apart = λ m. ((∈-∖ m.common (full 15) (full k)).0 m.left).1 ((∈-full m.common k).1 (∈_below l m.right));
    within = ∅-⊆;
  },
)

-- ---- one atom
clash_side : {b u t f : ℕ} {H P Q : Type 0} → b ∈ u ↔ H → b ∈ t ↔ P → b ∈ f ↔ Q → (((b ∈ u) × (b ∈ t)) ⊎ ((b ∈ f) × (b ∈ u → ⊥))) ↔ ((H × P) ⊎ ((H → ⊥) × Q))
clash_side h p q = (
  ⊎_elim (λ w. inl (h.0 w.0, p.0 w.1)) (λ w. inr ((λ y. w.1 (h.1 y)), q.0 w.0)),
  ⊎_elim (λ w. inl (h.1 w.0, p.1 w.1)) (λ w. inr (q.1 w.1, λ y. w.0 (h.0 y))),
)

-- a mask and a set that a list of words says of lane b
meets_side : {b m y : ℕ} (l : List ℕ) → m < 2 ^ 16 → ((a : ℕ) → a < 16 → b ∈ get_or l a 0 ↔ a ∈ y) → InSome m l b ↔ Meets m y
meets_side {b} {m} {y} l small f = (
  λ p. record { common = p.0; left = p.1; right = (f p.0 (∈_below small p.1)).0 p.2 },
  λ p. (p.common, p.left, (f p.common (∈_below small p.left)).1 p.right),
)

module _ {x : Outline} {words : List ℕ} (o : Outlines x words) where
  -- the atoms under K or "not K", and under M or "not M"
  k-mentioned : (a : ℕ) → Decides (Mentioned (rules_of x words) K not_k a) (a ∈? x.k_atoms)
  k-mentioned a = subst (Decides (Mentioned (rules_of x words) K not_k a)) (mentioned_in (rules_in words x.rules) K not_k a ∙ ap (λ z. a ∈? z) (sym o.k-atoms)) (dec_mentioned (rules_of x words) K not_k a)

  m-mentioned : (a : ℕ) → Decides (Mentioned (rules_of x words) M not_m a) (a ∈? x.m_atoms)
  m-mentioned a = subst (Decides (Mentioned (rules_of x words) M not_m a)) (mentioned_in (rules_in words x.rules) M not_m a ∙ ap (λ z. a ∈? z) (sym o.m-atoms)) (dec_mentioned (rules_of x words) M not_m a)

  k_below : {a : ℕ} → a ∈ x.k_atoms → a < x.atoms
  k_below {a} m = ∈_below (k_atoms_below x.atoms (rules_in words x.rules) o.below) (subst (λ z. a ∈ z) o.k-atoms m)

  m_below : {a : ℕ} → a ∈ x.m_atoms → a < x.atoms
  m_below {a} m = ∈_below (m_atoms_below x.atoms (rules_in words x.rules) o.below) (subst (λ z. a ∈ z) o.m-atoms m)

  module _ {g b lanes : ℕ} {u p : List ℕ} (h : Assumed x words g b u p) (k : b < 64) (r : RuledOutIn x words u p lanes) where
    abbrev y : Pair
    y = pair_of (unmasked_in x words) g

    at : At x words g b y r.t r.f
    at = at_last o g b h k r.settled

    d : Sides x words g b y r.tests.truths r.tests.falsities
    d = sides x words g b o.few_atoms h at r.tests.laid_t r.tests.laid_f

    up : {a : ℕ} → a < x.atoms → a < 16
    up l = omega (arith, o.few_atoms)

    pub lane_out : b ∈ lanes ↔ RuledOut x.atoms (rules_of x words) x.ins x.outs g y
    lane_out =
        let w = r.tests.out.lane k in
        let e = sure-rules o g b d ∅ in
        let i = meets_side {y = y.F} r.f r.tests.ins_below (λ a l. at.in_f l) in
        let j = meets_side {y = y.T} r.t r.tests.outs_below (λ a l. at.in_t l) in (
          λ m. ⊎_elim (λ q. inl (e.0 q)) (⊎_elim (⊎_elim (λ q. inr (inl (i.0 q))) (λ q. inr (inr (inl (j.0 q)))))
              (⊎_elim (λ q. let l = k_below q.1 in inr (inr (inr (q.0, l, inl ((k-mentioned q.0).yes (is_true (dec_∈ q.0 x.k_atoms) q.1), (k_clash l).0 q.2)))))
              (λ q. let l = m_below q.1 in inr (inr (inr (q.0, l, inr ((m-mentioned q.0).yes (is_true (dec_∈ q.0 x.m_atoms) q.1), (m_clash l).0 q.2))))))) (w.0 m),
          λ m. w.1 (⊎_elim (λ q. inl (e.1 q)) (⊎_elim (λ q. inr (inl (inl (i.1 q)))) (⊎_elim (λ q. inr (inl (inr (j.1 q))))
              (λ q. ⊎_elim (λ v. inr (inr (inl (q.0, (dec_∈ q.0 x.k_atoms).yes (is_true (k-mentioned q.0) v.0), (k_clash q.1).1 v.1))))
              (λ v. inr (inr (inr (q.0, (dec_∈ q.0 x.m_atoms).yes (is_true (m-mentioned q.0) v.0), (m_clash q.1).1 v.1)))) q.2))) m),
        )
      where
        k_clash : {a : ℕ} → a < x.atoms → ClashAt u r.t r.f a b
            ↔ ((Assumes x.atoms (rules_of x words) g (not_known a) × (a ∈ y.T)) ⊎ ((Assumes x.atoms (rules_of x words) g (not_known a) → ⊥) × (a ∈ y.F)))
        k_clash l = clash_side (h.unknown l) (at.in_t (up l)) (at.in_f (up l))

        m_clash : {a : ℕ} → a < x.atoms → ClashAt p r.f r.t a b
            ↔ ((Assumes x.atoms (rules_of x words) g (may_be a) × (a ∈ y.F)) ⊎ ((Assumes x.atoms (rules_of x words) g (may_be a) → ⊥) × (a ∈ y.T)))
        m_clash l = clash_side (h.maybe l) (at.in_f (up l)) (at.in_t (up l))

  -- ---- the lanes of word w
  pub free_word : {numbers : Numbers} {u p : List ℕ} {w z guesses bad lanes : ℕ} → NumbersOf x x.atoms numbers → AssumedIn numbers.unknown w 16 u → AssumedIn numbers.maybe w 16 p → w < 64
      → z ≡ full 15 ∖ full x.negations → Lanes (λ b. InCube z ∅ (64 * w + b)) guesses → RuledOutIn x words u p bad → lanes ≡ guesses ∖ bad → Word (Free x words) w lanes
  free_word {w = w} {z} {guesses} {bad} s v m small e c r q =
      lanes_is q (record {
        lane = λ {b} l.
            let g = 64 * w + b in
            let f = guess_cube x.negations g (below b l) in
            let out = lane_out (lane_assumes o s v m l) l r in
            let d = dec_ruled_out x.atoms (rules_of x words) (masks_below o) g x.ins x.outs in (
              λ k. let (i, j) = (∈-∖ b guesses bad).0 k in
                  record { guess = f.0 (subst (λ a. InCube a ∅ g) e ((c.lane l).0 i)); holds = is_false d (λ n. j (out.1 n)) },
              λ k. (∈-∖ b guesses bad).1 ((c.lane l).1 (subst (λ a. InCube a ∅ g) (sym e) (f.1 k.guess)), λ n. d.no k.holds (out.0 n)),
            );
      })
    where
      below : (b : ℕ) → b < 64 → 64 * w + b < 2 ^ 15
      below b l = omega arith
