-- What is gathered of the rules at a set of atoms says for every guess whether the set is stable. Assumes nothing.
use Rattle.std.specs.Prelude.{ℕ, ◌^◌, ◌<◌, ◌≡◌, Bool, not, ◌↔◌}
use Rattle.std.proofs.Math.Path.{refl, ap}
use Rattle.std.proofs.Common.{sym, ◌∙◌, subst, inl, inr, ⊎_elim, arith}
use Rattle.std.proofs.Math.Bool.{true, false}
use mathlib.Core.List.{List, [], ◌∷◌, ◌++◌, map, map-append}
use Rattle.sets.specs.Decides.{Decides, is_true, is_false, decided, dec_eq, dec_self, dec_one, dec_iff, dec_not, dec_and}
use Rattle.sets.specs.Lists.{◌among◌, only, keep, keep_snoc, among-keep, among-map, get_or-among}
use Rattle.sets.specs.Sets.{◌∈◌, ◌⊆◌, Meets, ◌∈?◌, ◌∩◌, ◌∪◌, ◌∖◌, ∅, full, single, set_of}
use Rattle.sets.specs.Members.{dec_∈, dec_⊆, dec_meets, ∈-∩, ∈-∪, ∪-⊆, ∈-∖, ∖-⊂, ∩-⊆, ∈-single, some-member, ∈_ext, ∈-∅, ∅-⊆, ∈-full, set_of-same}
use Rattle.semantics.specs.Definitions.Rules.{EpistemicRule, Subjective, K, not_k, M, not_m}
use Rattle.semantics.specs.Definitions.Guesses.{Negation, not_known, may_be}
use Rattle.semantics.specs.Definitions.Setting.{Setting, setting_of, k, negation}
use Rattle.semantics.specs.Definitions.Stable.{stable}
use Rattle.semantics.specs.Definitions.Verdict.{found_has}
use Rattle.semantics.specs.Definitions.Day.{under, allowed}
use Rattle.semantics.specs.AtSet.{need, bars, asks, barred, asked, GatheredRule, gathers, gather_rule, gathered_rules, SwitchedOn, StableBy}
use Rattle.semantics.specs.Theorems.Negations.{atom_of}
use Rattle.semantics.proofs.Theorems.Negations.{definition_3}
use Rattle.semantics.specs.Theorems.Stable.{Stable}
use Rattle.semantics.proofs.Theorems.Stable.{dec_stable}
use Rattle.semantics.proofs.Theorems.Day.{stable-under}
use Rattle.semantics.specs.Theorems.On.{On, OnModel}
use Rattle.semantics.proofs.Theorems.On.{stable-on}
use Rattle.semantics.specs.Theorems.AtSet.{Gathers, Supports}

-- ---- the rules that are gathered
module _ (s : Setting) (i : ℕ) where
  pub dec_gathers : (r : EpistemicRule) → Decides (Gathers s i r) (gathers s i r)
  dec_gathers r =
      let o = r.objective in
      let both = ∪-⊆ o.plain o.not_nots i in
      dec_iff (
        λ q. let ((u, m), f) = q in let (x, z) = both.0 u in ((x, (m, z)), f),
        λ q. let ((x, (m, z)), f) = q in ((both.1 (x, z), m), f),
      ) (dec_and (dec_and (dec_⊆ (o.plain ∪ o.not_nots) i) (dec_not (dec_meets o.nots i))) (dec_not (dec_meets (barred s r) (need s i))))

  -- a rule on is one that is gathered, and that the guess switches on
  pub on_switched : (r : EpistemicRule) (g : ℕ) → On s r g i ↔ (Gathers s i r × SwitchedOn (gather_rule s i r) g)
  on_switched r g = (
    λ o. (
      (o.body, λ w. o.apart (record { common = w.common; left = w.left; right = (∈-∪ w.common g (need s i)).1 (inr w.right) })),
      record {
        apart = λ w. o.apart (record { common = w.common; left = w.left; right = (∈-∪ w.common g (need s i)).1 (inl w.right) });
        within = record { into = λ {a} m. let (q, x) = (∈-∖ a (asked s r) (need s i)).0 m in ⊎_elim (λ h. h) (λ h. absurd (x h)) ((∈-∪ a g (need s i)).0 (o.inside.into q)) };
      },
    ),
    λ p. let ((b, f), w) = p in record {
      body = b;
      apart = λ x. ⊎_elim (λ h. w.apart (record { common = x.common; left = x.left; right = h })) (λ h. f (record { common = x.common; left = x.left; right = h })) ((∈-∪ x.common g (need s i)).0 x.right);
      inside = record { into = λ {a} m. (∈-∪ a g (need s i)).1 (⊎_elim inr (λ h. inl (w.within.into ((∈-∖ a (asked s r) (need s i)).1 (m, h)))) (decided (dec_∈ a (need s i)))) };
    },
  )

  pub gathered_none : gathered_rules s [] i ≡ []
  unfolding gathered_rules keep
  gathered_none = refl

  module _ (rs : List EpistemicRule) where
    pub among-gathered : {e : GatheredRule} → e among gathered_rules s rs i ↔ ((r : EpistemicRule) × (r among rs) × Gathers s i r × (e ≡ gather_rule s i r))
    unfolding gathered_rules
    among-gathered = (
      λ m. let (r, h, e) = (among-map (gather_rule s i) (keep (gathers s i) rs)).0 m in
          let (l, t) = (among-keep (gathers s i) rs).0 h in (r, l, (dec_gathers r).yes t, e),
      λ p. let (r, l, q, e) = p in (among-map (gather_rule s i) (keep (gathers s i) rs)).1 (r, (among-keep (gathers s i) rs).1 (l, is_true (dec_gathers r) q), e),
    )

    -- their heads are cut to i
    pub gathered_head : (e : GatheredRule) → e among gathered_rules s rs i → e.head ⊆ i
    gathered_head e m = let (r, l, q, z) = among-gathered.0 m in subst (λ x. x.head ⊆ i) (sym z) (∩-⊆ r.objective.head i)

    -- with one rule more
    pub gathered-more : (r : EpistemicRule) → gathered_rules s (rs ++ r ∷ []) i ≡ gathered_rules s rs i ++ only (gathers s i r) (gather_rule s i r)
    unfolding gathered_rules
    gathered-more r =
        ap (map (gather_rule s i)) (keep_snoc (gathers s i) rs r)
        ∙ map-append (gather_rule s i) (keep (gathers s i) rs) (only (gathers s i r) r)
        ∙ ap (◌++◌ (gathered_rules s rs i)) (one (gathers s i r))
      where
        one : (b : Bool) → map (gather_rule s i) (only b r) ≡ only b (gather_rule s i r)
        one true = refl
        one false = refl

    -- what holds of each of them
    each : (P : GatheredRule → Type 0) → ((e : GatheredRule) → e among gathered_rules s rs i → P e) ↔ ((r : EpistemicRule) → r among rs → Gathers s i r → P (gather_rule s i r))
    each P = (
      λ f r l q. f (gather_rule s i r) (among-gathered.1 (r, l, q, refl)),
      λ f e m. let (r, l, q, z) = among-gathered.0 m in subst P (sym z) (f r l q),
    )

    -- every rule on has a head atom in i
    models : (g : ℕ) → ((r : EpistemicRule) → r among rs → On s r g i → Meets r.objective.head i) ↔ ((e : GatheredRule) → e among gathered_rules s rs i → e.head ≡ ∅ → SwitchedOn e g → ⊥)
    models g =
        let x = each (λ e. e.head ≡ ∅ → SwitchedOn e g → ⊥) in (
          λ f. x.1 (λ r l q z w. let t = f r l ((on_switched r g).1 (q, w)) in ∈-∅ (subst (λ y. t.common ∈ y) z ((∈-∩ t.common r.objective.head i).1 (t.left, t.right)))),
          λ f r l o. let (q, w) = (on_switched r g).0 o in
              ⊎_elim (λ t. t) (λ n. absurd (x.0 f r l q (none r.objective.head n) w)) (decided (dec_meets r.objective.head i)),
        )
      where
        none : (h : ℕ) → (Meets h i → ⊥) → h ∩ i ≡ ∅
        none h n = ∈_ext (h ∩ i) ∅ (λ a. (λ m. let (u, v) = (∈-∩ a h i).0 m in absurd (n (record { common = a; left = u; right = v })), λ m. absurd (∈-∅ m)))

    -- a subset of i is a model of the rules on
    smaller : (g : ℕ) {j : ℕ} → j ⊆ i → OnModel s rs g i j ↔ ((e : GatheredRule) → e among gathered_rules s rs i → SwitchedOn e g → e.plain ⊆ j → Meets e.head j)
    smaller g {j} within =
        let x = each (λ e. SwitchedOn e g → e.plain ⊆ j → Meets e.head j) in (
          λ f. x.1 (λ r l q w p. let t = f r l ((on_switched r g).1 (q, w)) p in
              record { common = t.common; left = (∈-∩ t.common r.objective.head i).1 (t.left, within.into t.right); right = t.right }),
          λ f r l o p. let (q, w) = (on_switched r g).0 o in let t = x.0 f r l q w p in
              record { common = t.common; left = ((∈-∩ t.common r.objective.head i).0 t.left).0; right = t.right },
        )

-- ---- the negations of a rule, as a guess is found
-- a is in x where it is not in the rest of the atoms
not_in_rest : (n a x : ℕ) → a < n → a ∈? x ≡ not (a ∈? full n ∖ x)
not_in_rest n a x l =
    dec_one (dec_∈ a x)
    (dec_iff (
      λ f. ⊎_elim (λ h. h) (λ h. absurd (f ((∈-∖ a (full n) x).1 ((∈-full a n).1 l, h)))) (decided (dec_∈ a x)),
      λ h t. ((∈-∖ a (full n) x).0 t).1 h,
    ) (dec_not (dec_∈ a (full n ∖ x))))

module _ (n : ℕ) (rs : List EpistemicRule) where
  abbrev s : Setting
  s = setting_of n rs

  -- negation j is on an atom below n
  atom_below : (j : ℕ) → j < k s → atom_of (negation s j) < n
  atom_below j l = ((definition_3 rs n).0 (get_or-among s.negations (not_known 0) j l)).0

  pub barred-found : (r : EpistemicRule) → barred s r ≡ set_of (λ j. found_has (full n ∖ r.mask K) (r.mask not_m) (negation s j)) (k s)
  barred-found r = set_of-same _ _ (k s) (λ j l. same (negation s j) (atom_below j l))
    where
      same : (e : Negation) → atom_of e < n → bars r e ≡ found_has (full n ∖ r.mask K) (r.mask not_m) e
      same (not_known a) l = not_in_rest n a (r.mask K) l
      same (may_be a) l = refl

  pub asked-found : (r : EpistemicRule) → asked s r ≡ set_of (λ j. found_has (full n ∖ r.mask not_k) (r.mask M) (negation s j)) (k s)
  asked-found r = set_of-same _ _ (k s) (λ j l. same (negation s j) (atom_below j l))
    where
      same : (e : Negation) → atom_of e < n → asks r e ≡ found_has (full n ∖ r.mask not_k) (r.mask M) e
      same (not_known a) l = not_in_rest n a (r.mask not_k) l
      same (may_be a) l = refl

  -- ---- stability by the gathered rules
  module _ (below : (r : EpistemicRule) → r among rs → (m : Subjective) → r.mask m < 2 ^ n) (g i : ℕ) (fits : i < 2 ^ n) where
    pub stable-gathered : Stable (s.program g) i ↔ StableBy (gathered_rules s rs i) i g
    stable-gathered =
        let x = stable-on n rs below g i fits in (
          λ t. let (f, h) = x.0 t in record {
            model = (models s i rs g).0 f;
            minimal = λ j l m. h j l ((smaller s i rs g l.within).1 m);
          },
          λ t. x.1 ((models s i rs g).1 t.model, λ j l m. t.minimal j l ((smaller s i rs g l.within).0 m)),
        )

    pub dec_stable_gathered : Decides (StableBy (gathered_rules s rs i) i g) (stable (s.program g) i)
    dec_stable_gathered = dec_iff stable-gathered (dec_stable (s.program g) i)

    -- under the day's masks
    module _ (ins outs : ℕ) where
      pub stable_gathered_under : Decides ((allowed ins outs i ≡ true) × StableBy (gathered_rules s rs i) i g) (stable ((under ins outs s).program g) i)
      stable_gathered_under = rw (stable-under ins outs (s.program g) i) (dec_and (dec_self (allowed ins outs i)) dec_stable_gathered)

      -- a set that they do not allow, and one that they do
      pub disallowed_unstable : allowed ins outs i ≡ false → stable ((under ins outs s).program g) i ≡ false
      disallowed_unstable e = is_false stable_gathered_under (λ q. (dec_self (allowed ins outs i)).no e q.0)

      pub allowed-gathered : allowed ins outs i ≡ true → Decides (StableBy (gathered_rules s rs i) i g) (stable ((under ins outs s).program g) i)
      allowed-gathered e = dec_iff (λ q. q.1, λ t. (e, t)) stable_gathered_under

-- a gathered rule that every guess switches on, and that fails at i, strikes i for every guess
pub struck : (es : List GatheredRule) (e : GatheredRule) → e among es → e.head ≡ ∅ → e.misses ≡ ∅ → e.holds ≡ ∅ → (i g : ℕ) → StableBy es i g → ⊥
struck es e m z x y i g t = t.model e m z (record {
  apart = λ w. ∈-∅ (subst (λ u. w.common ∈ u) x w.left);
  within = subst (λ u. u ⊆ g) (sym y) ∅-⊆;
})

-- a set with an atom that no gathered rule supports is stable for no guess: it is a model without that atom
pub unsupported : (es : List GatheredRule) (i a : ℕ) → ((e : GatheredRule) → e among es → e.head ⊆ i) → a ∈ i → ((e : GatheredRule) → e among es → Supports e a → ⊥)
    → (g : ℕ) → StableBy es i g → ⊥
unsupported es i a inside h none g t =
    t.minimal (i ∖ single a) (∖-⊂ h)
    (λ e m o b. ⊎_elim (λ w. w) (λ w. absurd (none e m (alone e m o w, λ k. ((∈-∖ a i (single a)).0 (b.into k)).1 ((∈-single a a).1 refl)))) (decided (dec_meets e.head (i ∖ single a))))
  where
    alone : (e : GatheredRule) → e among es → SwitchedOn e g → (Meets e.head (i ∖ single a) → ⊥) → e.head ≡ single a
    alone e m o w =
        let only : (b : ℕ) → b ∈ e.head → b ≡ a = λ b k.
        ⊎_elim (λ q. q) (λ q. absurd (w (record { common = b; left = k; right = (∈-∖ b i (single a)).1 ((inside e m).into k, λ y. q ((∈-single b a).0 y)) }))) (decided (dec_eq b a)) in
        ⊎_elim (λ z. absurd (t.model e m z o)) (λ z.
        let (b, k) = some-member e.head (omega arith) in
        ∈_ext e.head (single a) (λ c. (
          λ y. (∈-single c a).1 (only c y),
          λ y. subst (λ q. q ∈ e.head) (only b k ∙ sym ((∈-single c a).0 y)) k,
        ))) (decided (dec_eq e.head ∅))
