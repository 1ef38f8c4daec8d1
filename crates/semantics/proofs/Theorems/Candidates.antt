-- Sets of atoms that no guess makes stable, told by the rules one by one. Assumes nothing.
use Rattle.std.specs.Prelude.{ℕ, ◌^◌, ◌<◌, ◌≡◌, refl, List}
use Rattle.std.proofs.Common.{sym, subst, inl, ⊎_elim}
use Rattle.sets.specs.Decides.{decided}
use Rattle.sets.specs.Lists.{◌among◌, among_place}
use Rattle.sets.specs.Sets.{◌∈◌, ◌⊆◌, Meets, ◌∩◌, ◌∖◌, ∅, single}
use Rattle.sets.specs.Members.{dec_∈, ∈_below, ∈_ext, ∈-∅, ∈-∩, ∈-∪, ∈-∖, ∈-single}
use Rattle.semantics.specs.Definitions.Rules.{EpistemicRule, Subjective, K}
use Rattle.semantics.specs.Definitions.Guesses.{not_known, negations_of}
use Rattle.semantics.specs.Definitions.Setting.{Setting, setting_of}
use Rattle.semantics.specs.AtSet.{need, barred, asked, plain_on, gather_rule, gathered_rules, StableBy}
use Rattle.semantics.proofs.Theorems.Negations.{definition_3}
use Rattle.semantics.specs.Theorems.On.{Needs, Bars, Body}
use Rattle.semantics.proofs.Theorems.On.{∈-need, ∈-barred}
use Rattle.semantics.specs.Theorems.AtSet.{Gathers, Supports}
use Rattle.semantics.proofs.Theorems.AtSet.{among-gathered, gathered_head, struck, unsupported}

module _ (n : ℕ) (rs : List EpistemicRule) (i : ℕ) where
  abbrev s : Setting
  s = setting_of n rs

  -- a rule without K and M whose body holds in i strikes i where it has no head atom there
  pub failing_struck : (r : EpistemicRule) → r among rs → barred s r ≡ ∅ → asked s r ≡ ∅ → Body i r.objective → (Meets r.objective.head i → ⊥)
      → (g : ℕ) → StableBy (gathered_rules s rs i) i g → ⊥
  failing_struck r m x y b f g =
      struck (gathered_rules s rs i) (gather_rule s i r)
      ((among-gathered s i rs).1 (r, m, (b, λ w. ∈-∅ (subst (λ z. w.common ∈ z) x w.left)), refl))
      (none (r.objective.head ∩ i) (λ a h. let (u, v) = (∈-∩ a r.objective.head i).0 h in f (record { common = a; left = u; right = v }))) x
      (none (asked s r ∖ need s i) (λ a h. ∈-∅ (subst (λ z. a ∈ z) y ((∈-∖ a (asked s r) (need s i)).0 h).0))) i g
    where
      none : (z : ℕ) → ((a : ℕ) → a ∈ z → ⊥) → z ≡ ∅
      none z e = ∈_ext z ∅ (λ a. (λ h. absurd (e a h), λ h. absurd (∈-∅ h)))

  module _ (below : (r : EpistemicRule) → r among rs → (m : Subjective) → r.mask m < 2 ^ n) (fits : i < 2 ^ n) where
    -- the plain atoms of a gathered rule are in i: where a is not, i needs "not K a", which bars a rule with K a
    pub gathered_plain : (r : EpistemicRule) → r among rs → Gathers s i r → plain_on r ⊆ i
    gathered_plain r m q = record {
      into = λ {a} h. ⊎_elim (λ x. q.0.0.into x) (known a) ((∈-∪ a r.objective.plain (r.mask K)).0 h);
    }
      where
        known : (a : ℕ) → a ∈ r.mask K → a ∈ i
        known a h =
            let (j, l, z) = among_place {x = not_known a} (negations_of n rs) (not_known 0) ((definition_3 rs n).1 (∈_below (below r m K) h, (r, m, inl h))) in
            ⊎_elim (λ x. x) (λ x. absurd (q.1 (record {
              common = j;
              left = (∈-barred s r).1 (l, subst (Bars r) (sym z) h);
              right = (∈-need s i fits j l).1 (subst (Needs i) (sym z) x);
            }))) (decided (dec_∈ a i))

    -- an atom of i strikes i where no rule supports it: with its body in i but for K and M, with it as the only head atom in i, and not among its plain atoms
    pub unsupported_struck : {a : ℕ} → a ∈ i
        → ((r : EpistemicRule) → r among rs → Body i r.objective → plain_on r ⊆ i → a ∈ r.objective.head → (Meets (r.objective.head ∖ single a) i → ⊥) → (a ∈ plain_on r → ⊥) → ⊥)
        → (g : ℕ) → StableBy (gathered_rules s rs i) i g → ⊥
    unsupported_struck {a} h none =
        unsupported (gathered_rules s rs i) i a (gathered_head s i rs) h (λ e m q.
        let (r, l, b, z) = (among-gathered s i rs).0 m in
        let (only, apart) = subst (λ x. Supports x a) z q in
        none r l b.0 (gathered_plain r l b)
        ((∈-∩ a r.objective.head i).0 (subst (λ x. a ∈ x) (sym only) ((∈-single a a).1 refl))).0
        (λ w. let (x, y) = (∈-∖ w.common r.objective.head (single a)).0 w.left in
        y (subst (λ x. w.common ∈ x) only ((∈-∩ w.common r.objective.head i).1 (x, w.right)))) apart)
