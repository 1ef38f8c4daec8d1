-- A set that is struck is stable for no guess. Assumes nothing.
use Prim.Native.Nat.{ℕ, ◌+◌, ◌*◌, ◌^◌, ◌<◌}
use mathlib.Core.Path.{◌≡◌, refl, sym, ap, ◌∙◌, subst}
use mathlib.Core.List.{List}
use mathlib.Core.Logic.{inl, inr, ⊎_elim}
use native.Mathlib.Omega.{arith}
use lib.ListN.{length, get_or}
use Rattle.sets.specs.Decides.{Decides, is_true, is_false, decided, dec_iff, dec_and, dec_not}
use Rattle.sets.specs.Lists.{◌among◌}
use Rattle.sets.specs.Sets.{◌∈◌, Meets, ◌∪◌, ◌∖◌, ∅, single}
use Rattle.sets.specs.Members.{dec_∈, dec_⊆, dec_meets, ∈-∅, ∈-∪, ∈-∖, ∈-single, ∪-⊆, ∪-∅}
use Rattle.semantics.specs.Definitions.Rules.{EpistemicRule}
use Rattle.semantics.specs.Definitions.Sheet.{rule_of_masks}
use Rattle.semantics.specs.Definitions.Setting.{Setting}
use Rattle.semantics.specs.Definitions.Day.{allowed}
use Rattle.semantics.specs.Words.{masks_in}
use Rattle.semantics.specs.AtSet.{StableBy}
use Rattle.semantics.proofs.Theorems.AtSet.{stable_gathered_under}
use Rattle.semantics.proofs.Theorems.Candidates.{failing_struck, unsupported_struck}
use Rattle.guess.specs.declared.outline.Outline.{Outline}
use Rattle.guess.specs.Programs.{unmasked_in, Outlines}
use Rattle.guess.specs.Numbered.{rules_of, rule_there, rule_number, masks_below}
use Rattle.lanes.specs.Lanes.{Lanes}
use Rattle.lanes.specs.Cube.{InCube}
use Rattle.gather.specs.declared.digest.Digest.{Digest}
use Rattle.gather.specs.Digests.{digest_of, digest_in, Digested}
use Rattle.gather.specs.Gathers.{at_set}
use Rattle.candidates.specs.Rules.{Fails, Supports, NoneFails, SupportsIn, Supported}
use Rattle.candidates.specs.Candidates.{Candidates}

-- a union is apart from i where both sets are
apart_∪ : (x y i : ℕ) → (Meets x i → ⊥) → (Meets y i → ⊥) → Meets (x ∪ y) i → ⊥
apart_∪ x y i f g m =
    ⊎_elim (λ h. f (record { common = m.common; left = h; right = m.right })) (λ h. g (record { common = m.common; left = h; right = m.right }))
    ((∈-∪ m.common x y).0 m.left)

apart_left : (x y i : ℕ) → (Meets (x ∪ y) i → ⊥) → Meets x i → ⊥
apart_left x y i f m = f (record { common = m.common; left = (∈-∪ m.common x y).1 (inl m.left); right = m.right })

apart_right : (x y i : ℕ) → (Meets (x ∪ y) i → ⊥) → Meets y i → ⊥
apart_right x y i f m = f (record { common = m.common; left = (∈-∪ m.common x y).1 (inr m.left); right = m.right })

-- a set that the day's masks allow
dec_allowed : (ins outs i : ℕ) → Decides (InCube outs ins i) (allowed ins outs i)
dec_allowed ins outs i = dec_iff (λ q. record { apart = q.1; within = q.0 }, λ c. (c.within, c.apart)) (dec_and (dec_⊆ ins i) (dec_not (dec_meets outs i)))

module _ {x : Outline} {words : List ℕ} {digests : List Digest} (o : Outlines x words) (d : Digested x words digests) (long : length digests ≡ x.rules) where
  abbrev s : Setting
  s = unmasked_in x words

  abbrev rs : List EpistemicRule
  rs = rules_of x words

  -- a rule among them, by its number
  number : {r : EpistemicRule} → r among rs → (j : ℕ) × (j < x.rules) × (digest_in digests j ≡ digest_of s r)
  number m = let (j, h, e) = rule_number x words m in (j, h, d.rule h ∙ ap (digest_of s) (sym e))

  module _ (i : ℕ) (fits : i < 2 ^ x.atoms) {g : ℕ} (t : StableBy (at_set x words i) i g) where
    -- no rule without K and M fails in a stable set
    none_fails : NoneFails digests (length digests) i
    none_fails = record { rule = λ j h f. let k : j < x.rules = omega (arith, long) in fails k (subst (λ z. Fails z i) (d.rule k) f) }
      where
        fails : {j : ℕ} → j < x.rules → Fails (digest_of s (rule_of_masks (masks_in words j))) i → ⊥
        fails {j} h f =
            let r = rule_of_masks (masks_in words j) in
            let q = r.objective in
            let (barred, asked) = ∪-∅ _ _ f.objective in
            let (plain, not_nots) = (∪-⊆ q.plain q.not_nots i).0 f.fails.within in
            failing_struck x.atoms rs i r (rule_there x words h) barred asked (plain, (apart_left q.nots q.head i f.fails.apart, not_nots)) (apart_right q.nots q.head i f.fails.apart) g t

    -- and each of its atoms has a rule that supports it
    all_supported : {w b : ℕ} {by : List ℕ} → i ≡ 64 * w + b → b < 64 → SupportsIn digests (length digests) w by → (n : ℕ) → Supported by n i b
    all_supported {w} {b} {by} e l u n = record {
      atom = λ a k m. ⊎_elim (λ h. h) (λ h. absurd (unsupported_struck x.atoms rs i (masks_below o) fits m (λ r c body plain head alone apart.
          let q = r.objective in
          let (j, here, is) = number c in
          h (u.rule (omega (arith, here, long)) l (subst (λ z. Supports (digest_in digests j) z a) e (subst (λ z. Supports z i a) (sym is) record {
            atom = (∈-∖ a q.head _).1 (head, apart);
            alone = record {
              apart = apart_∪ q.nots (q.head ∖ single a) i body.1.0 alone;
              within = (∪-⊆ _ (single a) i).1 ((∪-⊆ _ _ i).1 ((∪-⊆ q.plain q.not_nots i).1 (body.0, body.1.1), plain), record { into = λ {a = k} y. subst (λ z. z ∈ i) (sym ((∈-single k a).0 y)) m });
            };
          })))) g t)) (decided (dec_∈ b (get_or by a 0)));
    }

  -- ---- the lanes of a word
  module _ (w : ℕ) {allow : ℕ} (p : Lanes (λ b. InCube x.outs x.ins (64 * w + b)) allow) where
    -- what is left is allowed, and has each allowed set that some guess makes stable
    left : {r : ℕ} → ((b : ℕ) → b < 64 → b ∈ r → b ∈ allow)
        → ((b : ℕ) → b < 64 → 64 * w + b < 2 ^ x.atoms → b ∈ allow → (g : ℕ) → StableBy (at_set x words (64 * w + b)) (64 * w + b) g → b ∈ r) → Candidates x words w r
    left f h = record {
      pass = λ {b} l m. is_true (dec_allowed x.ins x.outs (64 * w + b)) ((p.lane l).0 (f b l m));
      others = λ {b} l k n g. is_false (stable_gathered_under x.atoms rs (masks_below o) g (64 * w + b) k x.ins x.outs)
          (λ q. n (h b l k ((p.lane l).1 ((dec_allowed x.ins x.outs (64 * w + b)).yes q.0)) g q.1));
    }

    pub none_allowed : allow ≡ 0 → Candidates x words w ∅
    none_allowed e = left (λ b l m. absurd (∈-∅ m)) (λ b l k m g t. subst (λ z. b ∈ z) e m)

    module _ {models : ℕ} (q : Lanes (λ b. (b ∈ allow) × NoneFails digests (length digests) (64 * w + b)) models) where
      pub none_models : models ≡ 0 → Candidates x words w ∅
      none_models e = left (λ b l m. absurd (∈-∅ m)) (λ b l k m g t. subst (λ z. b ∈ z) e ((q.lane l).1 (m, none_fails (64 * w + b) k t)))

      pub supported_left : {by : List ℕ} {r : ℕ} → SupportsIn digests (length digests) w by
          → Lanes (λ b. (b ∈ models) × Supported by x.atoms (64 * w + b) b) r → Candidates x words w r
      supported_left u v =
          left (λ b l m. ((q.lane l).0 ((v.lane l).0 m).0).0)
          (λ b l k m g t. (v.lane l).1 ((q.lane l).1 (m, none_fails (64 * w + b) k t), all_supported (64 * w + b) k t refl l u x.atoms))
