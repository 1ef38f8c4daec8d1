-- Atoms that a rule supports in i. Where an atom of i has no rule that is on and supports it, i without that atom passes the rules that are on.
-- Assumes nothing.
use Rattle.std.specs.Prelude.{ℕ, ◌+◌, ◌-◌, ◌<◌, ◌≡◌, refl, List, ◌↔◌, length, get_or, set}
use Rattle.std.proofs.Common.{sym, ap, ◌∙◌, subst, inl, inr, ⊎_elim, arith, not-suc-le-zero, get_or-set_same, get_or-set_other}
use Rattle.sets.specs.Decides.{decided, dec_eq}
use Rattle.sets.specs.Sets.{◌∈◌, ◌⊆◌, ◌∩◌, ◌∪◌, ◌∖◌, ∅, single}
use Rattle.sets.specs.Members.{dec_∈, ∈-∅, ∈-∩, ∈-∪, ∈-∖, ∈-single, ∈_ext}
use Rattle.sets.specs.Least.{First}
use Rattle.lanes.specs.declared.rule.Rule.{Rule}
use Rattle.lanes.specs.Rules.{rule_at}
use Rattle.lanes.specs.Smaller.{Passes}

-- the rule supports a in i: it has no other head atom in i, and a is not among its plain atoms
pub record Supports (e : Rule) (i a : ℕ) : Type 0 where
  pub lone : {c : ℕ} → c ∈ e.head → c ∈ i → c ≡ a
  pub outside : a ∈ e.plain → ⊥

module _ (e : Rule) (i : ℕ) where
  abbrev head_of : ℕ
  head_of = e.head ∩ i

  -- with no head atom in i, it supports every atom of i but its plain ones
  pub supports_all : head_of ≡ ∅ → (a : ℕ) → a ∈ i → Supports e i a → a ∈ i ∖ e.plain
  supports_all z a m s = (∈-∖ a i e.plain).1 (m, s.outside)

  -- a head atom in i is the only atom that it may support
  pub supports_one : {c : ℕ} → c ∈ head_of → (a : ℕ) → Supports e i a → a ∈ head_of ∖ e.plain
  supports_one {c} m a s =
      let (h, k) = (∈-∩ c e.head i).0 m in
      (∈-∖ a head_of e.plain).1 (subst (λ z. z ∈ head_of) (s.lone h k) m, s.outside)

  -- and then that is its only one
  pub supports_lone : {c : ℕ} → c ∈ head_of → (a : ℕ) → Supports e i a → head_of ≡ single c
  supports_lone {c} m a s =
      let same : (d : ℕ) → d ∈ head_of → d ≡ a = λ d k. let (h, n) = (∈-∩ d e.head i).0 k in s.lone h n in
      ∈_ext head_of (single c) (λ d. (λ k. (∈-single d c).1 (same d k ∙ sym (same c m)), λ k. subst (λ z. z ∈ head_of) (sym ((∈-single d c).0 k)) m))

-- the lanes are added to the words of these atoms
pub record Added (atoms lanes : ℕ) (by by' : List ℕ) : Type 0 where
  pub taken : {a : ℕ} → a ∈ atoms → get_or by' a 0 ≡ get_or by a 0 ∪ lanes
  pub kept : {a : ℕ} → (a ∈ atoms → ⊥) → get_or by' a 0 ≡ get_or by a 0

module _ (atoms lanes : ℕ) (by : List ℕ) where
  -- all of them but the rest
  pub added_first : Added (atoms ∖ atoms) lanes by by
  added_first = record { taken = λ {a} m. absurd (((∈-∖ a atoms atoms).0 m).1 ((∈-∖ a atoms atoms).0 m).0); kept = λ _. refl }

  pub added_next : {rest a : ℕ} {after : List ℕ} → First rest a → a < length after → rest ⊆ atoms → Added (atoms ∖ rest) lanes by after
      → Added (atoms ∖ (rest ∩ (rest - 1))) lanes by (set after a (get_or after a 0 ∪ lanes))
  added_next {rest} {a} {after} f h w s =
      let others : (k : ℕ) → k ∈ rest ∩ (rest - 1) ↔ ((k ∈ rest) × (k ∈ single a → ⊥)) = λ k. rw f.others (∈-∖ k rest (single a)) in record {
        taken = λ {a = k} m.
            let (p, n) = (∈-∖ k atoms (rest ∩ (rest - 1))).0 m in
            ⊎_elim (λ e. rw e (get_or-set_same after a _ 0 h ∙ ap (λ z. z ∪ lanes) (s.kept (λ q. ((∈-∖ a atoms rest).0 q).1 f.is_in))))
            (λ e. get_or-set_other after a k _ 0 e ∙ s.taken ((∈-∖ k atoms rest).1 (p, λ q. n ((others k).1 (q, λ y. e ((∈-single k a).0 y))))))
            (decided (dec_eq k a));
        kept = λ {a = k} m.
            let e : k ≡ a → ⊥ = λ q. m (subst (λ z. z ∈ atoms ∖ (rest ∩ (rest - 1))) (sym q)
            ((∈-∖ a atoms (rest ∩ (rest - 1))).1 (w.into f.is_in, λ u. ((others a).0 u).1 ((∈-single a a).1 refl)))) in
            get_or-set_other after a k _ 0 e
            ∙ s.kept (λ q. let (p, n) = (∈-∖ k atoms rest).0 q in m ((∈-∖ k atoms (rest ∩ (rest - 1))).1 (p, λ u. n ((others k).0 u).0)));
      }

  pub added_last : {rest : ℕ} {after : List ℕ} → rest ≡ 0 → Added (atoms ∖ rest) lanes by after → Added atoms lanes by after
  added_last {rest} e s = record {
    taken = λ {a} m. s.taken ((∈-∖ a atoms rest).1 (m, λ q. ∈-∅ (subst (λ z. a ∈ z) e q)));
    kept = λ {a} n. s.kept (λ q. n ((∈-∖ a atoms rest).0 q).0);
  }

module _ (rules : List Rule) (on : List ℕ) (i : ℕ) where
  -- at each atom of i, among the lanes of `by` are those in which one of the first n rules is on and supports it
  pub record SupportedBy (n : ℕ) (by : List ℕ) : Type 0 where
    pub lane : {r a b : ℕ} → r < n → a ∈ i → Supports (rule_at rules r) i a → b ∈ get_or on r 0 → b ∈ get_or by a 0

  pub by_none : (by : List ℕ) → SupportedBy 0 by
  by_none by = record { lane = λ k. absurd (not-suc-le-zero k) }

  -- one rule more, with the atoms that it supports among these
  pub by_more : {n atoms : ℕ} {by by' : List ℕ} → SupportedBy n by → ((a : ℕ) → a ∈ i → Supports (rule_at rules n) i a → a ∈ atoms)
      → Added atoms (get_or on n 0) by by' → SupportedBy (n + 1) by'
  by_more {n} {atoms} {by} {by'} s f d = record {
    lane = λ {r} {a} {b} k m t o.
        ⊎_elim (λ e.
        let there = f a m (subst (λ z. Supports (rule_at rules z) i a) e t) in
        subst (λ z. b ∈ z) (sym (d.taken there)) ((∈-∪ b (get_or by a 0) (get_or on n 0)).1 (inr (subst (λ z. b ∈ get_or on z 0) e o))))
        (λ e.
        let old = s.lane (omega arith) m t o in
        ⊎_elim (λ q. subst (λ z. b ∈ z) (sym (d.taken q)) ((∈-∪ b (get_or by a 0) (get_or on n 0)).1 (inl old)))
        (λ q. subst (λ z. b ∈ z) (sym (d.kept q)) old) (decided (dec_∈ a atoms)))
        (decided (dec_eq r n));
  }

  -- one that is on in no lane
  pub by_off : {n : ℕ} {by : List ℕ} → SupportedBy n by → get_or on n 0 ≡ ∅ → SupportedBy (n + 1) by
  by_off {n} s e = record {
    lane = λ {r} {a} {b} k m t o.
        ⊎_elim (λ q. absurd (∈-∅ (subst (λ z. b ∈ z) e (subst (λ z. b ∈ get_or on z 0) q o)))) (λ q. s.lane (omega arith) m t o) (decided (dec_eq r n));
  }

  -- in lane b no rule that is on supports a
  pub record Unsupported (n a b : ℕ) : Type 0 where
    pub rule : (r : ℕ) → r < n → b ∈ get_or on r 0 → Supports (rule_at rules r) i a → ⊥

  -- of these lanes x is left; in the others an atom of i is not supported
  pub record Kept (n lanes x : ℕ) : Type 0 where
    pub within : {b : ℕ} → b ∈ x → b ∈ lanes
    pub struck : {b : ℕ} → b ∈ lanes → (b ∈ x → ⊥) → (a : ℕ) × (a ∈ i) × Unsupported n a b

  pub kept_all : (n lanes : ℕ) → Kept n lanes lanes
  kept_all n lanes = record { within = λ m. m; struck = λ m f. absurd (f m) }

  -- one atom more
  pub kept_more : {n lanes x a : ℕ} {by : List ℕ} → SupportedBy n by → a ∈ i → Kept n lanes x → Kept n lanes (x ∩ get_or by a 0)
  kept_more {x = x} {a} {by} s m k = record {
    within = λ {b} h. k.within ((∈-∩ b x (get_or by a 0)).0 h).0;
    struck = λ {b} h f.
        ⊎_elim (λ q. (a, m, record { rule = λ r l o t. f ((∈-∩ b x (get_or by a 0)).1 (q, s.lane l m t o)) }))
        (λ q. k.struck h q) (decided (dec_∈ b x));
  }

-- ---- without an atom that is not supported
module _ {rules : List Rule} {on : List ℕ} {n i a b : ℕ} where
  pub less_passes : Unsupported rules on i n a b → Passes rules on n b (i ∖ single a)
  less_passes u = record {
    rule = λ r l o f. u.rule r l o (record {
      lone = λ {c} m k.
          ⊎_elim (λ e. e)
          (λ e. absurd (f.head (record { common = c; left = m; right = (∈-∖ c i (single a)).1 (k, λ y. e ((∈-single c a).0 y)) })))
          (decided (dec_eq c a));
      outside = λ m. ((∈-∖ a i (single a)).0 (f.body.into m)).1 ((∈-single a a).1 refl);
    });
  }
