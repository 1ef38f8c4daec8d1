-- One pass over the rules, for all lanes: what enters T and F. Assumes nothing.
use Rattle.std.specs.Prelude.{ℕ, ◌+◌, ◌-◌, ◌<◌, ◌≡◌, refl, Option, None, Some, List, ◌↔◌, ◌⊎◌, length, get_or, set}
use Rattle.std.proofs.Common.{sym, ap, subst, ◌∙◌, inl, inr, ⊎_elim, arith, not-suc-le-zero}
use Rattle.std.proofs.lemmas.Option.{none-some, same_Some}
use Rattle.sets.specs.Decides.{decided, dec_eq}
use Rattle.sets.specs.Sets.{◌∈◌, ◌⊆◌, ◌∩◌, ◌∪◌, single}
use Rattle.sets.specs.Members.{∈-∅, ∈-single, ⊆_refl, ⊆_trans, ∩_⊆_left}
use Rattle.sets.specs.Least.{First, first-single}
use Rattle.lanes.specs.Lanes.{Lanes, lanes_self, lanes_is, lanes_iff, lanes_and, lanes_or}
use Rattle.ruling.specs.Literals.{in_every, every_lane, first_out, left_in, others_left, head_in, SureIn, DeadIn}
use Rattle.ruling.specs.Laid.{set_word}
use Rattle.ruling.specs.declared.literals.Rows.{Rows}

-- ---- the only atom of a head
pub record Lone (head : ℕ) (r : Option ℕ) : Type 0 where
  pub index : {i : ℕ} → r ≡ Some i → i < 16
  pub is : {a : ℕ} → a < 16 → (r ≡ Some a) ↔ (head ≡ single a)

pub lone_none : {head : ℕ} → head ≡ 0 → Lone head None
lone_none e = record {
  index = λ {i} q. absurd (none-some i q);
  is = λ {a} l. (λ q. absurd (none-some a q), λ q. absurd (∈-∅ (subst (λ z. a ∈ z) (sym q ∙ e) ((∈-single a a).1 refl))));
}

pub lone_one : {head a : ℕ} → a < 16 → First head a → single a ≡ head → Lone head (Some a)
lone_one {a = a} h f e = record {
  index = λ {i} q. subst (λ z. z < 16) (same_Some a i q) h;
  is = λ {a = c} l. (λ q. sym e ∙ ap single (same_Some a c q), λ q. ap Some (first-single f q));
}

pub lone_more : {head a : ℕ} → First head a → (single a ≡ head → ⊥) → Lone head None
lone_more f n = record {
  index = λ {i} q. absurd (none-some i q);
  is = λ {a = c} l. (λ q. absurd (none-some c q), λ q. absurd (n (ap single (first-single f q) ∙ sym q)));
}

-- ---- at each atom of the head, the rest aside, only these lanes are left
pub record Narrowed (head rest lanes : ℕ) (old new : List ℕ) : Type 0 where
  pub within : rest ⊆ head
  pub word : {a : ℕ} → a < 16 → Lanes (λ b. (b ∈ get_or old a 0) × (a ∈ head → (a ∈ rest → ⊥) → b ∈ lanes)) (get_or new a 0)

pub narrow_none : {head lanes : ℕ} {old : List ℕ} → Narrowed head head lanes old old
narrow_none = record { within = ⊆_refl; word = λ l. lanes_iff (λ b k. (λ m. (m, λ h n. absurd (n h)), λ p. p.0)) lanes_self }

pub narrow_more : {head rest lanes a : ℕ} {old new : List ℕ} → a < length new → First rest a → Narrowed head rest lanes old new
    → Narrowed head (rest ∩ (rest - 1)) lanes old (set new a (get_or new a 0 ∩ lanes))
narrow_more {head} {rest} {lanes} {a} {old} {new} h f n = record {
  within = ⊆_trans (∩_⊆_left rest (rest - 1)) n.within;
  word = λ {a = c} l.
      set_word new a (get_or new a 0 ∩ lanes) c (Lanes (λ b. (b ∈ get_or old c 0) × (c ∈ head → (c ∈ rest ∩ (rest - 1) → ⊥) → b ∈ lanes))) h
      (λ e. lanes_is (ap (λ z. get_or new z 0 ∩ lanes) (sym e)) (lanes_iff (λ b k. (
        λ p. (p.0.0, λ _ _. p.1),
        λ p. ((p.0, λ y z. p.1 y (λ q. z (left_in f q))), p.1 (n.within.into (subst (λ z. z ∈ rest) (sym e) f.is_in)) (λ q. first_out f (subst (λ z. z ∈ rest ∩ (rest - 1)) e q))),
      )) (lanes_and (n.word l) lanes_self)))
      (λ e. lanes_iff (λ b k. (λ p. (p.0, λ y z. p.1 y (λ q. z (others_left f e q))), λ p. (p.0, λ y z. p.1 y (λ q. z (left_in f q))))) (n.word l));
}

-- ---- rule after rule
module _ (words : List ℕ) (truths falsities : Rows) where
  -- one of the first j rules has a as its only head atom, and is sure
  abbrev pub TrueBy : (j a b : ℕ) → Type 0
  TrueBy j a b = (i : ℕ) × (i < j) × (head_in words i ≡ single a) × SureIn words i truths falsities b

  -- those of the first j rules that have a in the head are dead
  abbrev pub FalseBy : (j a b : ℕ) → Type 0
  FalseBy j a b = (i : ℕ) → i < j → a ∈ head_in words i → DeadIn words i truths falsities b

  pub record Followed (j : ℕ) (t shut t' shut' : List ℕ) : Type 0 where
    pub trues : {a : ℕ} → a < 16 → Lanes (λ b. (b ∈ get_or t a 0) ⊎ TrueBy j a b) (get_or t' a 0)
    pub falses : {a : ℕ} → a < 16 → Lanes (λ b. (b ∈ get_or shut a 0) × FalseBy j a b) (get_or shut' a 0)

  pub follow_none : {t shut : List ℕ} → Followed 0 t shut t shut
  follow_none = record {
    trues = λ l. lanes_iff (λ b k. (inl, ⊎_elim (λ m. m) (λ p. absurd (not-suc-le-zero p.1)))) lanes_self;
    falses = λ l. lanes_iff (λ b k. (λ m. (m, λ i q. absurd (not-suc-le-zero q)), λ p. p.0)) lanes_self;
  }

  -- t, once rule j has added to it
  abbrev pub TruesTo : (j : ℕ) (t t' : List ℕ) → Type 0
  TruesTo j t t' = (a : ℕ) → a < 16 → Lanes (λ b. (b ∈ get_or t a 0) ⊎ TrueBy j a b) (get_or t' a 0)

  module _ {j : ℕ} {r : Option ℕ} {t shut t' shut' : List ℕ} (one : Lone (head_in words j) r) (f : Followed j t shut t' shut') where
    wider : (a b : ℕ) → TrueBy j a b → TrueBy (j + 1) a b
    wider a b p = (p.0, omega (arith, p.1), p.2, p.3)

    pub true_more : {i s : ℕ} → i < length t' → r ≡ Some i → Lanes (SureIn words j truths falsities) s → TruesTo (j + 1) t (set t' i (get_or t' i 0 ∪ s))
    true_more {i} {s} h e sure a l =
        set_word t' i (get_or t' i 0 ∪ s) a (Lanes (λ b. (b ∈ get_or t a 0) ⊎ TrueBy (j + 1) a b)) h
        (λ q. lanes_is (ap (λ z. get_or t' z 0 ∪ s) (sym q)) (lanes_iff (λ b k. (
          ⊎_elim (⊎_elim inl (λ p. inr (wider a b p))) (λ p. inr (j, omega arith, (one.is l).0 (e ∙ ap Some (sym q)), p)),
          ⊎_elim (λ m. inl (inl m)) (λ p. ⊎_elim (λ y. inr (subst (λ z. SureIn words z truths falsities b) y p.3)) (λ y. inl (inr (p.0, omega (arith, p.1), p.2, p.3))) (decided (dec_eq p.0 j))),
        )) (lanes_or (f.trues l) sure)))
        (λ n. lanes_iff (λ b k. (
          ⊎_elim inl (λ p. inr (wider a b p)),
          ⊎_elim inl (λ p. inr (p.0, ⊎_elim (λ q. absurd (n (same_Some a i (sym ((one.is l).1 (subst (λ z. head_in words z ≡ single a) q p.2)) ∙ e)))) (λ q. omega (arith, p.1)) (decided (dec_eq p.0 j)), p.2, p.3)),
        )) (f.trues l))

    pub true_over : ((i : ℕ) → r ≡ Some i → ⊥) → TruesTo (j + 1) t t'
    true_over n a l =
        lanes_iff (λ b k. (
          ⊎_elim inl (λ p. inr (wider a b p)),
          ⊎_elim inl (λ p. inr (p.0, ⊎_elim (λ q. absurd (n a ((one.is l).1 (subst (λ z. head_in words z ≡ single a) q p.2)))) (λ q. omega (arith, p.1)) (decided (dec_eq p.0 j)), p.2, p.3)),
        )) (f.trues l)

  pub follow_more : {j d : ℕ} {t shut t' t'' shut' shut'' : List ℕ} → TruesTo (j + 1) t t'' → Lanes (DeadIn words j truths falsities) d → Narrowed (head_in words j) 0 d shut' shut''
      → Followed j t shut t' shut' → Followed (j + 1) t shut t'' shut''
  follow_more {j} trues dead narrow f = record {
    trues = λ {a} l. trues a l;
    falses = λ {a} l. lanes_iff (λ b k. (
      λ p. let (u, v) = ((f.falses l).lane k).0 p.0 in
          (u, λ i q m. ⊎_elim (λ z. subst (λ y. DeadIn words y truths falsities b) (sym z) ((dead.lane k).0 (p.1 (subst (λ y. a ∈ head_in words y) z m) ∈-∅))) (λ z. v i (omega arith) m) (decided (dec_eq i j))),
      λ p. (((f.falses l).lane k).1 (p.0, λ i q m. p.1 i (omega arith) m), λ m _. (dead.lane k).1 (p.1 j (omega arith) m)),
    )) (narrow.word l);
  }

-- ---- what is left in `shut` enters, at the first n atoms
pub record Entered (shut : List ℕ) (n : ℕ) (f f' : List ℕ) : Type 0 where
  pub word : {a : ℕ} → a < 16 → Lanes (λ b. (b ∈ get_or f a 0) ⊎ ((a < n) × (b ∈ get_or shut a 0))) (get_or f' a 0)

pub enter_none : {shut f : List ℕ} → Entered shut 0 f f
enter_none = record { word = λ l. lanes_iff (λ b k. (inl, ⊎_elim (λ m. m) (λ p. absurd (not-suc-le-zero p.0)))) lanes_self }

pub enter_more : {shut f f' : List ℕ} {n : ℕ} → n < length f' → Entered shut n f f' → Entered shut (n + 1) f (set f' n (get_or f' n 0 ∪ get_or shut n 0))
enter_more {shut} {f} {f'} {n} h e = record {
  word = λ {a} l.
      set_word f' n (get_or f' n 0 ∪ get_or shut n 0) a (Lanes (λ b. (b ∈ get_or f a 0) ⊎ ((a < n + 1) × (b ∈ get_or shut a 0)))) h
      (λ q. lanes_is (ap (λ z. get_or f' z 0 ∪ get_or shut z 0) (sym q)) (lanes_iff (λ b k. (
        ⊎_elim (⊎_elim inl (λ p. inr (omega (arith, p.0), p.1))) (λ p. inr (omega arith, p)),
        ⊎_elim (λ m. inl (inl m)) (λ p. inr p.1),
      )) (lanes_or (e.word l) lanes_self)))
      (λ q. lanes_iff (λ b k. (⊎_elim inl (λ p. inr (omega (arith, p.0), p.1)), ⊎_elim inl (λ p. inr (omega (arith, p.0), p.1)))) (e.word l));
}

-- ---- one pass over so many rules, of n atoms
module _ (words : List ℕ) (rules n : ℕ) (truths falsities : Rows) where
  pub record Next (t f t' f' : List ℕ) : Type 0 where
    pub trues : {a : ℕ} → a < 16 → Lanes (λ b. (b ∈ get_or t a 0) ⊎ TrueBy words truths falsities rules a b) (get_or t' a 0)
    pub falses : {a : ℕ} → a < 16 → Lanes (λ b. (b ∈ get_or f a 0) ⊎ ((a < n) × FalseBy words truths falsities rules a b)) (get_or f' a 0)

  pub next_by : {t f t' f' shut shut' : List ℕ} → ((a : ℕ) → a < 16 → get_or shut a 0 ≡ every_lane) → Followed words truths falsities rules t shut t' shut'
      → Entered shut' n f f' → Next t f t' f'
  next_by g p e = record {
    trues = λ l. p.trues l;
    falses = λ {a} l. lanes_iff (λ b k. (
      ⊎_elim inl (λ m. inr (m.0, (((p.falses l).lane k).0 m.1).1)),
      ⊎_elim inl (λ m. inr (m.0, ((p.falses l).lane k).1 (subst (λ z. b ∈ z) (sym (g a l)) (in_every k), m.1))),
    )) (e.word l);
  }
