-- A table with an entry for each number: what is known and possible in the sets taken in, and how many they are. Assumes nothing.
use Rattle.std.specs.Prelude.{ℕ, ◌+◌, ◌-◌, ◌*◌, ◌/◌, ◌%◌, ◌<◌, ◌≡◌, refl, List, ◌↔◌, ◌⊎◌, length, slice_index_or, set}
use Rattle.std.proofs.Common.{sym, ap, ◌∙◌, subst, inl, inr, ⊎_elim, arith, length-set, get_or-set_same, get_or-set_other}
use Rattle.sets.specs.Decides.{decided}
use Rattle.sets.specs.Sets.{◌∈◌, ◌⊆◌, ◌∩◌, ◌∪◌, ◌∖◌, ∅, single}
use Rattle.sets.specs.Members.{dec_∈, ∈-∖, ∈-∅, ∈-single}
use Rattle.sets.specs.Least.{First}
use Rattle.lanes.specs.declared.noted.Entry.{Entry}

abbrev pub entry : ℕ → ℕ → ℕ → Entry
entry a b c = record { known = a; possible = b; sets = c }

abbrev pub entry_at : List Entry → ℕ → Entry
entry_at t g = slice_index_or t g (entry ∅ ∅ 0)

-- one set more
abbrev pub with_set : ℕ → Entry → Entry
with_set i e = record { known = e.known ∩ i; possible = e.possible ∪ i; sets = e.sets + 1 }

-- from t to u, the entries of the numbers with P take i in, and the others stay
pub record Noted (P : ℕ → Type 0) (i : ℕ) (t u : List Entry) : Type 0 where
  pub long : length u ≡ length t
  pub taken : {g : ℕ} → P g → entry_at u g ≡ with_set i (entry_at t g)
  pub kept : {g : ℕ} → (P g → ⊥) → entry_at u g ≡ entry_at t g

pub noted_iff : {P Q : ℕ → Type 0} {i : ℕ} {t u : List Entry} → ((g : ℕ) → P g ↔ Q g) → Noted P i t u → Noted Q i t u
noted_iff f n = record { long = n.long; taken = λ {g} q. n.taken ((f g).1 q); kept = λ {g} q. n.kept (λ p. q ((f g).0 p)) }

pub noted-none : {P : ℕ → Type 0} (i : ℕ) {t : List Entry} → ((g : ℕ) → P g → ⊥) → Noted P i t t
noted-none i f = record { long = refl; taken = λ {g} p. absurd (f g p); kept = λ _. refl }

-- some numbers, and then others
pub noted_join : {P Q : ℕ → Type 0} {i : ℕ} {t u v : List Entry} → ((g : ℕ) → P g → Q g → ⊥) → Noted P i t u → Noted Q i u v → Noted (λ g. P g ⊎ Q g) i t v
noted_join {i = i} f n m = record {
  long = m.long ∙ n.long;
  taken = λ {g} q.
      ⊎_elim (λ p. m.kept (λ r. f g p r) ∙ n.taken p) (λ r. m.taken r ∙ ap (with_set i) (n.kept (λ p. f g p r))) q;
  kept = λ {g} q. m.kept (λ r. q (inr r)) ∙ n.kept (λ p. q (inl p));
}

pub stored : (t : List Entry) (g i : ℕ) {e : Entry} → g < length t → e ≡ with_set i (entry_at t g) → Noted (λ h. h ≡ g) i t (set t g e)
stored t g i l is = record {
  long = length-set t g _;
  taken = λ {g = h} q. rw q (get_or-set_same t g _ _ l ∙ is);
  kept = λ {g = h} n. get_or-set_other t g h _ _ n;
}

-- lane b of word w, for the lanes b of a set
pub record InWord (w lanes g : ℕ) : Type 0 where
  pub word : g / 64 ≡ w
  pub lane : g % 64 ∈ lanes

module _ (w lanes : ℕ) where
  -- those before the first of the rest, and that one
  pub one_more : (rest a : ℕ) → a < 64 → rest ⊆ lanes → First rest a → (g : ℕ)
      → (InWord w (lanes ∖ rest) g ⊎ (g ≡ 64 * w + a)) ↔ InWord w (lanes ∖ (rest ∩ (rest - 1))) g
  one_more rest a l s f g =
      let b = g % 64 in
      let o = rest ∩ (rest - 1) in
      let others : b ∈ o ↔ ((b ∈ rest) × (b ∈ single a → ⊥)) = rw f.others (∈-∖ b rest (single a)) in (
        ⊎_elim (λ u. let (m, n) = (∈-∖ b lanes rest).0 u.lane in record { word = u.word; lane = (∈-∖ b lanes o).1 (m, λ k. n (others.0 k).0) })
            (λ e. let q : b ≡ a = omega arith in record {
              word = omega arith;
              lane = (∈-∖ b lanes o).1 (subst (λ z. z ∈ lanes) (sym q) (s.into f.is_in), λ k. (others.0 k).1 ((∈-single b a).1 q));
            }),
        λ u. let (m, n) = (∈-∖ b lanes o).0 u.lane in
            ⊎_elim (λ k. inr (⊎_elim (λ y. let q = (∈-single b a).0 y in omega (arith, u.word)) (λ y. absurd (n (others.1 (k, y)))) (decided (dec_∈ b (single a)))))
            (λ k. inl (record { word = u.word; lane = (∈-∖ b lanes rest).1 (m, k) })) (decided (dec_∈ b rest)),
      )

  pub not_yet : (rest a : ℕ) → a < 64 → a ∈ rest → InWord w (lanes ∖ rest) (64 * w + a) → ⊥
  not_yet rest a l m u =
      let q : (64 * w + a) % 64 ≡ a = omega arith in
      ((∈-∖ a lanes rest).0 (subst (λ z. z ∈ lanes ∖ rest) q u.lane)).1 m

  pub all_left : (g : ℕ) → InWord w (lanes ∖ lanes) g → ⊥
  all_left g u = let (m, n) = (∈-∖ (g % 64) lanes lanes).0 u.lane in n m

  pub none_left : (rest : ℕ) → rest ≡ 0 → (g : ℕ) → InWord w (lanes ∖ rest) g ↔ InWord w lanes g
  none_left rest e g = (
    λ u. record { word = u.word; lane = ((∈-∖ (g % 64) lanes rest).0 u.lane).0 },
    λ u. record { word = u.word; lane = (∈-∖ (g % 64) lanes rest).1 (u.lane, λ m. ∈-∅ (subst (λ z. g % 64 ∈ z) e m)) },
  )
