-- One set more: what the planes and the table say of each number then, word by word. Assumes nothing.
use Rattle.std.specs.Prelude.{ℕ, ◌+◌, ◌*◌, ◌/◌, ◌%◌, ◌<◌, ◌≡◌, refl, List, length, get_or, set}
use Rattle.std.proofs.Common.{sym, ◌∙◌, subst, ⊎_elim, arith, length-set, get_or-set_same, get_or-set_other}
use Rattle.sets.specs.Decides.{decided}
use Rattle.sets.specs.Sets.{◌∈◌, ◌⊆◌, ◌∩◌, ◌∖◌}
use Rattle.sets.specs.Members.{dec_⊆, ∈-∅}
use Rattle.lanes.specs.Lanes.{Lanes, lanes_self, lanes_is, lanes_iff, lanes_and, lanes_minus}
use Rattle.lanes.specs.Planes.{◌in_plane◌, Word, word_self}
use Rattle.lanes.specs.declared.noted.Entry.{Entry}
use Rattle.lanes.specs.Noted.{Noted, InWord, noted_iff, noted-none}

-- i is stable for the lanes `stable` of word w, and needs `needed`: the active ones of them that lack something leave, and the others take i in
pub record WordNoted (w stable i needed : ℕ) (active : List ℕ) (table : List Entry) (active' : List ℕ) (table' : List Entry) : Type 0 where
  pub long : length active' ≡ length active
  pub others : {v : ℕ} → (v ≡ w → ⊥) → get_or active' v 0 ≡ get_or active v 0
  pub left : Word (λ g. (g in_plane active) × (g % 64 ∈ stable → needed ⊆ g)) w (get_or active' w 0)
  pub entries : Noted (λ g. (g / 64 ≡ w) × (g in_plane active) × (g % 64 ∈ stable) × (needed ⊆ g)) i table table'

module _ (w stable i needed : ℕ) (active : List ℕ) (table : List Entry) where
  found : Lanes (λ b. (b ∈ stable) × ((64 * w + b) in_plane active)) (stable ∩ get_or active w 0)
  found = lanes_and lanes_self (word_self active w)

  pub word_noted : w < length active → {having z lanes : ℕ} {table' : List Entry} → Word (λ g. needed ⊆ g) w having
      → z ≡ get_or active w 0 ∖ (stable ∩ get_or active w 0 ∖ having) → Noted (InWord w lanes) i table table' → lanes ≡ stable ∩ get_or active w 0 ∩ having
      → WordNoted w stable i needed active table (set active w z) table'
  word_noted h {table' = table'} c e n same = record {
    long = length-set active w _;
    others = λ {v} k. get_or-set_other active w v _ 0 k;
    left = lanes_is (get_or-set_same active w _ 0 h ∙ e) (lanes_iff (λ b l.
        let q : (64 * w + b) % 64 ≡ b = omega arith in (
          λ p. (p.0, λ s. ⊎_elim (λ t. t) (λ t. absurd (p.1 ((rw q at s, p.0), t))) (decided (dec_⊆ needed (64 * w + b)))),
          λ p. (p.0, λ u. u.1 (p.1 (rw q u.0.0))),
        )) (lanes_minus (word_self active w) (lanes_minus found c)));
    entries = noted_iff (λ g.
        let f = (lanes_and found c).lane {b = g % 64} (omega arith) in
        let e : g / 64 ≡ w → 64 * w + g % 64 ≡ g = λ k. omega arith in (
          λ u. let p = f.0 u.lane in
              (u.word, subst (λ z. z in_plane active) (e u.word) p.0.1, p.0.0, subst (λ z. needed ⊆ z) (e u.word) p.1),
          λ p. record {
            word = p.0;
            lane = f.1 ((p.2, subst (λ z. z in_plane active) (sym (e p.0)) p.1), subst (λ z. needed ⊆ z) (sym (e p.0)) p.3);
          },
        )) (subst (λ z. Noted (InWord w z) i table table') same n);
  }

  -- where no active lane of the word is stable, nothing changes
  pub word_unnoted : stable ∩ get_or active w 0 ≡ 0 → WordNoted w stable i needed active table active table
  word_unnoted e = record {
    long = refl;
    others = λ k. refl;
    left = lanes_iff (λ b l.
        let q : (64 * w + b) % 64 ≡ b = omega arith in
        (λ p. (p, λ s. absurd (∈-∅ (subst (λ z. b ∈ z) e ((found.lane l).1 (rw q at s, p))))), λ p. p.0)) (word_self active w);
    entries = noted-none i (λ g p.
        let f = found.lane {b = g % 64} (omega arith) in
        let k : 64 * w + g % 64 ≡ g = omega (arith, p.0) in
        ∈-∅ (subst (λ z. g % 64 ∈ z) e (f.1 (p.2, subst (λ z. z in_plane active) (sym k) p.1))));
  }
