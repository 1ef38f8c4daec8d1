-- A list of words as a set of numbers: g is lane g % 64 of word g / 64. Assumes nothing.
use Rattle.std.specs.Prelude.{ℕ, ◌+◌, ◌*◌, ◌/◌, ◌%◌, ◌≤◌, ◌<◌, ◌≡◌, List, ◌↔◌, length, get_or, set}
use Rattle.std.proofs.Common.{sym, subst, ⊎_elim, arith, get_or-set_same, get_or-set_other}
use Rattle.sets.specs.Decides.{Decides, decided, dec_iff, dec_eq}
use Rattle.sets.specs.Sets.{◌∈◌, ◌∈?◌}
use Rattle.sets.specs.Members.{dec_∈}
use Rattle.lanes.specs.Lanes.{Lanes, lanes_self, lanes_iff}

infix 45 ◌in_plane◌
-- g is in the plane l
pub record ◌in_plane◌ (g : ℕ) (l : List ℕ) : Type 0 where
  pub held : g % 64 ∈ get_or l (g / 64) 0

-- of the numbers of its words, g is in the plane l exactly when P g
pub record Plane (P : ℕ → Type 0) (l : List ℕ) : Type 0 where
  pub number : {g : ℕ} → g < 64 * length l → g in_plane l ↔ P g

-- what a word says of its lanes as numbers
abbrev pub Word : (P : ℕ → Type 0) → ℕ → ℕ → Type 0
Word P w x = Lanes (λ b. P (64 * w + b)) x

pub word_self : (l : List ℕ) (w : ℕ) → Word (λ g. g in_plane l) w (get_or l w 0)
word_self l w =
    lanes_iff (λ b h.
    let q : (64 * w + b) / 64 ≡ w = omega arith in
    let r : (64 * w + b) % 64 ≡ b = omega arith in
    (λ m. record { held = rw (q, r) m }, λ m. rw (q, r) at m.held)) lanes_self

-- of the numbers with P those with Q too
pub word_with : (P Q : ℕ → Type 0) (w : ℕ) {x y : ℕ} → Word P w y → Lanes (λ b. (b ∈ y) × Q (64 * w + b)) x → Word (λ g. P g × Q g) w x
word_with P Q w f = lanes_iff (λ b h. (λ p. ((f.lane h).0 p.0, p.1), λ p. ((f.lane h).1 p.0, p.1)))

-- a plane that is made word by word: the words before w say Q, the others still P
module _ (P Q : ℕ → Type 0) where
  pub record Until (w : ℕ) (l : List ℕ) : Type 0 where
    pub done : {v : ℕ} → v < w → Word Q v (get_or l v 0)
    pub left : {v : ℕ} → w ≤ v → Word P v (get_or l v 0)

  pub until_more : (w x : ℕ) (l : List ℕ) → w < length l → Until w l → Word Q w x → Until (w + 1) (set l w x)
  until_more w x l h u q = record {
    done = λ {v} k. ⊎_elim (λ e. rw e (rw (get_or-set_same l w x 0 h) q))
        (λ n. rw (get_or-set_other l w v x 0 n) (u.done (omega arith))) (decided (dec_eq v w));
    left = λ {v} k. let n : v ≡ w → ⊥ = λ e. omega arith in rw (get_or-set_other l w v x 0 n) (u.left (omega arith));
  }

  pub until_all : (w : ℕ) (l : List ℕ) → length l ≤ w → Until w l → Plane Q l
  until_all w l h u = record {
    number = λ {g} k.
        let e : 64 * (g / 64) + g % 64 ≡ g = omega arith in
        let f = (u.done {v = g / 64} (omega arith)).lane {b = g % 64} (omega arith) in
        (λ m. subst Q e (f.0 m.held), λ q. record { held = f.1 (subst Q (sym e) q) });
  }

pub until_none : (Q : ℕ → Type 0) (l : List ℕ) → Until (λ g. g in_plane l) Q 0 l
until_none Q l = record { done = λ k. absurd (omega arith); left = λ {v} k. word_self l v }

-- ---- one number
pub dec_in_plane : (g : ℕ) (l : List ℕ) → Decides (g in_plane l) (g % 64 ∈? get_or l (g / 64) 0)
dec_in_plane g l = dec_iff (λ m. record { held = m }, λ p. p.held) (dec_∈ (g % 64) (get_or l (g / 64) 0))
