-- The lanes whose guesses assume a negation. Assumes nothing.
use Rattle.std.specs.Prelude.{ℕ, ◌+◌, ◌*◌, ◌<◌, ◌≡◌, List, length, get_or, set}
use Rattle.std.proofs.Common.{sym, ap, subst, ◌∙◌, ⊎_elim, not-suc-le-zero}
use Rattle.sets.specs.Decides.{decided}
use Rattle.sets.specs.Sets.{◌∖◌, Meets, full, single, ∅}
use Rattle.sets.specs.Members.{dec_meets, ∅-⊆}
use Rattle.guess.specs.declared.outline.Outline.{Outline}
use Rattle.guess.specs.Negations.{found_by}
use Rattle.lanes.specs.Lanes.{Lanes, lanes_is, lanes_iff, lanes_minus}
use Rattle.lanes.specs.Cube.{InCube}
use Rattle.ruling.specs.declared.assumed.Numbers.{Numbers}
use Rattle.ruling.specs.Literals.{every_lane, all_lanes}
use Rattle.ruling.specs.Laid.{set_word, before_last}

-- the numbers of the negations of the first n atoms, as sets: of "not K a", and of "M a"
pub record NumbersOf (x : Outline) (n : ℕ) (numbers : Numbers) : Type 0 where
  pub unknown : {a : ℕ} → a < n → get_or numbers.unknown a 0 ≡ found_by x (full x.atoms ∖ single a) ∅
  pub maybe : {a : ℕ} → a < n → get_or numbers.maybe a 0 ≡ found_by x (full x.atoms) (single a)

pub numbers-none : (x : Outline) (numbers : Numbers) → NumbersOf x 0 numbers
numbers-none x numbers = record { unknown = λ k. absurd (not-suc-le-zero k); maybe = λ k. absurd (not-suc-le-zero k) }

pub numbers_more : (x : Outline) {n u v : ℕ} {l m : List ℕ} → n < length l → n < length m → u ≡ found_by x (full x.atoms ∖ single n) ∅ → v ≡ found_by x (full x.atoms) (single n)
    → NumbersOf x n (record { unknown = l; maybe = m }) → NumbersOf x (n + 1) (record { unknown = set l n u; maybe = set m n v })
numbers_more x {n} {u} {v} {l} {m} h i e f s = record {
  unknown = λ {a} k.
      set_word l n u a (λ z. z ≡ found_by x (full x.atoms ∖ single a) ∅) h (λ q. e ∙ ap (λ z. found_by x (full x.atoms ∖ single z) ∅) (sym q)) (λ q. s.unknown (before_last k q));
  maybe = λ {a} k.
      set_word m n v a (λ z. z ≡ found_by x (full x.atoms) (single a)) i (λ q. f ∙ ap (λ z. found_by x (full x.atoms) (single z)) (sym q)) (λ q. s.maybe (before_last k q));
}

-- of the first n atoms: the lanes of word w whose guesses have a number of the set at that place
pub record AssumedIn (numbers : List ℕ) (w n : ℕ) (lanes : List ℕ) : Type 0 where
  pub word : {a : ℕ} → a < n → Lanes (λ b. Meets (get_or numbers a 0) (64 * w + b)) (get_or lanes a 0)

pub assumed-none : (numbers : List ℕ) (w : ℕ) (lanes : List ℕ) → AssumedIn numbers w 0 lanes
assumed-none numbers w lanes = record { word = λ k. absurd (not-suc-le-zero k) }

pub assumed-more : {numbers : List ℕ} {w n y z : ℕ} {lanes : List ℕ} → n < length lanes → Lanes (λ b. InCube (get_or numbers n 0) ∅ (64 * w + b)) y
    → z ≡ every_lane ∖ y → AssumedIn numbers w n lanes → AssumedIn numbers w (n + 1) (set lanes n z)
assumed-more {numbers} {w} {n} {y} {z} {lanes} h p e s = record {
  word = λ {a} k. set_word lanes n z a (Lanes (λ b. Meets (get_or numbers a 0) (64 * w + b))) h
      (λ q. lanes_is e (lanes_iff (λ b l. (
        λ r. ⊎_elim (λ m. m) (λ m. absurd (r.1 (record { apart = λ t. m (subst (λ i. Meets (get_or numbers i 0) (64 * w + b)) (sym q) t); within = ∅-⊆ })))
            (decided (dec_meets (get_or numbers a 0) (64 * w + b))),
        λ m. (tt, λ c. c.apart (subst (λ i. Meets (get_or numbers i 0) (64 * w + b)) q m)),
      )) (lanes_minus (all_lanes {P = λ _. Unit {0}} (λ b l. tt)) p)))
      (λ q. s.word (before_last k q));
}
