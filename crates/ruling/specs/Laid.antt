-- Three rows of words, made of one. Assumes nothing.
use Rattle.std.specs.Prelude.{ℕ, ◌+◌, ◌<◌, ◌≡◌, refl, List, length, get_or, set}
use Rattle.std.proofs.Common.{sym, ap, subst, ◌∙◌, ⊎_elim, arith, not-suc-le-zero, get_or-set_same, get_or-set_other}
use Rattle.sets.specs.Decides.{decided, dec_eq}
use Rattle.sets.specs.Sets.{◌∪◌, ◌∖◌}
use Rattle.ruling.specs.declared.literals.Rows.{Rows}

-- a word of a list after a store at i
pub set_word : (l : List ℕ) (i v a : ℕ) (P : ℕ → Type 0) → i < length l → (a ≡ i → P v) → ((a ≡ i → ⊥) → P (get_or l a 0)) → P (get_or (set l i v) a 0)
set_word l i v a P h p q =
    ⊎_elim (λ e. subst P (sym (ap (λ z. get_or (set l i v) z 0) e ∙ get_or-set_same l i v 0 h)) (p e))
    (λ n. subst P (sym (get_or-set_other l i a v 0 n)) (q n)) (decided (dec_eq a i))

pub before_last : {a n : ℕ} → a < n + 1 → (a ≡ n → ⊥) → a < n
before_last h q = omega arith

-- of the first n atoms: the word of x, without that of `less`, and with that of `more`
module _ (x less more : List ℕ) where
  pub record Laid (n : ℕ) (rows : Rows) : Type 0 where
    pub whole : {a : ℕ} → a < n → get_or rows.whole a 0 ≡ get_or x a 0
    pub without : {a : ℕ} → a < n → get_or rows.without a 0 ≡ get_or x a 0 ∖ get_or less a 0
    pub with : {a : ℕ} → a < n → get_or rows.with a 0 ≡ get_or x a 0 ∪ get_or more a 0

  pub laid_none : (rows : Rows) → Laid 0 rows
  laid_none rows = record { whole = λ k. absurd (not-suc-le-zero k); without = λ k. absurd (not-suc-le-zero k); with = λ k. absurd (not-suc-le-zero k) }

  pub laid_more : {n y : ℕ} {v w : List ℕ} → n < length v → n < length w → y ≡ get_or x n 0 ∖ get_or less n 0 → Laid n (record { whole = x; without = v; with = w })
      → Laid (n + 1) (record { whole = x; without = set v n y; with = set w n (get_or x n 0 ∪ get_or more n 0) })
  laid_more {n} {y} {v} {w} h i e l = record {
    whole = λ k. refl;
    without = λ {a} k.
        set_word v n y a (λ z. z ≡ get_or x a 0 ∖ get_or less a 0) h (λ q. e ∙ ap (λ z. get_or x z 0 ∖ get_or less z 0) (sym q)) (λ q. l.without (before_last k q));
    with = λ {a} k.
        set_word w n (get_or x n 0 ∪ get_or more n 0) a (λ z. z ≡ get_or x a 0 ∪ get_or more a 0) i (λ q. ap (λ z. get_or x z 0 ∪ get_or more z 0) (sym q)) (λ q. l.with (before_last k q));
  }
