-- T and F for all lanes, pass after pass. u has by atom the lanes in which "not K a" is assumed, p those in which "M a" is. Assumes nothing.
use Rattle.std.specs.Prelude.{ℕ, suc, ◌+◌, ◌*◌, ◌<◌, ◌≡◌, List, get_or}
use Rattle.std.proofs.Common.{sym, subst, add-one}
use Rattle.ruling.specs.Laid.{Laid}
use Rattle.ruling.specs.Pass.{Next}
use Rattle.ruling.specs.declared.literals.Rows.{Rows}

-- no lane at any atom
pub record Empty (t : List ℕ) : Type 0 where
  pub word : {a : ℕ} → a < 16 → get_or t a 0 ≡ 0

module _ (words : List ℕ) (rules n : ℕ) (u p : List ℕ) where
  -- one pass, of T and F with their words laid out
  pub record Advanced (t f t' f' : List ℕ) : Type 0 where
    pub truths : Rows
    pub falsities : Rows
    pub laid_t : Laid t u p 16 truths
    pub laid_f : Laid f p u 16 falsities
    pub next : Next words rules n truths falsities t f t' f'

  pub advanced : {truths falsities : Rows} {t f t' f' : List ℕ} → Laid t u p 16 truths → Laid f p u 16 falsities → Next words rules n truths falsities t f t' f' → Advanced t f t' f'
  advanced {truths} {falsities} x y q = record { truths = truths; falsities = falsities; laid_t = x; laid_f = y; next = q }

  -- after so many passes
  pub data Reached : ℕ → List ℕ → List ℕ → Type 0 where
    start : {t f : List ℕ} → Empty t → Empty f → Reached 0 t f
    more : {i : ℕ} {t f t' f' : List ℕ} → Reached i t f → Advanced t f t' f' → Reached (suc i) t' f'

  -- after as many as are needed: twice the atoms, or the last added nothing
  pub data Settled : List ℕ → List ℕ → Type 0 where
    all : {t f : List ℕ} → Reached (2 * n) t f → Settled t f
    early : {i : ℕ} {t f : List ℕ} → Reached i t f → Reached (suc i) t f → Settled t f

  pub one_more : {i : ℕ} {t f t' f' : List ℕ} → Reached i t f → Advanced t f t' f' → Reached (i + 1) t' f'
  one_more {i} {t' = t'} {f'} r a = subst (λ z. Reached z t' f') (sym (add-one i)) (more r a)

  pub settled_all : {i : ℕ} {t f : List ℕ} → i ≡ 2 * n → Reached i t f → Settled t f
  settled_all {t = t} {f} e r = all (subst (λ z. Reached z t f) e r)
