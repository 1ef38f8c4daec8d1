-- Words written over others, from the first on. Assumes nothing.
use Rattle.std.specs.Prelude.{ℕ, ◌≤◌, ◌≡◌, refl, List, [], ◌∷◌, ◌++◌, length, set, take}
use Rattle.std.proofs.Common.{ap, le_of_suc-le-suc, not-suc-le-zero}

-- the words of w over those of o, as many as fit
unfoldable pub over : (w o : List ℕ) → List ℕ
over [] o = o
over (x ∷ w) [] = []
over (x ∷ w) (y ∷ o) = x ∷ over w o

pub over_nothing : (o : List ℕ) → over [] o ≡ o
unfolding over
over_nothing o = refl

pub over_long : (w o : List ℕ) → length (over w o) ≡ length o
unfolding over
over_long [] o = refl
over_long (x ∷ w) [] = refl
over_long (x ∷ w) (y ∷ o) = rw (over_long w o)

-- one word more, where there is one for it
pub over-more : (w o : List ℕ) (x : ℕ) → set (over w o) (length w) x ≡ over (w ++ x ∷ []) o
unfolding over
over-more [] [] x = refl
over-more [] (y ∷ o) x = refl
over-more (z ∷ w) [] x = refl
over-more (z ∷ w) (y ∷ o) x = ap (λ l. z ∷ l) (over-more w o x)

-- where all fit they are the first
pub over_first : (w o : List ℕ) → length w ≤ length o → take (length w) (over w o) ≡ w
unfolding over
over_first [] o h = refl
over_first (x ∷ w) [] h = absurd (not-suc-le-zero h)
over_first (x ∷ w) (y ∷ o) h = ap (λ l. x ∷ l) (over_first w o (le_of_suc-le-suc h))
