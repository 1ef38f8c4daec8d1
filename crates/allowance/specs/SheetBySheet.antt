-- "the first refusal, sheet by sheet, is returned with the sheet's position from 0": a step for each sheet is granted exactly where every sheet's
-- step is accepted, and denied exactly as the first step that is refused. Assumes nothing.
use Prim.Native.Nat.{ℕ, zero, suc, ◌+◌, ◌<◌}
use Rattle.std.specs.Prelude.{◌≡◌, ◌↔◌, ◌⊎◌, get_or}
use Rattle.std.proofs.Math.Path.{refl, subst}
use Rattle.std.proofs.Common.{sym, ap, ◌∙◌, inl, inr, le_of_suc-le-suc, not-suc-le-zero, suc-ne-zero}
use mathlib.Core.List.{List, [], ◌∷◌}
use Rattle.std.proofs.Math.Logic.{⊎_elim}
use native.Mathlib.Omega.{arith}
use Rattle.std.proofs.Math.Nat.{suc_inj}
use Rattle.std.proofs.Math.ListN.{length}
use Rattle.sets.specs.Decides.{unequal}
use Rattle.semantics.specs.Definitions.Returned.{Returned, accepted, refusal}
use Rattle.semantics.specs.Definitions.Sharing.{Shared, granted, denied, ◌and_so◌, standing, sheet_by_sheet}

-- no call is both granted and denied
pub not_both : {A : Type 0} {r : Shared A} {v : A} {number place position : ℕ} → r ≡ granted v → r ≡ denied number place position → ⊥
not_both e d = unequal cc

pub granted_same : {A : Type 0} {v w : A} → granted v ≡ granted w → v ≡ w
granted_same e = cc

pub denied_same : {A : Type 0} {n p i m q j : ℕ} → ◌≡◌ {A = Shared A} (denied n p i) (denied m q j) → (n ≡ m) × (p ≡ q) × (i ≡ j)
denied_same e = (cc, cc, cc)

-- ---- one step after the other
module _ {A B : Type 0} where
  pub so_granted : (r : Shared A) (rest : A → Shared B) {w : B} → r and_so rest ≡ granted w → (v : A) × (r ≡ granted v) × (rest v ≡ granted w)
  so_granted (granted v) rest e = (v, refl, e)
  so_granted (denied number place position) rest e = unequal cc

  -- denied: the first step is, or the rest
  pub so_denied : (r : Shared A) (rest : A → Shared B) (n p i : ℕ) → r and_so rest ≡ denied n p i
      ↔ ((r ≡ denied n p i) ⊎ ((v : A) × (r ≡ granted v) × (rest v ≡ denied n p i)))
  so_denied (granted v) rest n p i = (
    λ e. inr (v, refl, e),
    ⊎_elim (λ e. unequal cc) (λ (w, e, d). let same : v ≡ w = cc in rw same d),
  )
  so_denied (denied m q j) rest n p i = (
    λ e. inl cc,
    ⊎_elim (λ e. cc) (λ (w, e, d). unequal cc),
  )

-- ---- a sheet's step at its position
module _ {A : Type 0} (p : ℕ) where
  pub stands_granted : (r : Returned A) {v : A} → standing p r ≡ granted v → r ≡ accepted v
  stands_granted (accepted w) e = cc
  stands_granted (refusal number place) e = unequal cc

  pub stands_denied : (r : Returned A) {number place position : ℕ} → standing p r ≡ denied number place position → (r ≡ refusal number place) × (position ≡ p)
  stands_denied (accepted w) e = unequal cc
  stands_denied (refusal n q) e = (cc, cc)

-- ---- the first sheet and those after it, by their positions
first : (p : ℕ) → p + 0 ≡ p
first p = omega arith

further : (p q : ℕ) → p + suc q ≡ suc p + q
further p q = omega arith

-- ---- a step for each sheet, from a position on
module _ {A B : Type 0} (step : ℕ → A → Returned B) where
  goes_on : (p : ℕ) (x : A) (xs : List A) {y : B} → step p x ≡ accepted y
      → sheet_by_sheet step p (x ∷ xs) ≡ (sheet_by_sheet step (suc p) xs and_so λ ys. granted (y ∷ ys))
  unfolding sheet_by_sheet
  goes_on p x xs e = rw e

  stops : (p : ℕ) (x : A) (xs : List A) {number place : ℕ} → step p x ≡ refusal number place → sheet_by_sheet step p (x ∷ xs) ≡ denied number place p
  unfolding sheet_by_sheet
  stops p x xs e = rw e

  -- each sheet's step is accepted, with these values
  abbrev pub EachAccepted : (p : ℕ) (l : List A) (ys : List B) (a : A) (b : B) → Type 0
  EachAccepted p l ys a b = (length ys ≡ length l) × ((q : ℕ) → q < length l → step (p + q) (get_or l q a) ≡ accepted (get_or ys q b))

  -- the step of some sheet is refused so, and those before it are accepted
  abbrev pub FirstRefused : (p : ℕ) (l : List A) (a : A) (number place position : ℕ) → Type 0
  FirstRefused p l a number place position =
      (r : ℕ) × (r < length l) × (position ≡ p + r) × ((q : ℕ) → q < r → (y : B) × (step (p + q) (get_or l q a) ≡ accepted y))
      × (step (p + r) (get_or l r a) ≡ refusal number place)

  pub each_granted : (p : ℕ) (l : List A) (ys : List B) (a : A) (b : B) → length ys ≡ length l
      → ((q : ℕ) → q < length l → step (p + q) (get_or l q a) ≡ accepted (get_or ys q b)) → sheet_by_sheet step p l ≡ granted ys
  unfolding sheet_by_sheet
  each_granted p [] [] a b n f = refl
  each_granted p [] (y ∷ ys) a b n f = absurd (suc-ne-zero (length ys) n)
  each_granted p (x ∷ xs) [] a b n f = absurd (suc-ne-zero (length xs) (sym n))
  each_granted p (x ∷ xs) (y ∷ ys) a b n f =
      let now : step p x ≡ accepted y = rw first at (f 0 (omega arith)) in
      let then = each_granted (suc p) xs ys a b (suc_inj n) (λ q h. rw further at (f (suc q) (omega arith))) in
      goes_on p x xs now ∙ rw then

  pub each_denied : (p : ℕ) (l : List A) (a : A) (r number place : ℕ) → r < length l
      → ((q : ℕ) → q < r → (y : B) × (step (p + q) (get_or l q a) ≡ accepted y)) → step (p + r) (get_or l r a) ≡ refusal number place
      → sheet_by_sheet step p l ≡ denied number place (p + r)
  each_denied p [] a r number place h f e = absurd (not-suc-le-zero h)
  each_denied p (x ∷ xs) a zero number place h f e =
      let now : step p x ≡ refusal number place = rw first at e in
      stops p x xs now ∙ ap (denied number place) (sym (first p))
  each_denied p (x ∷ xs) a (suc r) number place h f e =
      let (y, d) = f 0 (omega arith) in
      let now : step p x ≡ accepted y = rw first at d in
      let then =
      each_denied (suc p) xs a r number place (le_of_suc-le-suc h)
      (λ q k. let (z, g) = f (suc q) (omega arith) in (z, rw further at g)) (rw further at e) in
      goes_on p x xs now ∙ rw then (ap (denied number place) (sym (further p r)))

  granted_each : (p : ℕ) (l : List A) (ys : List B) (a : A) (b : B) → sheet_by_sheet step p l ≡ granted ys → EachAccepted p l ys a b
  unfolding sheet_by_sheet
  granted_each p [] ys a b e = (ap length (sym (granted_same e)), λ q h. absurd (not-suc-le-zero h))
  granted_each p (x ∷ xs) ys a b e =
      let (y, now, d) = so_granted (standing p (step p x)) _ e in
      let (zs, then, same) = so_granted (sheet_by_sheet step (suc p) xs) _ d in
      let (n, f) = granted_each (suc p) xs zs a b then in
      subst (λ l. EachAccepted p (x ∷ xs) l a b) (granted_same same) (ap suc n, go y zs (stands_granted p (step p x) now) f)
    where
      go : (y : B) (zs : List B) → step p x ≡ accepted y → ((q : ℕ) → q < length xs → step (suc p + q) (get_or xs q a) ≡ accepted (get_or zs q b))
          → (q : ℕ) → q < suc (length xs) → step (p + q) (get_or (x ∷ xs) q a) ≡ accepted (get_or (y ∷ zs) q b)
      go y zs now f zero h = rw first now
      go y zs now f (suc q) h = rw further (f q (le_of_suc-le-suc h))

  denied_first : (p : ℕ) (l : List A) (a : A) (number place position : ℕ) → sheet_by_sheet step p l ≡ denied number place position
      → FirstRefused p l a number place position
  unfolding sheet_by_sheet
  denied_first p [] a number place position e = unequal cc
  denied_first p (x ∷ xs) a number place position e =
      ⊎_elim
      (λ d. let (now, at) = stands_denied p (step p x) d in (0, omega arith, omega arith, λ q h. absurd (not-suc-le-zero h), rw first now))
      (λ (y, now, d).
      ⊎_elim
      (λ c. let (r, h, at, f, then) = denied_first (suc p) xs a number place position c in
      (suc r, omega arith, omega arith, go y r (stands_granted p (step p x) now) f, rw further then))
      (λ (zs, _, c). unequal cc)
      ((so_denied (sheet_by_sheet step (suc p) xs) _ number place position).0 d))
      ((so_denied (standing p (step p x)) _ number place position).0 e)
    where
      go : (y : B) (r : ℕ) → step p x ≡ accepted y → ((q : ℕ) → q < r → (z : B) × (step (suc p + q) (get_or xs q a) ≡ accepted z))
          → (q : ℕ) → q < suc r → (z : B) × (step (p + q) (get_or (x ∷ xs) q a) ≡ accepted z)
      go y r now f zero h = (y, rw first now)
      go y r now f (suc q) h = let (z, e) = f q (le_of_suc-le-suc h) in (z, rw further e)

  pub granted_exactly : (p : ℕ) (l : List A) (ys : List B) (a : A) (b : B) → (sheet_by_sheet step p l ≡ granted ys) ↔ EachAccepted p l ys a b
  granted_exactly p l ys a b = (granted_each p l ys a b, λ (n, f). each_granted p l ys a b n f)

  pub denied_exactly : (p : ℕ) (l : List A) (a : A) (number place position : ℕ)
      → (sheet_by_sheet step p l ≡ denied number place position) ↔ FirstRefused p l a number place position
  denied_exactly p l a number place position = (
    denied_first p l a number place position,
    λ (r, h, at, f, e). each_denied p l a r number place h f e ∙ ap (denied number place) (sym at),
  )
