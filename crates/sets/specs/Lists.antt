-- Lists as collections: membership, tests over the members, the members that pass a test, the numbers below n. Assumes nothing.
use Rattle.std.specs.Prelude.{ℕ, zero, suc, ◌<◌, ◌≡◌, Bool, not, ◌&&◌, ◌↔◌, ◌⊎◌, eqb, length, get_or, take}
use Rattle.std.proofs.Math.Path.{refl, ap, ap₂}
use Rattle.std.proofs.Common.{sym, ◌∙◌, subst, true≢false, arith, eq-or-lt_of_le, le_of_suc-le-suc, not-suc-le-zero, length-append, take-append-drop}
use Rattle.std.proofs.Math.Bool.{true, false, ◌||◌, cond}
use mathlib.Core.List.Memᴰ
use mathlib.Core.List.{List, [], ◌∷◌, ◌++◌, append-nil, append_assoc, foldl, map, map-append, Memᴰ, cons≢nil}
use Rattle.std.proofs.Math.Logic.{inl, inr, ⊎_elim}
use Rattle.std.proofs.lemmas.List.{length-map, get_or_at}
use Rattle.std.proofs.Math.ListN.{get_or-append}
use Rattle.sets.specs.Decides.{is_true, Decides, dec_true, dec_false, dec_self, dec_iff, dec_and, dec_or, dec_eq}

infix 45 ◌among◌
-- x stands in the list l
abbrev pub ◌among◌ : {A : Type 0} → A → List A → Type 0
x among l = Memᴰ x l

module _ {A : Type 0} where
  -- f holds of every member
  unfoldable pub every : (A → Bool) → List A → Bool
  every f [] = true
  every f (x ∷ l) = f x && every f l

  -- f holds of some member
  unfoldable pub some : (A → Bool) → List A → Bool
  some f [] = false
  some f (x ∷ l) = f x || some f l

  -- the members of which f holds, in their order
  unfoldable pub keep : (A → Bool) → List A → List A
  keep f [] = []
  keep f (x ∷ l) = cond (f x) (x ∷ keep f l) (keep f l)

  -- the list has no member
  abbrev pub null : List A → Bool
  null [] = true
  null (x ∷ l) = false

  -- x alone where b is true, otherwise nothing
  abbrev pub only : Bool → A → List A
  only b x = cond b (x ∷ []) []

-- the lists that f gives for the members, end to end
unfoldable pub flat : {A B : Type 0} → (A → List B) → List A → List B
flat f [] = []
flat f (x ∷ l) = f x ++ flat f l

-- the numbers below n, rising and falling
unfoldable pub up_to : ℕ → List ℕ
up_to zero = []
up_to (suc n) = up_to n ++ n ∷ []

unfoldable pub down_from : ℕ → List ℕ
down_from zero = []
down_from (suc n) = n ∷ down_from n

-- two lists of numbers are the same
unfoldable pub same_list : List ℕ → List ℕ → Bool
same_list [] [] = true
same_list [] (y ∷ m) = false
same_list (x ∷ l) [] = false
same_list (x ∷ l) (y ∷ m) = eqb x y && same_list l m

-- ---- membership
module _ {A : Type 0} where
  pub here : {x : A} {l : List A} → x among (x ∷ l)
  here = Memᴰ.head refl

  pub later : {x y : A} {l : List A} → x among l → x among (y ∷ l)
  later m = Memᴰ.tail m

  pub nowhere : {x : A} → x among [] → ⊥
  nowhere m = Memᴰ.not-nil m

  pub first_or_later : {x y : A} {l : List A} → x among (y ∷ l) → (x ≡ y) ⊎ (x among l)
  first_or_later m = Memᴰ.cases_cons m

  pub among-append : {x : A} (l : List A) {m : List A} → x among (l ++ m) ↔ ((x among l) ⊎ (x among m))
  among-append l {m} = (Memᴰ.append_cases l, ⊎_elim (Memᴰ.append_left m) (Memᴰ.append_right l))

  pub among_middle : (l : List A) (x : A) (m : List A) {whole : List A} → l ++ x ∷ m ≡ whole → x among whole
  among_middle l x m e = subst (λ z. x among z) e ((among-append l).1 (inr here))

  pub among-take : {x : A} (n : ℕ) (l : List A) → x among take n l → x among l
  among-take {x} n l m = subst (λ z. x among z) (take-append-drop n l) ((among-append (take n l)).1 (inl m))

  -- what holds of every member, of more members and of the entry at a number
  module _ (P : A → Type 0) where
    pub all_cons : {x : A} {l : List A} → P x → ((y : A) → y among l → P y) → (y : A) → y among (x ∷ l) → P y
    all_cons p f y m = ⊎_elim (λ e. subst P (sym e) p) (f y) (first_or_later m)

    pub all_append : (l : List A) {m : List A} → ((y : A) → y among l → P y) → ((y : A) → y among m → P y) → (y : A) → y among (l ++ m) → P y
    all_append l f h y m = ⊎_elim (f y) (h y) ((among-append l).0 m)

    pub all_snoc : (l : List A) (x : A) → ((y : A) → y among l → P y) → P x → (y : A) → y among (l ++ x ∷ []) → P y
    all_snoc l x f p = all_append l f (all_cons p (λ y m. absurd (nowhere m)))

    pub all_get_d : (l : List A) (d : A) → ((y : A) → y among l → P y) → P d → (i : ℕ) → P (get_or l i d)
    all_get_d [] d f p i = p
    all_get_d (x ∷ l) d f p zero = f x here
    all_get_d (x ∷ l) d f p (suc i) = all_get_d l d (λ y m. f y (later m)) p i

    -- and what holds of some member
    pub any_snoc : (l : List A) (x : A) → ((y : A) × (y among (l ++ x ∷ [])) × P y) ↔ (((y : A) × (y among l) × P y) ⊎ P x)
    any_snoc l x = (
      λ q. ⊎_elim (λ m. inl (q.0, m, q.2)) (λ m. inr (subst P (Memᴰ.eq_of_singleton m) q.2)) ((among-append l).0 q.1),
      ⊎_elim (λ q. (q.0, (among-append l).1 (inl q.1), q.2)) (λ p. (x, (among-append l).1 (inr here), p)),
    )

  pub get_or-among : (l : List A) (d : A) (i : ℕ) → i < length l → get_or l i d among l
  get_or-among [] d i h = absurd (not-suc-le-zero h)
  get_or-among (x ∷ l) d zero h = here
  get_or-among (x ∷ l) d (suc i) h = later (get_or-among l d i (le_of_suc-le-suc h))

  -- a member has a place
  pub among_place : {x : A} (l : List A) (d : A) → x among l → (i : ℕ) × (i < length l) × (get_or l i d ≡ x)
  among_place {x} [] d m = absurd (nowhere m)
  among_place {x} (y ∷ l) d m =
      ⊎_elim (λ e. (zero, omega arith, sym e)) (λ k. let (i, h, e) = among_place {x = x} l d k in (suc i, omega arith, e)) (first_or_later m)

  pub among-only : (b : Bool) {x y : A} → x among only b y ↔ ((b ≡ true) × (x ≡ y))
  among-only true = (λ m. (refl, Memᴰ.eq_of_singleton m), λ p. Memᴰ.head p.1)
  among-only false {x} {y} = ((λ m. absurd (nowhere m)), λ p. absurd (true≢false (sym p.0)))

  module _ (f : A → Bool) where
    pub keep_cons : (x : A) (l : List A) → keep f (x ∷ l) ≡ only (f x) x ++ keep f l
    unfolding keep
    keep_cons x l = go (f x)
      where
        go : (b : Bool) → cond b (x ∷ keep f l) (keep f l) ≡ only b x ++ keep f l
        go true = refl
        go false = refl

    pub among-keep : {x : A} (l : List A) → x among keep f l ↔ ((x among l) × (f x ≡ true))
    unfolding keep
    among-keep [] = ((λ m. absurd (nowhere m)), λ p. absurd (nowhere p.0))
    among-keep (y ∷ l) =
        let ih = among-keep l in
        rw keep_cons (
          λ m. ⊎_elim (λ q. let (b, e) = (among-only (f y)).0 q in (Memᴰ.head e, ap f e ∙ b))
              (λ q. let (k, b) = ih.0 q in (later k, b)) ((among-append (only (f y) y)).0 m),
          λ p. (among-append (only (f y) y)).1
              (⊎_elim (λ e. inl ((among-only (f y)).1 (ap f (sym e) ∙ p.1, e))) (λ m. inr (ih.1 (m, p.1))) (first_or_later p.0)),
        )

    pub keep_append : (l m : List A) → keep f (l ++ m) ≡ keep f l ++ keep f m
    unfolding keep
    keep_append [] m = refl
    keep_append (x ∷ l) m = keep_cons x (l ++ m) ∙ rw (keep_append l m, keep_cons x l, append_assoc)

    pub keep_snoc : (l : List A) (x : A) → keep f (l ++ x ∷ []) ≡ keep f l ++ only (f x) x
    unfolding keep
    keep_snoc l x = keep_append l (x ∷ []) ∙ rw keep_cons (rw append-nil)

    -- those that pass a test h, and then f
    pub keep-keep : (h : A → Bool) (l : List A) → keep f (keep h l) ≡ keep (λ x. f x && h x) l
    unfolding keep
    keep-keep h [] = refl
    keep-keep h (x ∷ l) = go (h x) (f x) refl (keep-keep h l)
      where
        go : (b c : Bool) → f x ≡ c → {m : List A} → keep f (keep h l) ≡ m → keep f (cond b (x ∷ keep h l) (keep h l)) ≡ cond (c && b) (x ∷ m) m
        go true true e ih = rw (keep_cons x (keep h l), e) (ap (λ l. x ∷ l) ih)
        go true false e ih = rw (keep_cons x (keep h l), e) ih
        go false true e ih = ih
        go false false e ih = ih

    -- ---- the tests decide for every member, and for some member
    pub dec_every : (P : A → Type 0) (l : List A) → ((x : A) → x among l → Decides (P x) (f x)) → Decides ((x : A) → x among l → P x) (every f l)
    unfolding every
    dec_every P [] d = dec_true (λ x m. absurd (nowhere m))
    dec_every P (y ∷ l) d =
        dec_iff (
          λ p. all_cons P p.0 p.1,
          λ p. (p y here, λ x m. p x (later m)),
        ) (dec_and (d y here) (dec_every P l (λ x m. d x (later m))))

    pub dec_some : (P : A → Type 0) (l : List A) → ((x : A) → x among l → Decides (P x) (f x)) → Decides ((x : A) × (x among l) × P x) (some f l)
    unfolding some
    dec_some P [] d = dec_false (λ p. nowhere p.1)
    dec_some P (y ∷ l) d =
        dec_iff (
          ⊎_elim (λ p. (y, here, p)) (λ q. (q.0, later q.1, q.2)),
          λ q. ⊎_elim (λ e. inl (subst P e q.2)) (λ m. inr (q.0, m, q.2)) (first_or_later q.1),
        ) (dec_or (d y here) (dec_some P l (λ x m. d x (later m))))

  -- tests that agree on the members
  pub some_same : (f h : A → Bool) (l : List A) → ((x : A) → x among l → f x ≡ h x) → some f l ≡ some h l
  unfolding some
  some_same f h [] e = refl
  some_same f h (x ∷ l) e = ap₂ ◌||◌ (e x here) (some_same f h l (λ y m. e y (later m)))

  -- c, then p and f, or q and h at once: the same where the tests agree, and f after c agrees with h on what is kept
  pub map_keep_map : {B C : Type 0} (p : B → Bool) (q : A → Bool) (f : B → C) (h : A → C) (c : A → B) (l : List A)
      → ((x : A) → x among l → (p (c x) ≡ q x) × (q x ≡ true → f (c x) ≡ h x)) → map f (keep p (map c l)) ≡ map h (keep q l)
  unfolding keep
  map_keep_map p q f h c [] e = refl
  map_keep_map p q f h c (x ∷ l) e = go (p (c x)) (q x) (e x here).0 (e x here).1 (map_keep_map p q f h c l (λ y m. e y (later m)))
    where
      go : (a b : Bool) → a ≡ b → (b ≡ true → f (c x) ≡ h x) → map f (keep p (map c l)) ≡ map h (keep q l)
          → map f (cond a (c x ∷ keep p (map c l)) (keep p (map c l))) ≡ map h (cond b (x ∷ keep q l) (keep q l))
      go true true z same ih = ap₂ ◌∷◌ (same refl) ih
      go true false z same ih = absurd (true≢false z)
      go false true z same ih = absurd (true≢false (sym z))
      go false false z same ih = ih

  map_self : (l : List A) → map (λ x. x) l ≡ l
  map_self [] = refl
  map_self (x ∷ l) = ap (λ m. x ∷ m) (map_self l)

  pub map_keep_same : {B : Type 0} (p q : A → Bool) (f h : A → B) (l : List A) → ((x : A) → x among l → (p x ≡ q x) × (f x ≡ h x)) → map f (keep p l) ≡ map h (keep q l)
  map_keep_same p q f h l e =
      ap (λ m. map f (keep p m)) (sym (map_self l)) ∙ map_keep_map p q f h (λ x. x) l (λ x m. ((e x m).0, λ _. (e x m).1))

  pub no_members : (l : List A) → (l ≡ []) ↔ ((x : A) → x among l → ⊥)
  no_members [] = ((λ _ x m. nowhere m), λ _. refl)
  no_members (y ∷ l) = ((λ e x m. nowhere (subst (λ z. x among z) e m)), λ f. absurd (f y here))

  pub dec_member : (l : List A) → Decides ((x : A) × (x among l)) (not (null l))
  dec_member [] = dec_false (λ p. nowhere p.1)
  dec_member (x ∷ l) = dec_true (x, here)

  pub dec_null : (l : List A) → Decides ((x : A) × (x among l) → ⊥) (null l)
  dec_null [] = dec_true (λ p. nowhere p.1)
  dec_null (x ∷ l) = dec_false (λ n. n (x, here))

pub among-map : {A B : Type 0} (f : A → B) {y : B} (l : List A) → y among map f l ↔ ((x : A) × (x among l) × (y ≡ f x))
among-map f [] = ((λ m. absurd (nowhere m)), λ p. absurd (nowhere p.1))
among-map f (x ∷ l) =
    let ih = among-map f l in (
      λ m. ⊎_elim (λ e. (x, here, e)) (λ q. let (z, k, e) = ih.0 q in (z, later k, e)) (first_or_later m),
      λ p. ⊎_elim (λ e. Memᴰ.head (p.2 ∙ ap f e)) (λ k. later (ih.1 (p.0, k, p.2))) (first_or_later p.1),
    )

pub among-flat : {A B : Type 0} (f : A → List B) {y : B} (l : List A) → y among flat f l ↔ ((x : A) × (x among l) × (y among f x))
unfolding flat
among-flat f [] = ((λ m. absurd (nowhere m)), λ p. absurd (nowhere p.1))
among-flat f {y} (x ∷ l) =
    let ih = among-flat f l in (
      λ m. ⊎_elim (λ k. (x, here, k)) (λ q. let (z, k, e) = ih.0 q in (z, later k, e)) ((among-append (f x)).0 m),
      λ p. (among-append (f x)).1
          (⊎_elim (λ e. inl (subst (λ z. y among f z) e p.2)) (λ k. inr (ih.1 (p.0, k, p.2))) (first_or_later p.1)),
    )

pub all_flat : {A B : Type 0} (P : B → Type 0) (f : A → List B) (l : List A) → ((x : A) → x among l → (y : B) → y among f x → P y)
    → (y : B) → y among flat f l → P y
all_flat P f l h y m = let (x, k, o) = (among-flat f l).0 m in h x k y o

pub flat-single : {A : Type 0} (l : List A) → flat (λ x. x ∷ []) l ≡ l
unfolding flat
flat-single [] = refl
flat-single (x ∷ l) = ap (λ m. x ∷ m) (flat-single l)

pub flat_append : {A B : Type 0} (f : A → List B) (l m : List A) → flat f (l ++ m) ≡ flat f l ++ flat f m
unfolding flat
flat_append f [] m = refl
flat_append f (x ∷ l) m = ap (λ z. f x ++ z) (flat_append f l m) ∙ sym (append_assoc (f x) (flat f l) (flat f m))

pub flat_snoc : {A B : Type 0} (f : A → List B) (l : List A) (x : A) → flat f (l ++ x ∷ []) ≡ flat f l ++ f x
unfolding flat
flat_snoc f [] x = append-nil (f x)
flat_snoc f (y ∷ l) x = ap (λ m. f y ++ m) (flat_snoc f l x) ∙ sym (append_assoc (f y) (flat f l) (f x))

-- a fold over one member more
pub foldl_snoc : {A B : Type 0} (f : B → A → B) (b : B) (l : List A) (x : A) → foldl f b (l ++ x ∷ []) ≡ f (foldl f b l) x
foldl_snoc f b [] x = refl
foldl_snoc f b (y ∷ l) x = foldl_snoc f (f b y) l x

pub among-up_to : {x : ℕ} (n : ℕ) → x among up_to n ↔ (x < n)
unfolding up_to
among-up_to zero = ((λ m. absurd (nowhere m)), λ h. absurd (not-suc-le-zero h))
among-up_to (suc n) =
    let ih = among-up_to n in (
      λ m. ⊎_elim (λ q. let h = ih.0 q in omega arith) (λ q. let e = Memᴰ.eq_of_singleton q in omega arith) ((among-append (up_to n)).0 m),
      λ h. (among-append (up_to n)).1 (⊎_elim (λ e. inr (Memᴰ.head e)) (λ l. inl (ih.1 l)) (eq-or-lt_of_le (le_of_suc-le-suc h))),
    )

pub length-up_to : (n : ℕ) → length (up_to n) ≡ n
unfolding up_to
length-up_to zero = refl
length-up_to (suc n) = length-append (up_to n) (n ∷ []) ∙ omega (arith, length-up_to n)

pub get_or-up_to : {A : Type 0} (f : ℕ → A) (d : A) (n i : ℕ) → i < n → get_or (map f (up_to n)) i d ≡ f i
unfolding up_to
get_or-up_to f d zero i h = absurd (not-suc-le-zero h)
get_or-up_to f d (suc n) i h =
    let l = length-map (up_to n) f ∙ length-up_to n in
    rw map-append (⊎_elim
    (λ e. get_or_at (map f (up_to n)) (f n) [] d i (l ∙ sym e) ∙ ap f (sym e))
    (λ m. get_or-append (map f (up_to n)) (f n ∷ []) d i (omega arith) ∙ get_or-up_to f d n i m)
    (eq-or-lt_of_le (le_of_suc-le-suc h)))

-- a list that f gives, number by number
module _ {A : Type 0} (f : ℕ → A) where
  pub map_up_to_suc : (n : ℕ) → map f (up_to (suc n)) ≡ map f (up_to n) ++ f n ∷ []
  unfolding up_to
  map_up_to_suc n = map-append f (up_to n) (n ∷ [])

  pub map_up_to_same : (h : ℕ → A) (n : ℕ) → ((k : ℕ) → k < n → f k ≡ h k) → map f (up_to n) ≡ map h (up_to n)
  map_up_to_same h n e = go (up_to n) (λ k m. e k ((among-up_to n).0 m))
    where
      go : (l : List ℕ) → ((k : ℕ) → k among l → f k ≡ h k) → map f l ≡ map h l
      go [] d = refl
      go (k ∷ l) d = ap₂ ◌∷◌ (d k here) (go l (λ j m. d j (later m)))

  -- for every number below n
  pub dec_each : (t : A → Bool) (n : ℕ) → Decides ((k : ℕ) → k < n → t (f k) ≡ true) (every t (map f (up_to n)))
  dec_each t n =
      dec_iff (
        λ p k h. p (f k) ((among-map f (up_to n)).1 (k, (among-up_to n).1 h, refl)),
        λ p x m. let (k, j, e) = (among-map f (up_to n)).0 m in ap t e ∙ p k ((among-up_to n).0 j),
      ) (dec_every t (λ x. t x ≡ true) (map f (up_to n)) (λ x _. dec_self (t x)))

pub among-down_from : {x : ℕ} (n : ℕ) → x among down_from n ↔ (x < n)
unfolding down_from
among-down_from zero = ((λ m. absurd (nowhere m)), λ h. absurd (not-suc-le-zero h))
among-down_from (suc n) =
    let ih = among-down_from n in (
      λ m. ⊎_elim (λ e. omega arith) (λ q. let h = ih.0 q in omega arith) (first_or_later m),
      λ h. ⊎_elim (λ e. Memᴰ.head e) (λ l. later (ih.1 l)) (eq-or-lt_of_le (le_of_suc-le-suc h)),
    )

-- the numbers below n that pass a test
pub among-kept : (P : ℕ → Type 0) (f : ℕ → Bool) → ((x : ℕ) → Decides (P x) (f x)) → (n : ℕ) {x : ℕ} → x among keep f (up_to n) ↔ ((x < n) × P x)
among-kept P f d n {x} = (
  λ m. let (k, e) = (among-keep f (up_to n)).0 m in ((among-up_to n).0 k, (d x).yes e),
  λ p. (among-keep f (up_to n)).1 ((among-up_to n).1 p.0, is_true (d x) p.1),
)

-- ---- for some number below n
pub dec_any : (P : ℕ → Type 0) (f : ℕ → Bool) (n : ℕ) → ((k : ℕ) → k < n → Decides (P k) (f k)) → Decides ((k : ℕ) × (k < n) × P k) (some f (up_to n))
dec_any P f n d =
    dec_iff (λ p. (p.0, (among-up_to n).0 p.1, p.2), λ p. (p.0, (among-up_to n).1 p.1, p.2))
    (dec_some f P (up_to n) (λ k m. d k ((among-up_to n).0 m)))

-- ---- the same list
pub dec_same : (l m : List ℕ) → Decides (l ≡ m) (same_list l m)
unfolding same_list
dec_same [] [] = dec_true refl
dec_same [] (y ∷ m) = dec_false (λ e. cons≢nil (sym e))
dec_same (x ∷ l) [] = dec_false cons≢nil
dec_same (x ∷ l) (y ∷ m) = dec_iff ((λ p. ap₂ ◌∷◌ p.0 p.1), λ e. (cc, cc)) (dec_and (dec_eq x y) (dec_same l m))
