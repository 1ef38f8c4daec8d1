-- The records of a listing, as they stand in a buffer: one for each world view and no other, in the order. Assumes nothing.
use Rattle.std.specs.Prelude.{ℕ, zero, suc, ◌*◌, ◌^◌, ◌<◌, ◌≡◌, refl, List, [], ◌∷◌, ◌++◌, length, get_or, take, drop}
use Rattle.std.proofs.Common.{sym, ap, ◌∙◌, subst, ⊎_elim, arith, le_of_suc-le-suc, not-suc-le-zero}
use Rattle.sets.specs.Decides.{decided, dec_eq, dec_le}
use Rattle.sets.specs.Lists.{flat, get_or-among, among_place, no_members}
use Rattle.sets.specs.Pairwise.{pairwise_places}
use Rattle.semantics.specs.Definitions.Setting.{Setting, k}
use Rattle.semantics.specs.Definitions.Listing.{View, view_of, record_of, words}
use Rattle.semantics.proofs.Theorems.Verdict.{verified_means}
use Rattle.semantics.specs.Theorems.Order.{Before}
use Rattle.semantics.specs.Theorems.Listing.{ViewsOf}
use Rattle.semantics.proofs.Theorems.Listing.{view-verdict, gets_one}
use Rattle.semantics.specs.Theorems.Records.{record_at, guess_at, RecordsOf}

-- the guess of a record is its first word
first_word : (buffer : List ℕ) (m : ℕ) → get_or (take 4 (drop m buffer)) 0 0 ≡ get_or buffer m 0
first_word [] zero = refl
first_word [] (suc m) = refl
first_word (w ∷ buffer) zero = refl
first_word (w ∷ buffer) (suc m) = first_word buffer m

pub guess_below : {s : Setting} {n : ℕ} {buffer : List ℕ} → RecordsOf s n buffer → (i : ℕ) → i < n → guess_at buffer i < 2 ^ k s
guess_below {s} {n} {buffer} o i h =
    let (g, _, _, _, l, _, _, e) = o.four-words i h in
    subst (λ z. z < 2 ^ k s) (sym (ap (λ r. get_or r 0 0) e) ∙ first_word buffer (4 * i)) l

pub none : View
none = record { guess = 0; known = 0; possible = 0; sets = 0 }

-- the words of so many views
next : (i : ℕ) → 4 * suc i ≡ suc (suc (suc (suc (4 * i))))
next i = omega arith

pub words_long : (vs : List View) → length (words vs) ≡ 4 * length vs
unfolding flat
words_long [] = refl
words_long (v ∷ vs) = omega (arith, words_long vs)

pub record_at_lem : (vs : List View) (rest : List ℕ) (i : ℕ) → i < length vs → record_at (words vs ++ rest) i ≡ record_of (get_or vs i none)
unfolding flat
record_at_lem [] rest i h = absurd (not-suc-le-zero h)
record_at_lem (v ∷ vs) rest zero h = refl
record_at_lem (v ∷ vs) rest (suc i) h = ap (λ m. take 4 (drop m (words (v ∷ vs) ++ rest))) (next i) ∙ record_at_lem vs rest i (le_of_suc-le-suc h)

pub guess_at_lem : (vs : List View) (rest : List ℕ) (i : ℕ) → i < length vs → guess_at (words vs ++ rest) i ≡ (get_or vs i none).guess
unfolding flat
guess_at_lem [] rest i h = absurd (not-suc-le-zero h)
guess_at_lem (v ∷ vs) rest zero h = refl
guess_at_lem (v ∷ vs) rest (suc i) h = ap (λ m. get_or (words (v ∷ vs) ++ rest) m 0) (next i) ∙ guess_at_lem vs rest i (le_of_suc-le-suc h)

module _ (s : Setting) (vs : List View) (o : ViewsOf s vs) (rest : List ℕ) where
  abbrev buffer : List ℕ
  buffer = words vs ++ rest

  before : (i j : ℕ) → i < j → j < length vs → Before (guess_at buffer i) (guess_at buffer j)
  before i j h l =
      rw (guess_at_lem vs rest i (omega arith), guess_at_lem vs rest j l) (pairwise_places (λ v w. Before v.guess w.guess) vs none o.ordered i j h l)

  apart : (i j : ℕ) → i < j → j < length vs → guess_at buffer i ≡ guess_at buffer j → ⊥
  apart i j h l e =
      pairwise_places (λ v w. v.guess ≡ w.guess → ⊥) vs none o.once i j h l
      (sym (guess_at_lem vs rest i (omega arith)) ∙ e ∙ guess_at_lem vs rest j l)

  pub of_records : RecordsOf s (length vs) buffer
  of_records = record {
    one_exactly = λ g l. (
      λ p. let (i, h, e) = p in (gets_one s vs o g l).0 (get_or vs i none, get_or-among vs none i h, sym (guess_at_lem vs rest i h) ∙ e),
      λ w. let (v, m, e) = (gets_one s vs o g l).1 w in
          let (i, h, d) = among_place vs none m in (i, h, guess_at_lem vs rest i h ∙ ap (λ z. z.guess) d ∙ e),
    );
    never_twice = λ i j h l e.
        ⊎_elim (λ p. p)
        (λ n. ⊎_elim (λ p. absurd (apart i j p l e)) (λ p. absurd (apart j i (omega arith) h (sym e))) (decided (dec_le (suc i) j)))
        (decided (dec_eq i j));
    four-words = λ i h.
        let (g, l, w, e) = o.exactly.0 (get_or-among vs none i h) in
        let v = view_of s g in
        (g, v.known, v.possible, v.sets, l, w, verified_means s g l (view-verdict s g l w), record_at_lem vs rest i h ∙ ap record_of e);
    in_order = before;
    none_exactly = (
      λ e. o.none_exactly.0 ((no_members vs).1 (λ v m. let (i, h, _) = among_place vs none m in absurd (omega arith))),
      λ f. ap length (o.none_exactly.1 f),
    );
  }
