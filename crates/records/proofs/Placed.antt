-- Records in words: one written into its own part of a buffer, and the views that then stand there. Assumes nothing.
use Prim.Native.Nat.{ℕ, suc, ◌+◌, ◌*◌, ◌-◌, ◌≤◌, ◌<◌}
use mathlib.Core.Path.{◌≡◌, refl, sym, ap, ap₂, subst, ◌∙◌}
use mathlib.Core.Bool.{Bool, true, false, true≢false}
use mathlib.Core.List.{List, [], ◌∷◌, ◌++◌, append-nil, append_assoc}
use native.Mathlib.Numerals.{add-one}
use native.Mathlib.Omega.{arith}
use lib.ListN.{length, get_or, take, drop, length-append, length-drop, get_or-append, drop_of_length-le}
use lib.Seq.{length-take-le, take_all, take_at, drop-append-add, get_or-append-add, get_or-take, drop-drop}
use Rattle.std.specs.Bool.{MatchBool}
use Rattle.std.specs.List.{AllWithin, HoldsAt, range_with_len}
use Rattle.std.proofs.lemmas.List.FromFn.{get_or-range_with_len, length-range_with_len}
use Rattle.sets.specs.Decides.{Decides, is_true, is_false, dec_iff, dec_self}
use Rattle.sets.specs.Lists.{every, some, flat, flat_snoc, up_to, map_up_to_suc, map_up_to_same, among-map, among-up_to, dec_every, dec_some}
use Rattle.sets.specs.Sets.{◌⊂?◌}
use Rattle.semantics.specs.Definitions.Returned.{written}
use Rattle.semantics.specs.Definitions.Listing.{View, record_of, words}
use Rattle.records.specs.Records.{view_in, views_in}

-- ---- a buffer, once the words ws are written to the front of its part from a place on
abbrev pub placed : (at : ℕ) (ws buffer : List ℕ) → List ℕ
placed at ws buffer = take at buffer ++ (ws ++ drop (at + length ws) buffer)

-- the part lent, and given back
module _ (at : ℕ) (buffer : List ℕ) where
  abbrev pub part : List ℕ
  part = take (length buffer - at) (drop at buffer)

  whole : part ≡ drop at buffer
  whole = take_all (length buffer - at) (drop at buffer) (omega (arith, length-drop at buffer))

  pub part-written : (ws : List ℕ) {after : List ℕ} → after ≡ written ws part → take at buffer ++ (after ++ drop (length buffer - at) (drop at buffer)) ≡ placed at ws buffer
  part-written ws {after} e =
      let none : drop (length buffer - at) (drop at buffer) ≡ [] = drop_of_length-le (drop at buffer) {i = length buffer - at} (omega (arith, length-drop at buffer)) in
      let front : after ≡ ws ++ drop (at + length ws) buffer = e ∙ ap (written ws) whole ∙ ap (λ z. ws ++ z) (drop-drop (length ws) at buffer) in
      ap (λ z. take at buffer ++ z) (ap₂ ◌++◌ front none ∙ append-nil _)

  pub placed_long : (ws : List ℕ) → at + length ws ≤ length buffer → length (placed at ws buffer) ≡ length buffer
  placed_long ws h =
      let l = length-append (take at buffer) (ws ++ drop (at + length ws) buffer) in
      let m = length-append ws (drop (at + length ws) buffer) in
      omega (arith, l, m, length-take-le at buffer (omega arith), length-drop (at + length ws) buffer)

-- the record of a view that is known to be another
pub record_written : (at : ℕ) (buffer : List ℕ) {v w : View} {after : List ℕ} → v ≡ w → after ≡ written (record_of v) (part at buffer)
    → take at buffer ++ (after ++ drop (length buffer - at) (drop at buffer)) ≡ placed at (record_of w) buffer
record_written at buffer {v} {w} e d = part-written at buffer (record_of v) d ∙ ap (λ z. placed at (record_of z) buffer) e

-- ---- views as words
-- one view more at the front of a buffer
pub word_more : (vs : List View) (v : View) (buffer : List ℕ) (at : ℕ) → length (words vs) ≡ at
    → placed at (record_of v) (written (words vs) buffer) ≡ written (words (vs ++ v ∷ [])) buffer
word_more vs v buffer at e =
    ap₂ (λ x y. x ++ (record_of v ++ y)) (take_at (words vs) (drop (length (words vs)) buffer) at e) rest
    ∙ sym (append_assoc (words vs) (record_of v) _) ∙ sym (ap (λ z. written z buffer) (flat_snoc record_of vs v))
  where
    long : length (words vs ++ record_of v) ≡ length (words vs) + 4
    long = length-append (words vs) (record_of v)

    rest : drop (at + 4) (written (words vs) buffer) ≡ drop (length (words vs ++ record_of v)) buffer
    rest =
        ap (λ n. drop (n + 4) (written (words vs) buffer)) (sym e) ∙ drop-append-add (words vs) (drop (length (words vs)) buffer) 4
        ∙ drop-drop 4 (length (words vs)) buffer ∙ ap (λ n. drop n buffer) (sym long)

-- ---- the views that stand as records
pub no_words : (ws buffer : List ℕ) → buffer ≡ written (words (views_in ws 0)) buffer
unfolding flat views_in up_to
no_words ws buffer = refl

pub views_suc : (ws : List ℕ) (n : ℕ) → views_in ws (suc n) ≡ views_in ws n ++ view_in ws n ∷ []
unfolding views_in
views_suc ws n = map_up_to_suc (view_in ws) n

-- record n is written
pub views_more : (ws : List ℕ) (n : ℕ) (v : View) → 4 * n ≤ length ws → views_in (placed (4 * n) (record_of v) ws) (n + 1) ≡ views_in ws n ++ v ∷ []
unfolding views_in
views_more ws n v h = ap (views_in after) (add-one n) ∙ views_suc after n ∙ ap₂ (λ x y. x ++ y ∷ []) before here
  where
    after : List ℕ
    after = placed (4 * n) (record_of v) ws

    long : length (take (4 * n) ws) ≡ 4 * n
    long = length-take-le (4 * n) ws h

    word : (i : ℕ) → i < 4 * n → get_or after i 0 ≡ get_or ws i 0
    word i l = get_or-append (take (4 * n) ws) _ 0 i (omega (arith, long)) ∙ get_or-take (4 * n) ws i 0 l

    before : views_in after n ≡ views_in ws n
    before =
        map_up_to_same (view_in after) (view_in ws) n
        (λ j l. cc (word (4 * j) (omega arith), word (4 * j + 1) (omega arith), word (4 * j + 2) (omega arith), word (4 * j + 3) (omega arith)))

    at_end : (i : ℕ) → get_or after (4 * n + i) 0 ≡ get_or (record_of v ++ drop (4 * n + 4) ws) i 0
    at_end i = ap (λ m. get_or after (m + i) 0) (sym long) ∙ get_or-append-add (take (4 * n) ws) (record_of v ++ drop (4 * n + 4) ws) i 0

    first : get_or after (4 * n) 0 ≡ v.guess
    first = ap (λ m. get_or after m 0) (omega arith) ∙ at_end 0

    here : view_in after n ≡ v
    here i = record { guess = first i; known = at_end 1 i; possible = at_end 2 i; sets = at_end 3 i }

-- a test of every view: by the records
pub dec_views : (f : View → Bool) (ws : List ℕ) (n : ℕ) → Decides ((i : ℕ) → i < n → f (view_in ws i) ≡ true) (every f (views_in ws n))
unfolding views_in
dec_views f ws n =
    dec_iff (
      λ h i l. h (view_in ws i) ((among-map (view_in ws) (up_to n)).1 (i, (among-up_to n).1 l, refl)),
      λ h v m. let (i, k, e) = (among-map (view_in ws) (up_to n)).0 m in ap f e ∙ h i ((among-up_to n).0 k),
    ) (dec_every f (λ v. f v ≡ true) (views_in ws n) (λ v _. dec_self (f v)))

-- "proper subset of a world view's guess": by the records
pub dec_covers : (ws : List ℕ) (n g : ℕ) → Decides ((i : ℕ) × (i < n) × ((g ⊂? get_or ws (4 * i) 0) ≡ true)) (some (λ v. g ⊂? v.guess) (views_in ws n))
unfolding views_in
dec_covers ws n g =
    dec_iff (
      λ p. let (v, m, t) = p in
          let (i, k, e) = (among-map (view_in ws) (up_to n)).0 m in (i, (among-up_to n).0 k, ap (λ z. g ⊂? z.guess) (sym e) ∙ t),
      λ p. let (i, l, t) = p in (view_in ws i, (among-map (view_in ws) (up_to n)).1 (i, (among-up_to n).1 l, refl), t),
    ) (dec_some (λ v. g ⊂? v.guess) (λ v. (g ⊂? v.guess) ≡ true) (views_in ws n) (λ v _. dec_self (g ⊂? v.guess)))

number_at : (n i : ℕ) → i < n → get_or (range_with_len 0 n) i 0 ≡ i
number_at n i l = get_or-range_with_len 0 n i 0 l ∙ omega arith

-- the same of a test of the numbers below n: what it found, one after another
pub every_by_numbers : (f : View → Bool) (ws : List ℕ) (n : ℕ) (r : Bool)
    → MatchBool r (AllWithin (λ j. f (view_in ws j) ≡ true) (range_with_len 0 n) 0 (length (range_with_len 0 n)))
    ((k : ℕ) × (k < length (range_with_len 0 n)) × HoldsAt (λ j. f (view_in ws j) ≡ false) (range_with_len 0 n) k)
    → r ≡ every f (views_in ws n)
every_by_numbers f ws n true h =
    sym (is_true (dec_views f ws n)
    (λ i l. subst (λ j. f (view_in ws j) ≡ true) (number_at n i l) (h i 0 (omega arith) (omega (arith, l, length-range_with_len 0 n)))))
every_by_numbers f ws n false (k, l, h) =
    let inside : k < n = omega (arith, l, length-range_with_len 0 n) in
    sym (is_false (dec_views f ws n) (λ all. true≢false (sym (all k inside) ∙ subst (λ j. f (view_in ws j) ≡ false) (number_at n k inside) (h 0))))
