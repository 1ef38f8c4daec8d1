-- Levels: guesses of one size. The views that a walk meets along guesses of falling size stand level by level. Assumes nothing.
use Prim.Native.Nat.{ℕ, ◌*◌, ◌≤◌, ◌<◌}
use mathlib.Core.Path.{◌≡◌, sym, ap, subst}
use mathlib.Core.Bool.{Bool, true, false}
use mathlib.Core.List.Memᴰ
use mathlib.Core.List.{List, [], ◌∷◌, ◌++◌, append-nil, foldl}
use mathlib.Core.Logic.{◌⊎◌, inl, inr, ⊎_elim}
use native.Mathlib.Omega.{arith}
use lib.ListN.{get_or}
use Rattle.sets.specs.Lists.{◌among◌, here, later, nowhere, among-append, some, get_or-up_to}
use Rattle.sets.specs.Pairwise.{Pairwise, pairwise_snoc, pairwise_prefix, pairwise_places}
use Rattle.sets.specs.Sets.{◌⊂?◌, size}
use Rattle.semantics.specs.Definitions.Setting.{Setting}
use Rattle.semantics.specs.Definitions.Verdict.{Verdict, empty, other, verified, verdict}
use Rattle.semantics.specs.Definitions.Propagation.{contradicted}
use Rattle.semantics.specs.Definitions.Order.{members_below}
use Rattle.semantics.specs.Definitions.Listing.{View}
use Rattle.semantics.specs.Walk.{Walked, start, outcome_by, views_by, advance, walk}
use Rattle.semantics.specs.Theorems.Order.{Enumerates}
use Rattle.answers.specs.declared.tally.Tally.{Tally as Counts}
use Rattle.listing.specs.Walks.{walked_in}
use Rattle.records.specs.Records.{view_in, views_in, views_in_long, LargerFirst}
use Rattle.listing.proofs.Along.{passed, passed_begin}

-- ---- the views met
abbrev Falling : List View → Type 0
Falling = Pairwise (λ v w. size w.guess ≤ size v.guess)

-- what a guess adds is its own view
added : (met : List View) (g : ℕ) (c r : Bool) (v : Verdict) {w : View} → w among (met ++ views_by (outcome_by g c r v)) → (w among met) ⊎ (w.guess ≡ g)
added met g c r v m = ⊎_elim inl (λ n. inr (own c r v n)) ((among-append met).0 m)
  where
    own : (c r : Bool) (v : Verdict) {w : View} → w among views_by (outcome_by g c r v) → w.guess ≡ g
    own true r v n = absurd (nowhere n)
    own false true v n = absurd (nowhere n)
    own false false empty n = absurd (nowhere n)
    own false false (other found) n = absurd (nowhere n)
    own false false (verified known possible sets) n = ap (λ z. z.guess) (Memᴰ.eq_of_singleton n)

still_falling : (met : List View) (g : ℕ) (c r : Bool) (v : Verdict) → Falling met → ((w : View) → w among met → size g ≤ size w.guess)
    → Falling (met ++ views_by (outcome_by g c r v))
still_falling met g true r v p h = subst Falling (sym (append-nil met)) p
still_falling met g false true v p h = subst Falling (sym (append-nil met)) p
still_falling met g false false empty p h = subst Falling (sym (append-nil met)) p
still_falling met g false false (other found) p h = subst Falling (sym (append-nil met)) p
still_falling met g false false (verified known possible sets) p h = pairwise_snoc _ met _ p h

module _ (s : Setting) where
  falling_from : (l : List ℕ) (w : Walked) → Falling w.met → ((v : View) → v among w.met → (g : ℕ) → g among l → size g ≤ size v.guess)
      → Pairwise (λ g h. size h ≤ size g) l → Falling (foldl (advance s) w l).met
  falling_from [] w p q f = p
  falling_from (g ∷ l) w p q f =
      falling_from l (advance s w g)
      (still_falling w.met g (some (λ v. g ⊂? v.guess) w.met) (contradicted s g) (verdict s g) p (λ v m. q v m g here))
      (λ v m h n.
      ⊎_elim (λ a. q v a h (later n)) (λ e. subst (λ z. size h ≤ size z) (sym e) (f.0 h n))
      (added w.met g (some (λ v. g ⊂? v.guess) w.met) (contradicted s g) (verdict s g) m))
      f.1

  walk_falling : (l : List ℕ) → Pairwise (λ g h. size h ≤ size g) l → Falling (walk s l).met
  unfolding walk
  walk_falling l f = falling_from l start tt (λ v m. absurd (nowhere m)) f

-- ---- the records
records_falling : (ws : List ℕ) (n : ℕ) → Falling (views_in ws n) → LargerFirst ws n
unfolding views_in
records_falling ws n p i j h l =
    let d = view_in ws 0 in
    let size-at : (m : ℕ) → m < n → size (get_or (views_in ws n) m d).guess ≡ size (get_or ws (4 * m) 0) = λ m q. ap (λ v. size v.guess) (get_or-up_to (view_in ws) d n m q) in
    let r : size (get_or (views_in ws n) j d).guess ≤ size (get_or (views_in ws n) i d).guess = pairwise_places _ (views_in ws n) d p i j h (omega (arith, l, views_in_long ws n)) in
    omega (arith, r, size-at i (omega arith), size-at j l)

-- after i entries of a list
pub along_levels : (s : Setting) (n : ℕ) (l : List ℕ) → Enumerates n (members_below n l) → (i : ℕ) (t : Counts) (ws : List ℕ)
    → walked_in t ws ≡ walk s (passed n l i) → LargerFirst ws t.views
along_levels s n l en i t ws e =
    let falls = subst (Pairwise (λ g h. size h ≤ size g)) (passed_begin n l i) en.larger_first in
    records_falling ws t.views (subst Falling (sym (ap (λ z. z.met) e)) (walk_falling s (passed n l i) (pairwise_prefix _ (passed n l i) _ falls)))
