-- A step of the walk, by what the guess counts as. Assumes nothing.
use Prim.Native.Nat.{ℕ, ◌+◌, ◌*◌, ◌≤◌}
use mathlib.Core.Path.{◌≡◌, sym, ap, ◌∙◌}
use mathlib.Core.Bool.{true, false}
use mathlib.Core.List.{List, [], ◌++◌, append-nil}
use native.Mathlib.Omega.{arith}
use lib.ListN.{length, take, drop, take-append-drop}
use Rattle.sets.specs.Lists.{some, flat}
use Rattle.sets.specs.Sets.{◌⊂?◌}
use Rattle.semantics.specs.Definitions.Setting.{Setting}
use Rattle.semantics.specs.Definitions.Listing.{Tally, View, words}
use Rattle.semantics.specs.Walk.{Outcome, Covered, Ruled, Empty, Other, IsView, counted_by, views_by, outcome, advance}
use Rattle.answers.specs.declared.tally.Tally.{Tally as Counts}
use Rattle.records.specs.Records.{views_in}
use Rattle.semantics.specs.Theorems.Tally.{AtMost}
use Rattle.records.specs.Outcomes.{tally_from, ExaminedAs}
use Rattle.listing.specs.Walks.{walked_in}
use Rattle.records.proofs.Placed.{placed, views_more}

-- no count grows by more than one
pub one_at_most : (t : Tally) (n : ℕ) (o : Outcome) → AtMost t n → AtMost (counted_by t o) (n + 1)
one_at_most t n Covered h = omega arith
one_at_most t n Ruled h = omega arith
one_at_most t n Empty h = omega arith
one_at_most t n Other h = omega arith
one_at_most t n (IsView v) h = omega arith

-- ---- what a guess counts as: by the views met, or else as it is examined
module _ (s : Setting) (met : List View) (g : ℕ) where
  pub covered_as : some (λ v. g ⊂? v.guess) met ≡ true → Covered ≡ outcome s met g
  covered_as e = rw e

  pub examined_as : some (λ v. g ⊂? v.guess) met ≡ false → {o : Outcome} → ExaminedAs s g o → o ≡ outcome s met g
  examined_as e d = d ∙ rw e

-- ---- the records, once what a guess adds is noted
abbrev noted : (at : ℕ) → Outcome → List ℕ → List ℕ
noted at o ws = placed at (words (views_by o)) ws

nothing : (at : ℕ) (ws : List ℕ) → placed at [] ws ≡ ws
nothing at ws =
    let e : at + 0 ≡ at = omega arith in
    ap (λ n. take at ws ++ drop n ws) e ∙ take-append-drop at ws

-- of one that is no view nothing is noted
pub none-noted : (at : ℕ) (o : Outcome) (ws : List ℕ) → views_by o ≡ [] → ws ≡ noted at o ws
unfolding flat
none-noted at o ws e = sym (ap (λ vs. placed at (words vs) ws) e ∙ nothing at ws)

-- at most one record
pub words_few : (o : Outcome) → length (words (views_by o)) ≤ 4
unfolding flat
words_few Covered = omega arith
words_few Ruled = omega arith
words_few Empty = omega arith
words_few Other = omega arith
words_few (IsView v) = omega arith

views_noted : (ws : List ℕ) (t : Tally) (o : Outcome) → 4 * t.views ≤ length ws
    → views_in (noted (4 * t.views) o ws) (counted_by t o).views ≡ views_in ws t.views ++ views_by o
unfolding flat
views_noted ws t Covered h = ap (λ z. views_in z t.views) (nothing (4 * t.views) ws) ∙ sym (append-nil _)
views_noted ws t Ruled h = ap (λ z. views_in z t.views) (nothing (4 * t.views) ws) ∙ sym (append-nil _)
views_noted ws t Empty h = ap (λ z. views_in z t.views) (nothing (4 * t.views) ws) ∙ sym (append-nil _)
views_noted ws t Other h = ap (λ z. views_in z t.views) (nothing (4 * t.views) ws) ∙ sym (append-nil _)
views_noted ws t (IsView v) h = views_more ws t.views v h

-- ---- the whole step: the counts r and the records `after`, by what g counts as
pub advanced : (s : Setting) (t r : Counts) (ws after : List ℕ) (g : ℕ) (o : Outcome) → 4 * t.views ≤ length ws
    → o ≡ outcome s (views_in ws t.views) g → tally_from r ≡ counted_by (tally_from t) o → after ≡ noted (4 * t.views) o ws
    → walked_in r after ≡ advance s (walked_in t ws) g
advanced s t r ws after g o h told counts-are records_are =
    ap (λ n. record { met = views_in after n.views; tally = n }) counts-are
    ∙ ap (λ z. record { met = z; tally = counted_by (tally_from t) o }) (ap (λ z. views_in z (counted_by (tally_from t) o).views) records_are ∙ views_noted ws (tally_from t) o h)
    ∙ ap (λ q. record { met = views_in ws t.views ++ views_by q; tally = counted_by (tally_from t) q }) told
