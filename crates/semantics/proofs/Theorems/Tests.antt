-- The tests of a listing, on its way along any list that enumerates the guesses, larger ones first: once the guesses d are passed, and the next
-- one would be tested or none is left, what was met is what the first tests meet. Assumes nothing.
use Rattle.std.specs.Prelude.{ℕ, ◌≤◌, ◌≡◌, refl, Bool, true, false, not, ◌&&◌, List, [], ◌∷◌, ◌++◌, map, length, take, drop}
use Rattle.std.proofs.Common.{sym, ap, ◌∙◌, subst, append-nil, inl, drop_of_length-le, take_all, take_at, drop_at}
use Rattle.sets.specs.Lists.{◌among◌, null, some, keep, keep_cons, keep_append, keep-keep, among-append, map_keep_same}
use Rattle.sets.specs.Sets.{Below, ◌⊂?◌}
use Rattle.semantics.specs.Definitions.Setting.{Setting, k}
use Rattle.semantics.specs.Definitions.Verdict.{verdict, is_verified}
use Rattle.semantics.specs.Definitions.Propagation.{contradicted}
use Rattle.semantics.specs.Definitions.Listing.{is_world_view, tested, view_of, views_along}
use Rattle.semantics.specs.Walk.{Walked, walk}
use Rattle.semantics.proofs.Theorems.WorldView.{tested_is, view-tested}
use Rattle.semantics.specs.Theorems.Order.{Enumerates}
use Rattle.semantics.proofs.Theorems.Walk.{sees_covered, walk-part}
use Rattle.semantics.specs.Theorems.Tests.{StandsAt}

-- world views are tested
tested_too : (w t v : Bool) → w ≡ t && v → w ≡ w && t
tested_too true true v e = refl
tested_too true false v e = e
tested_too false t v e = refl

pub views_tested : (s : Setting) (d : List ℕ) → Below (k s) d → views_along s d ≡ views_along s (keep (tested s) d)
unfolding views_along
views_tested s d below =
    map_keep_same (is_world_view s) (λ g. is_world_view s g && tested s g) (view_of s) (view_of s) d
    (λ g m. (tested_too (is_world_view s g) (tested s g) (is_verified (verdict s g)) (view-tested s g (below g m)), refl))
    ∙ ap (λ gs. map (view_of s) gs) (sym (keep-keep (is_world_view s) (tested s) d))

module _ (s : Setting) (l : List ℕ) (en : Enumerates (k s) l) (d rest : List ℕ) (parts : d ++ rest ≡ l) {w : Walked} (e : w ≡ walk s d) where
  walked_tests : w.tally.tested ≡ length (keep (tested s) d)
  walked_tests = ap (λ z. z.tally.tested) (e ∙ walk-part s l en d rest parts)

  walked-met : w.met ≡ views_along s (keep (tested s) d)
  walked-met =
      ap (λ z. z.met) (e ∙ walk-part s l en d rest parts)
      ∙ views_tested s d (λ g m. en.below g (subst (λ z. g among z) parts ((among-append d).1 (inl m))))

  -- no guess is left
  pub stands_end : {n : ℕ} → rest ≡ [] → w.tally.tested ≤ n → StandsAt s l n w.tally.tested w.met false
  stands_end {n} none few =
      let whole : d ≡ l = sym (append-nil d) ∙ ap (λ z. d ++ z) (sym none) ∙ parts in
      let same : keep (tested s) d ≡ keep (tested s) l = ap (keep (tested s)) whole in
      let enough : length (keep (tested s) l) ≤ n = subst (λ m. m ≤ n) (walked_tests ∙ ap length same) few in
      let all = take_all n (keep (tested s) l) enough in
      record {
        tests_are = walked_tests ∙ ap length (same ∙ sym all);
        met_are = walked-met ∙ ap (views_along s) (same ∙ sym all);
        waits_where = ap (λ z. not (null z)) (sym (drop_of_length-le (keep (tested s) l) enough));
      }

  -- the next guess, g, would be tested, and n tests are spent
  pub stands_waiting : {n : ℕ} (g : ℕ) (r : List ℕ) → rest ≡ g ∷ r → w.tally.tested ≡ n → some (λ v. g ⊂? v.guess) w.met ≡ false → contradicted s g ≡ false
      → StandsAt s l n w.tally.tested w.met true
  stands_waiting {n} g r next spent uncovered free =
      let at : d ++ g ∷ r ≡ l = ap (λ z. d ++ z) (sym next) ∙ parts in
      let met : w.met ≡ views_along s d = ap (λ z. z.met) (e ∙ walk-part s l en d rest parts) in
      let is-tested : tested s g ≡ true = tested_is s g
      ∙ rw (sym (sees_covered s l en d r g at) ∙ ap (some (λ v. g ⊂? v.guess)) (sym met) ∙ uncovered, free) refl in
      let split : keep (tested s) l ≡ keep (tested s) d ++ g ∷ keep (tested s) r = ap (keep (tested s)) (sym at) ∙ keep_append (tested s) d (g ∷ r)
      ∙ ap (λ z. keep (tested s) d ++ z) (keep_cons (tested s) g r ∙ rw is-tested refl) in
      let first = ap (take n) split ∙ take_at (keep (tested s) d) (g ∷ keep (tested s) r) n (sym walked_tests ∙ spent) in
      let last = ap (drop n) split ∙ drop_at (keep (tested s) d) (g ∷ keep (tested s) r) n (sym walked_tests ∙ spent) in
      record {
        tests_are = walked_tests ∙ ap length (sym first);
        met_are = walked-met ∙ ap (views_along s) (sym first);
        waits_where = ap (λ z. not (null z)) (sym last);
      }
