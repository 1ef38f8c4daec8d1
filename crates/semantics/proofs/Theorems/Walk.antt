-- The walk along any list that enumerates the guesses, larger ones first, meets exactly the views of the world views, in the list's order,
-- and its six numbers are those of the definitions. Assumes nothing.
use Rattle.std.specs.Prelude.{ℕ, suc, ◌+◌, ◌^◌, ◌≤◌, ◌<◌, ◌≡◌, refl, Bool, true, false, ◌&&◌, cond, length}
use Rattle.std.proofs.Math.Path.{sym, ap}
use Rattle.std.proofs.Common.{◌∙◌, subst, inl, ⊎_elim, add-one, arith, length-append}
use Rattle.std.proofs.Math.Bool.{not}
use mathlib.Core.List.{List, [], ◌∷◌, ◌++◌, foldl, map, append-nil, append_assoc, map-append}
use Rattle.sets.specs.Decides.{is_true, dec_one, dec_iff}
use Rattle.sets.specs.Lists.{◌among◌, first_or_later, among-append, among_middle, keep, among-keep, among-map, keep_snoc, only, dec_some, foldl_snoc, among-up_to}
use Rattle.sets.specs.Pairwise.{Pairwise, pairwise_keep, pairwise_suffix, up_to_distinct}
use Rattle.sets.specs.Counting.{as_long}
use Rattle.sets.specs.Sets.{◌⊂◌, Below, ◌⊂?◌, size}
use Rattle.sets.specs.Members.{dec_⊂}
use Rattle.sets.specs.Size.{size-⊂}
use Rattle.semantics.specs.Definitions.Setting.{Setting, k, guesses}
use Rattle.semantics.specs.Definitions.Verdict.{Verdict, empty, other, verified, verdict, is_empty, is_other, is_verified}
use Rattle.semantics.specs.Definitions.Propagation.{contradicted}
use Rattle.semantics.specs.Definitions.Listing.{Tally, is_world_view, covered, ruled, tested, tested_empty, tested_other, tally_of, view_of, views_along}
use Rattle.semantics.specs.Walk.{Walked, start, judged_as, outcome_by, counted_by, views_by, outcome, advance, walk}
use Rattle.semantics.proofs.Theorems.Verdict.{verified_verdict}
use Rattle.semantics.proofs.Theorems.WorldView.{definition_6, dec_covered, tested_is, view-tested}
use Rattle.semantics.specs.Theorems.Order.{Enumerates}
use Rattle.semantics.specs.Theorems.Walk.{tally_by}
use Rattle.semantics.specs.Theorems.Walk as defined

-- ---- the step by tests
abbrev more : Bool → ℕ → ℕ
more b n = cond b (suc n) n

-- one guess more, by whether it is covered, whether it is contradicted, and its verdict
abbrev counted : Tally → (covered contradicted : Bool) → Verdict → Tally
counted t c r v = record {
  views = more (not c && not r && is_verified v) t.views;
  covered = more c t.covered;
  ruled = more (not c && r) t.ruled;
  tested = more (not c && not r) t.tested;
  empty = more (not c && not r && is_empty v) t.empty;
  other = more (not c && not r && is_other v) t.other;
}

by_tests : (t : Tally) (g : ℕ) (c r : Bool) (v : Verdict) → counted_by t (outcome_by g c r v) ≡ counted t c r v
by_tests t g true r v = cc (add-one t.covered)
by_tests t g false true v = cc (add-one t.ruled)
by_tests t g false false empty = cc (add-one t.tested, add-one t.empty)
by_tests t g false false (other found) = cc (add-one t.tested, add-one t.other)
by_tests t g false false (verified known possible sets) = cc (add-one t.tested, add-one t.views)

-- the number of those that pass, with one more at the end
more-kept : (f : ℕ → Bool) (l : List ℕ) (x : ℕ) {b : Bool} → b ≡ f x → more b (length (keep f l)) ≡ length (keep f (l ++ x ∷ []))
more-kept f l x {b} e = go b ∙ sym (rw e (ap length (keep_snoc f l x) ∙ length-append (keep f l) (only (f x) x)))
  where
    go : (c : Bool) → more c (length (keep f l)) ≡ length (keep f l) + length (only c x)
    go true = omega arith
    go false = omega arith

-- the view that it adds is the world view's
views_are : (s : Setting) (g : ℕ) (c r : Bool) → views_by (outcome_by g c r (verdict s g)) ≡ map (view_of s) (only (not c && not r && is_verified (verdict s g)) g)
views_are s g true r = refl
views_are s g false true = refl
views_are s g false false = go (verdict s g) (verified_verdict s g)
  where
    go : (v : Verdict) → (is_verified v ≡ true → v ≡ verified (view_of s g).known (view_of s g).possible (view_of s g).sets)
        → views_by (judged_as g v) ≡ map (view_of s) (only (is_verified v) g)
    go empty e = refl
    go (other found) e = refl
    go (verified known possible sets) e = ap (λ v. views_by (judged_as g v)) (e refl)

-- the walk over one guess more
pub walk_more : (s : Setting) (l : List ℕ) (g : ℕ) → walk s (l ++ g ∷ []) ≡ advance s (walk s l) g
unfolding walk
walk_more s l g = foldl_snoc (advance s) start l g

module _ (s : Setting) where
  -- what the walk is to have after the guesses d
  meant : List ℕ → Walked
  meant d = record { met = views_along s d; tally = tally_by s (λ f. length (keep f d)) }

  -- it sees a view that covers g
  abbrev seen : List ℕ → ℕ → Bool
  seen = defined.seen s

  -- and after one more, where it sees rightly whether that is covered
  module _ (d : List ℕ) (g : ℕ) (l : g < 2 ^ k s) (sees : seen d g ≡ covered s g) where
    sees_tested : not (seen d g) && not (contradicted s g) ≡ tested s g
    sees_tested = ap (λ c. not c && not (contradicted s g)) sees ∙ sym (tested_is s g)

    sees_view : not (seen d g) && not (contradicted s g) && is_verified (verdict s g) ≡ is_world_view s g
    sees_view = ap (λ t. t && is_verified (verdict s g)) sees_tested ∙ sym (view-tested s g l)

    met-more : views_along s d ++ views_by (outcome s (views_along s d) g) ≡ views_along s (d ++ g ∷ [])
    unfolding views_along
    met-more =
        ap (λ vs. views_along s d ++ vs) (views_are s g (seen d g) (contradicted s g) ∙ ap (λ b. map (view_of s) (only b g)) sees_view)
        ∙ sym (ap (map (view_of s)) (keep_snoc (is_world_view s) d g) ∙ map-append (view_of s) (keep (is_world_view s) d) (only (is_world_view s g) g))

    tally-more : counted (meant d).tally (seen d g) (contradicted s g) (verdict s g) ≡ (meant (d ++ g ∷ [])).tally
    unfolding meant
    tally-more i = record {
      views = more-kept (is_world_view s) d g sees_view i;
      covered = more-kept (covered s) d g sees i;
      ruled = more-kept (ruled s) d g (ap (λ c. not c && contradicted s g) sees) i;
      tested = more-kept (tested s) d g sees_tested i;
      empty = more-kept (tested_empty s) d g (ap (λ t. t && is_empty (verdict s g)) sees_tested) i;
      other = more-kept (tested_other s) d g (ap (λ t. t && is_other (verdict s g)) sees_tested) i;
    }

    meant_more : advance s (meant d) g ≡ meant (d ++ g ∷ [])
    unfolding meant
    meant_more =
        let t = by_tests (meant d).tally g (seen d g) (contradicted s g) (verdict s g) ∙ tally-more in
        λ i. record { met = met-more i; tally = t i }

  module _ (l : List ℕ) (en : Enumerates (k s) l) where
    -- a proper superset of g stands before it
    superset_before : (d r : List ℕ) (g h : ℕ) → d ++ g ∷ r ≡ l → h < 2 ^ k s → g ⊂ h → h among d
    superset_before d r g h e lh p =
        let falls = (pairwise_suffix _ d (g ∷ r) (subst (Pairwise (λ x y. size y ≤ size x)) (sym e) en.larger_first)).0 in
        ⊎_elim (λ m. m)
        (λ m. ⊎_elim (λ z. absurd (p.differ (sym z))) (λ n. absurd (omega (arith, falls h n, size-⊂ p))) (first_or_later m))
        ((among-append d).0 (subst (λ z. h among z) (sym e) (en.all h lh)))

    -- so the views met cover g exactly where a world view does
    pub sees_covered : (d r : List ℕ) (g : ℕ) → d ++ g ∷ r ≡ l → seen d g ≡ covered s g
    unfolding views_along
    sees_covered d r g e =
        let is_below : Below (k s) d = λ h m. en.below h (subst (λ z. h among z) e ((among-append d).1 (inl m))) in
        dec_one
        (dec_iff (
          λ q. let (v, m, p) = q in
              let (h, n, z) = (among-map (view_of s) (keep (is_world_view s) d)).0 m in
              let (o, w) = (among-keep (is_world_view s) d).0 n in (h, is_below h o, (subst (λ v. g ⊂ v.guess) z p, (definition_6 s h (is_below h o)).yes w)),
          λ q. let (h, lh, (p, w)) = q in
              (view_of s h, (among-map (view_of s) (keep (is_world_view s) d)).1 (h, (among-keep (is_world_view s) d).1 (superset_before d r g h e lh p, is_true (definition_6 s h lh) w), refl), p),
        ) (dec_some (λ v. g ⊂? v.guess) (λ v. g ⊂ v.guess) (views_along s d) (λ v _. dec_⊂ g v.guess)))
        (dec_covered s g)

    walk_from : (r d rest : List ℕ) → d ++ (r ++ rest) ≡ l → foldl (advance s) (meant d) r ≡ meant (d ++ r)
    walk_from [] d rest e = ap meant (sym (append-nil d))
    walk_from (g ∷ r) d rest e =
        let at : d ++ g ∷ (r ++ rest) ≡ l = e in
        ap (λ x. foldl (advance s) x r) (meant_more d g (en.below g (among_middle d g (r ++ rest) at)) (sees_covered d (r ++ rest) g at))
        ∙ walk_from r (d ++ g ∷ []) rest (append_assoc d (g ∷ []) (r ++ rest) ∙ at) ∙ ap meant (append_assoc d (g ∷ []) r)

    -- on the way, after the guesses d: the views of the world views among them, and as many of each name
    pub walk-part : (d rest : List ℕ) → d ++ rest ≡ l → walk s d ≡ record { met = views_along s d; tally = tally_by s (λ f. length (keep f d)) }
    unfolding walk meant views_along keep
    walk-part d rest e = walk_from d [] rest e

    -- as many along the list as among all guesses
    pub count_along : (f : ℕ → Bool) → length (keep f l) ≡ length (keep f (guesses s))
    count_along f =
        as_long (keep f l) (keep f (guesses s)) (pairwise_keep _ f l en.once) (pairwise_keep _ f (guesses s) (up_to_distinct (2 ^ k s))) (λ g. (
          λ m. let (n, e) = (among-keep f l).0 m in (among-keep f (guesses s)).1 ((among-up_to (2 ^ k s)).1 (en.below g n), e),
          λ m. let (n, e) = (among-keep f (guesses s)).0 m in (among-keep f l).1 (en.all g ((among-up_to (2 ^ k s)).0 n), e),
        ))

    pub walk_is : walk s l ≡ record { met = views_along s l; tally = tally_of s }
    unfolding walk meant tally_of views_along keep
    walk_is = walk_from l [] [] (append-nil l) ∙ λ i. record { met = views_along s l; tally = tally_by s (λ f. count_along f i) }
