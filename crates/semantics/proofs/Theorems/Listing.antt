-- The list of views: one for each world view and no other, larger guesses first; none exactly when no guess is verified. Assumes nothing.
use Rattle.std.specs.Prelude.{ℕ, ◌^◌, ◌≤◌, ◌<◌, ◌≡◌, refl, List, [], ◌↔◌, length}
use Rattle.std.proofs.Common.{sym, ap, ◌∙◌, subst}
use Rattle.std.proofs.Math.ListN.{length-map}
use Rattle.sets.specs.Decides.{is_true}
use Rattle.sets.specs.Lists.{◌among◌, keep, among-keep, among-map, no_members}
use Rattle.sets.specs.Pairwise.{Pairwise, pairwise_keep, pairwise_mapped}
use Rattle.sets.specs.Sets.{size}
use Rattle.semantics.specs.Definitions.Setting.{Setting, k}
use Rattle.semantics.specs.Definitions.Verdict.{verified, verdict}
use Rattle.semantics.specs.Definitions.Order.{order}
use Rattle.semantics.specs.Definitions.Listing.{is_world_view, tally_of, View, view_of, views_along, listing}
use Rattle.semantics.proofs.Theorems.Verdict.{definition_5, verified_verdict}
use Rattle.semantics.specs.Theorems.WorldView.{WorldView, NoneVerifiable}
use Rattle.semantics.proofs.Theorems.WorldView.{definition_6, maximal_superset}
use Rattle.semantics.specs.Theorems.Tally.{Number}
use Rattle.semantics.proofs.Theorems.Tally.{number_only, is_tally}
use Rattle.semantics.specs.Theorems.Order.{Before, Enumerates}
use Rattle.semantics.proofs.Theorems.Order.{order_sorted, order_enumerates}
use Rattle.semantics.proofs.Theorems.Walk.{count_along}
use Rattle.semantics.specs.Theorems.Listing.{ViewsOf}

module _ (s : Setting) where
  -- "Known, possible and number of sets are those of the verdict on that guess"
  pub view-verdict : (g : ℕ) → g < 2 ^ k s → WorldView s g → verdict s g ≡ verified (view_of s g).known (view_of s g).possible (view_of s g).sets
  view-verdict g l w = verified_verdict s g (is_true (definition_5 s g l) w.verifiable)

  -- what relates the guesses of a list relates its views
  views_pairwise : (R : ℕ → ℕ → Type 0) (l : List ℕ) → Pairwise R l → Pairwise (λ v w. R v.guess w.guess) (views_along s l)
  unfolding views_along
  views_pairwise R l p = pairwise_mapped _ (view_of s) (keep (is_world_view s) l) (pairwise_keep R (is_world_view s) l p)

  -- in the order itself: size falling, then number rising
  pub listing_sorted : Pairwise (λ v w. Before v.guess w.guess) (listing s)
  listing_sorted = views_pairwise Before (order (k s)) (order_sorted (k s))

  module _ (l : List ℕ) (en : Enumerates (k s) l) where
    -- one for each world view and no other
    pub among_views : {v : View} → v among views_along s l ↔ ((g : ℕ) × (g < 2 ^ k s) × WorldView s g × (v ≡ view_of s g))
    unfolding views_along
    among_views = (
      λ m. let (g, n, e) = (among-map (view_of s) (keep (is_world_view s) l)).0 m in
          let (a, w) = (among-keep (is_world_view s) l).0 n in
          let h = en.below g a in (g, h, (definition_6 s g h).yes w, e),
      λ p. let (g, h, w, e) = p in
          (among-map (view_of s) (keep (is_world_view s) l)).1 (g, (among-keep (is_world_view s) l).1 (en.all g h, is_true (definition_6 s g h) w), e),
    )

    -- no guess gets a second one
    pub views_once : Pairwise (λ v w. v.guess ≡ w.guess → ⊥) (views_along s l)
    views_once = views_pairwise (λ g h. g ≡ h → ⊥) l en.once

    -- larger guesses first
    pub views_falling : Pairwise (λ v w. size w.guess ≤ size v.guess) (views_along s l)
    views_falling = views_pairwise (λ g h. size h ≤ size g) l en.larger_first

    -- none exactly when no guess is reduct-verifiable
    pub views_none : (views_along s l ≡ []) ↔ NoneVerifiable s
    views_none = (
      λ e g h v. let (x, lx, _, w) = maximal_superset s g h v in (no_members (views_along s l)).0 e (view_of s x) (among_views.1 (x, lx, w, refl)),
      λ f. (no_members (views_along s l)).1 (λ v m. let (g, h, w, _) = among_views.0 m in f g h w.verifiable),
    )

    -- as many as the tally says
    pub views_long : length (views_along s l) ≡ (tally_of s).views
    unfolding views_along tally_of
    views_long = length-map (keep (is_world_view s) l) (view_of s) ∙ count_along s l en (is_world_view s)

pub views_of : (s : Setting) → ViewsOf s (listing s)
views_of s =
    let en = order_enumerates (k s) in
    record { exactly = among_views s _ en; once = views_once s _ en; ordered = listing_sorted s; none_exactly = views_none s _ en }

pub listing_long : (s : Setting) → length (listing s) ≡ (tally_of s).views
listing_long s = views_long s (order (k s)) (order_enumerates (k s))

-- as many as there are world views
pub listing-many : (s : Setting) {n : ℕ} → Number s (WorldView s) n → n ≡ length (listing s)
listing-many s m = number_only m (is_tally s).views_are ∙ sym (listing_long s)

-- a guess gets a view exactly when it is reduct-verifiable and no proper superset of it is
pub gets_one : (s : Setting) (vs : List View) → ViewsOf s vs → (g : ℕ) → g < 2 ^ k s → ((v : View) × (v among vs) × (v.guess ≡ g)) ↔ WorldView s g
gets_one s vs o g l = (
  λ p. let (v, m, e) = p in
      let (h, _, w, d) = o.exactly.0 m in subst (WorldView s) (sym (ap (λ z. z.guess) d) ∙ e) w,
  λ w. (view_of s g, o.exactly.1 (g, l, w, refl), refl),
)
