-- 000, Definition 6: world views are the reduct-verifiable guesses with no reduct-verifiable proper superset. Assumes nothing.
use Rattle.std.specs.Prelude.{ℕ, zero, suc, ◌+◌, ◌^◌, ◌≤◌, ◌<◌, ◌≡◌, refl, Bool, true, false, not, ◌&&◌, ◌↔◌}
use Rattle.std.proofs.Common.{⊎_elim, arith}
use Rattle.sets.specs.Decides.{Decides, decided, dec_one, dec_iff, dec_not, dec_and}
use Rattle.sets.specs.Lists.{some, dec_any}
use Rattle.sets.specs.Sets.{◌⊆◌, ◌⊂◌, ◌⊂?◌, size}
use Rattle.sets.specs.Members.{⊆_refl, ⊆_trans, dec_⊂, ⊂_⊆_trans}
use Rattle.sets.specs.Size.{size_below, size-⊂}
use Rattle.semantics.specs.Definitions.Setting.{Setting, k, guesses}
use Rattle.semantics.specs.Definitions.Verdict.{verdict, is_verified}
use Rattle.semantics.specs.Definitions.Listing.{is_world_view, covered, tested, tested_view}
use Rattle.semantics.specs.Definitions.Propagation.{contradicted}
use Rattle.semantics.specs.Theorems.Verdict.{Verifiable}
use Rattle.semantics.proofs.Theorems.Verdict.{definition_5}
use Rattle.semantics.proofs.Theorems.Contradicted.{dec_contradicted, contradicted_unverifiable}
use Rattle.semantics.specs.Theorems.WorldView as defined

module _ (s : Setting) where
  abbrev WorldView : (g : ℕ) → Type 0
  WorldView = defined.WorldView s

  -- there is a world view
  abbrev SomeView : Type 0
  SomeView = defined.SomeView s

  -- no guess is reduct-verifiable
  abbrev NoneVerifiable : Type 0
  NoneVerifiable = defined.NoneVerifiable s

  -- a reduct-verifiable proper superset
  abbrev Above : ℕ → Type 0
  Above g = (h : ℕ) × (h < 2 ^ k s) × ((g ⊂ h) × Verifiable s h)

  dec_above : (g : ℕ) → Decides (Above g) (some (λ h. g ⊂? h && is_verified (verdict s h)) (guesses s))
  dec_above g = dec_any _ _ (2 ^ k s) (λ h l. dec_and (dec_⊂ g h) (definition_5 s h l))

  pub definition_6 : (g : ℕ) → g < 2 ^ k s → Decides (WorldView g) (is_world_view s g)
  unfolding is_world_view
  definition_6 g l =
      dec_iff (
        λ q. record { verifiable = q.0; maximal = λ h m p v. q.1 (h, m, (p, v)) },
        λ w. (w.verifiable, λ a. w.maximal a.0 a.1 a.2.0 a.2.1),
      ) (dec_and (definition_5 s g l) (dec_not (dec_above g)))

  -- every verified guess has a maximal verified superset: m bounds how much larger it can be
  climb : (m g : ℕ) → k s ≤ size g + m → g < 2 ^ k s → Verifiable s g → (h : ℕ) × (h < 2 ^ k s) × (g ⊆ h) × WorldView h
  climb zero g f l v = (g, l, ⊆_refl, record { verifiable = v; maximal = λ h m p _. let q = size-⊂ p in let u = size_below (k s) h m in omega arith })
  climb (suc m) g f l v =
      let ih = climb m in
      ⊎_elim
      (λ a. let (h, lh, (p, vh)) = a in
      let q = size-⊂ p in
      let (x, lx, sx, wx) = ih h (omega arith) lh vh in
      (x, lx, ⊆_trans p.within sx, wx))
      (λ n. (g, l, ⊆_refl, record { verifiable = v; maximal = λ h lh p vh. n (h, lh, (p, vh)) })) (decided (dec_above g))

  pub maximal_superset : (g : ℕ) → g < 2 ^ k s → Verifiable s g → (h : ℕ) × (h < 2 ^ k s) × (g ⊆ h) × WorldView h
  maximal_superset g l v = climb (k s) g (omega arith) l v

  -- there is no world view exactly when no guess is reduct-verifiable
  pub no_view : NoneVerifiable ↔ (SomeView → ⊥)
  no_view = (
    λ f p. let (g, l, w) = p in f g l w.verifiable,
    λ n g l v. let (h, lh, _, w) = maximal_superset g l v in n (h, lh, w),
  )

  -- "covered: proper subset of a world view's guess"
  abbrev Covered : ℕ → Type 0
  Covered = defined.Covered s

  pub dec_covered : (g : ℕ) → Decides (Covered g) (covered s g)
  unfolding covered
  dec_covered g = dec_any _ _ (2 ^ k s) (λ h l. dec_and (dec_⊂ g h) (definition_6 h l))

  -- what is neither covered nor ruled is not contradicted
  pub tested_is : (g : ℕ) → tested s g ≡ not (covered s g) && not (contradicted s g)
  tested_is g = go (covered s g)
    where
      go : (c : Bool) → not c && not (not c && contradicted s g) ≡ not c && not (contradicted s g)
      go true = refl
      go false = refl

  -- the world views are the tested guesses that are verified
  pub view-tested : (g : ℕ) → g < 2 ^ k s → is_world_view s g ≡ tested_view s g
  view-tested g l =
      rw (tested_is g) (dec_one (definition_6 g l)
      (dec_iff (
        λ q. record {
          verifiable = q.1;
          maximal = λ h lh p v. let (x, lx, sx, wx) = maximal_superset h lh v in q.0.0 (x, lx, (⊂_⊆_trans p sx, wx));
        },
        λ w. (((λ c. w.maximal c.0 c.1 c.2.0 c.2.1.verifiable), λ c. contradicted_unverifiable s g c w.verifiable), w.verifiable),
      ) (dec_and (dec_and (dec_not (dec_covered g)) (dec_not (dec_contradicted s g))) (definition_5 s g l))))
