-- World views, records and query under the day's masks, said by the masks: a guess's belief sets are those of before that have every in-atom
-- and no out-atom, and from these the rest is found as before. (What is ruled out: `contradicted-under` of Day.antt.) Assumes nothing.
use Rattle.std.specs.Prelude.{ℕ, ◌^◌, ◌<◌, ◌≡◌, ◌↔◌, length}
use Rattle.std.proofs.Common.{sym, ap, ◌∙◌}
use Rattle.sets.specs.Lists.{◌among◌}
use Rattle.sets.specs.Sets.{◌∈◌}
use Rattle.semantics.specs.Definitions.Setting.{Setting, k}
use Rattle.semantics.specs.Definitions.Verdict.{known_in, possible_in}
use Rattle.semantics.specs.Definitions.Listing.{View, view_of, listing}
use Rattle.semantics.specs.Definitions.Query.{Yes, No, Open, None, query}
use Rattle.semantics.specs.Definitions.Day.{under}
use Rattle.semantics.specs.Theorems.Verdict.{Verifiable}
use Rattle.semantics.specs.Theorems.WorldView.{WorldView, SomeView}
use Rattle.semantics.proofs.Theorems.Listing.{views_of}
use Rattle.semantics.specs.Theorems.Query.{InAll}
use Rattle.semantics.proofs.Theorems.Query.{query-none, query_yes, query_no, query_open}
use Rattle.semantics.proofs.Theorems.Day.{belief_under, among-under}
use Rattle.semantics.specs.Theorems.DayViews as defined

module _ (ins outs : ℕ) (s : Setting) where
  -- ---- world views
  -- Definition 5, of those belief sets
  abbrev VerifiableUnder : (g : ℕ) → Type 0
  VerifiableUnder = defined.VerifiableUnder ins outs s

  pub verifiable_under : (g : ℕ) → Verifiable (under ins outs s) g ↔ VerifiableUnder g
  verifiable_under g =
      let same = belief_under ins outs s g in (
        λ v. record { non_empty = rw (← same) v.non_empty; exact = rw (← same) v.exact },
        λ v. record { non_empty = rw same v.non_empty; exact = rw same v.exact },
      )

  -- Definition 6
  abbrev WorldViewUnder : (g : ℕ) → Type 0
  WorldViewUnder = defined.WorldViewUnder ins outs s

  pub world_view_under : (g : ℕ) → WorldView (under ins outs s) g ↔ WorldViewUnder g
  world_view_under g = (
    λ w. record { verifiable = (verifiable_under g).0 w.verifiable; maximal = λ h l p v. w.maximal h l p ((verifiable_under h).1 v) },
    λ w. record { verifiable = (verifiable_under g).1 w.verifiable; maximal = λ h l p v. w.maximal h l p ((verifiable_under h).0 v) },
  )

  -- ---- the listing: which views it has (that each stands there once and in the order holds of every setting: Listing.antt)
  -- what is known and possible in those belief sets, and how many they are
  abbrev view_under : ℕ → View
  view_under = defined.view_under ins outs s

  view-under : (g : ℕ) → view_of (under ins outs s) g ≡ view_under g
  view-under g = ap (λ w. record { guess = g; known = known_in s w; possible = possible_in w; sets = length w }) (belief_under ins outs s g)

  pub listing-under : {v : View} → v among listing (under ins outs s) ↔ ((g : ℕ) × (g < 2 ^ k s) × WorldViewUnder g × (v ≡ view_under g))
  listing-under = (
    λ m. let (g, l, w, e) = (views_of (under ins outs s)).exactly.0 m in (g, l, (world_view_under g).0 w, e ∙ view-under g),
    λ (g, l, w, e). (views_of (under ins outs s)).exactly.1 (g, l, (world_view_under g).1 w, e ∙ sym (view-under g)),
  )

  -- ---- the query
  abbrev SomeViewUnder : Type 0
  SomeViewUnder = defined.SomeViewUnder ins outs s

  -- P of every belief set, with every in-atom and no out-atom, of every world view
  abbrev InAllUnder : (ℕ → Type 0) → Type 0
  InAllUnder = defined.InAllUnder ins outs s

  some-under : SomeView (under ins outs s) ↔ SomeViewUnder
  some-under = (λ (g, l, w). (g, l, (world_view_under g).0 w), λ (g, l, w). (g, l, (world_view_under g).1 w))

  all_under : {P : ℕ → Type 0} → InAll (under ins outs s) P ↔ InAllUnder P
  all_under = (
    λ f g l w i m a. f g l ((world_view_under g).1 w) i ((among-under ins outs s g).1 (m, a)),
    λ f g l w i m. let (n, a) = (among-under ins outs s g).0 m in f g l ((world_view_under g).0 w) i n a,
  )

  -- "none" exactly when no guess is reduct-verifiable by them
  pub none-under : (a : ℕ) → query (under ins outs s) a ≡ None ↔ ((g : ℕ) → g < 2 ^ k s → VerifiableUnder g → ⊥)
  none-under a = (
    λ e g l v. (query-none (under ins outs s) a).0 e g l ((verifiable_under g).1 v),
    λ f. (query-none (under ins outs s) a).1 (λ g l v. f g l ((verifiable_under g).0 v)),
  )

  pub yes_under : (a : ℕ) → query (under ins outs s) a ≡ Yes ↔ (SomeViewUnder × InAllUnder (λ i. a ∈ i))
  yes_under a = (
    λ e. let (v, f) = (query_yes (under ins outs s) a).0 e in (some-under.0 v, all_under.0 f),
    λ q. (query_yes (under ins outs s) a).1 (some-under.1 q.0, all_under.1 q.1),
  )

  pub no_under : (a : ℕ) → query (under ins outs s) a ≡ No ↔ (SomeViewUnder × ((InAllUnder (λ i. a ∈ i) → ⊥) × InAllUnder (λ i. a ∈ i → ⊥)))
  no_under a = (
    λ e. let (v, (n, f)) = (query_no (under ins outs s) a).0 e in (some-under.0 v, ((λ h. n (all_under.1 h)), all_under.0 f)),
    λ (v, (n, f)). (query_no (under ins outs s) a).1 (some-under.1 v, ((λ h. n (all_under.0 h)), all_under.1 f)),
  )

  pub open_under : (a : ℕ) → query (under ins outs s) a ≡ Open ↔ (SomeViewUnder × ((InAllUnder (λ i. a ∈ i) → ⊥) × (InAllUnder (λ i. a ∈ i → ⊥) → ⊥)))
  open_under a = (
    λ e. let (v, (n, f)) = (query_open (under ins outs s) a).0 e in (some-under.0 v, ((λ h. n (all_under.1 h)), λ h. f (all_under.1 h))),
    λ (v, (n, f)). (query_open (under ins outs s) a).1 (some-under.1 v, ((λ h. n (all_under.0 h)), λ h. f (all_under.0 h))),
  )
