-- World views, records and query under the day's masks, said by the masks: a guess's belief sets are those of before that have every in-atom
-- and no out-atom, and from these the rest is found as before. (What is ruled out: `contradicted-under` of Day.antt.) Assumes nothing.
-- Here the definitions; the theorems are in proofs/Theorems/DayViews.antt.
use Rattle.std.specs.Prelude.{ℕ, ◌^◌, ◌<◌, ◌↔◌, length}
use Rattle.sets.specs.Lists.{◌among◌}
use Rattle.sets.specs.Sets.{◌∈◌, ◌⊂◌}
use Rattle.semantics.specs.Definitions.Setting.{Setting, k, negation}
use Rattle.semantics.specs.Definitions.Verdict.{belief_sets, known_in, possible_in}
use Rattle.semantics.specs.Definitions.Listing.{View}
use Rattle.semantics.specs.Theorems.Verdict.{Satisfied}
use Rattle.semantics.specs.Theorems.Day.{Allowed, sets_under}

module _ (ins outs : ℕ) (s : Setting) where
  -- ---- world views
  -- Definition 5, of those belief sets
  pub record VerifiableUnder (g : ℕ) : Type 0 where
    pub non_empty : (i : ℕ) × (i among sets_under ins outs s g)
    pub exact : (j : ℕ) → j < k s → (j ∈ g) ↔ Satisfied (sets_under ins outs s g) (negation s j)

  -- Definition 6
  pub record WorldViewUnder (g : ℕ) : Type 0 where
    pub verifiable : VerifiableUnder g
    pub maximal : (h : ℕ) → h < 2 ^ k s → g ⊂ h → VerifiableUnder h → ⊥

  -- ---- the listing: which views it has (that each stands there once and in the order holds of every setting: Listing.antt)
  -- what is known and possible in those belief sets, and how many they are
  abbrev pub view_under : ℕ → View
  view_under g =
      let w = sets_under ins outs s g in
      record { guess = g; known = known_in s w; possible = possible_in w; sets = length w }

  -- ---- the query
  abbrev pub SomeViewUnder : Type 0
  SomeViewUnder = (g : ℕ) × (g < 2 ^ k s) × WorldViewUnder g

  -- P of every belief set, with every in-atom and no out-atom, of every world view
  abbrev pub InAllUnder : (ℕ → Type 0) → Type 0
  InAllUnder P = (g : ℕ) → g < 2 ^ k s → WorldViewUnder g → (i : ℕ) → i among belief_sets s g → Allowed ins outs i → P i
