-- The table after some sets, for all guesses of a plane. Assumes nothing.
use Prim.Native.Nat.{ℕ, ◌+◌, ◌*◌, ◌/◌, ◌%◌, ◌^◌, ◌≤◌, ◌<◌}
use mathlib.Core.Path.{◌≡◌, refl, sym, ap, ◌∙◌, subst}
use mathlib.Core.Bool.{true, false}
use mathlib.Core.List.{List, [], ◌∷◌, ◌++◌, map, append-nil}
use mathlib.Core.Logic.{⊎_elim}
use native.Mathlib.Omega.{arith}
use native.Mathlib.Numerals.{add-one}
use native.Mathlib.Nat.{lt_of_not-le}
use lib.ListN.{length, get_or-eq_default}
use Rattle.sets.specs.Decides.{decided, dec_le}
use Rattle.sets.specs.Lists.{keep, keep_snoc, up_to, length-up_to, nowhere}
use Rattle.sets.specs.Counting.{keep_shorter}
use Rattle.sets.specs.Sets.{◌∈◌, ◌∈?◌}
use Rattle.sets.specs.Members.{dec_∈, ∈-∅}
use Rattle.semantics.specs.Definitions.Setting.{Setting}
use Rattle.semantics.specs.Definitions.Sheet.{rule_of_masks, most_atoms}
use Rattle.semantics.specs.Definitions.Stable.{stable, stable_sets}
use Rattle.semantics.specs.Definitions.Verdict.{belief_sets}
use Rattle.semantics.specs.Definitions.Day.{allowed}
use Rattle.semantics.specs.Words.{rules_in}
use Rattle.semantics.specs.AtSet.{need, StableBy}
use Rattle.semantics.proofs.Theorems.AtSet.{allowed-gathered}
use Rattle.guess.specs.declared.outline.Outline.{Outline}
use Rattle.guess.specs.Programs.{unmasked_in, setting_in, Outlines}
use Rattle.guess.specs.Numbered.{masks_below}
use Rattle.lanes.specs.Planes.{◌in_plane◌, Plane}
use Rattle.lanes.specs.declared.noted.Entry.{Entry}
use Rattle.lanes.specs.Noted.{entry_at}
use Rattle.search.specs.Tried.{Tried}
use Rattle.lanes.specs.Summary.{Stands, stands_more}
use Rattle.gather.specs.Gathers.{at_set}
use Rattle.candidates.specs.Candidates.{Candidates}
use Rattle.ruling.specs.Free.{Free}
use Rattle.verdicts.specs.Tables.{Blank, Filled, Tabled}

-- a plane has no number beyond its words
below_plane : {g : ℕ} {l : List ℕ} → g in_plane l → g < 64 * length l
below_plane {g} {l} p =
    ⊎_elim (λ h. absurd (∈-∅ (subst (λ z. g % 64 ∈ z) (get_or-eq_default l 0 h) p.held))) (λ n. let h = lt_of_not-le n in omega arith) (decided (dec_le (length l) (g / 64)))

-- a word of candidates serves the sets up to its end
pub sets_stay : {x : Outline} {words : List ℕ} {sets : ℕ} (i : ℕ) → Candidates x words (i / 64) sets → 0 < (i + 1) % 64 → Candidates x words ((i + 1) / 64) sets
sets_stay i c h = let e : (i + 1) / 64 ≡ i / 64 = omega arith in rw e c

module _ (x : Outline) (words first : List ℕ) where
  abbrev s : Setting
  s = setting_in x words

  -- of the sets below i those that are stable for g
  abbrev stable_below : (g i : ℕ) → List ℕ
  stable_below g i = keep (stable (s.program g)) (up_to i)

  -- after the sets below i
  pub record After (i : ℕ) (active : List ℕ) (table : List Entry) : Type 0 where
    pub long : length active ≡ length first
    pub within : {g : ℕ} → g < 64 * length first → g in_plane active → g in_plane first
    pub stands : {g : ℕ} → g < 64 * length first → g in_plane first → Stands x.atoms (need (unmasked_in x words)) g (stable_below g i) (g in_plane active) (entry_at table g)

  -- before any set
  pub after_none : {table : List Entry} → Blank (64 * length first) x.atoms table → After 0 first table
  unfolding keep up_to
  after_none blank = record {
    long = refl;
    within = λ h m. m;
    stands = λ {g} h m. record { active = (λ _ i k. absurd (nowhere k), λ _. m); entry = λ _. blank g h };
  }

  module _ {i : ℕ} {active : List ℕ} {table : List Entry} (a : After i active table) where
    -- there is room for one set more
    pub room_left : i < 2 ^ most_atoms → (g : ℕ) → g in_plane active → (entry_at table g).sets < 65535
    room_left h g m =
        let l : g < 64 * length first = omega (arith, a.long, below_plane m) in
        let e = ap (λ (y : Entry). y.sets) ((a.stands l (a.within l m)).entry m) in
        omega (arith, e, keep_shorter (stable (s.program g)) (up_to i), length-up_to i)

    more : (g : ℕ) → stable_below g (i + 1) ≡ keep (stable (s.program g)) (up_to i ++ i ∷ [])
    unfolding up_to
    more g = ap (stable_below g) (add-one i)

    module _ (o : Outlines x words) (h : i < 2 ^ x.atoms) {sets : ℕ} (c : Candidates x words (i / 64) sets) where
      same : 64 * (i / 64) + i % 64 ≡ i
      same = omega arith

      -- a candidate, which is tried, and another set
      pub set_tried : {active' : List ℕ} {table' : List Entry} → (i % 64 ∈? sets) ≡ true
          → Tried (StableBy (at_set x words i) i) i (need (unmasked_in x words) i) active table active' table' → After (i + 1) active' table'
      set_tried {active'} {table'} there t = record {
        long = t.long ∙ a.long;
        within = λ {g} l m. a.within l ((t.left {g = g} (omega (arith, a.long))).0 m).0;
        stands = λ {g} l m.
            let k : g < 64 * length active = omega (arith, a.long) in
            let ok = subst (λ z. allowed x.ins x.outs z ≡ true) same (c.pass (omega arith) ((dec_∈ (i % 64) sets).yes there)) in
            let d = allowed-gathered x.atoms (map rule_of_masks (rules_in words x.rules)) (masks_below o) g i h x.ins x.outs ok in
            subst (λ vs. Stands x.atoms (need (unmasked_in x words)) g vs (g in_plane active') (entry_at table' g)) (sym (more g ∙ keep_snoc (stable (s.program g)) (up_to i) i))
            (stands_more x.atoms (need (unmasked_in x words)) (stable_below g i) (a.stands l m) d (t.left k)
            (λ p. t.entries.taken (k, p.0, p.1, p.2)) (λ f. t.entries.kept (λ p. f (p.1, p.2, p.3))));
      }

      pub set_passed : (i % 64 ∈? sets) ≡ false → After (i + 1) active table
      set_passed lacks = record {
        long = a.long;
        within = a.within;
        stands = λ {g} l m.
            let d = subst (λ z. stable (s.program g) z ≡ false) same (c.others (omega arith) (rw same h) ((dec_∈ (i % 64) sets).no lacks) g) in
            subst (λ vs. Stands x.atoms (need (unmasked_in x words)) g vs (g in_plane active) (entry_at table g))
            (sym (more g ∙ keep_snoc (stable (s.program g)) (up_to i) i ∙ rw d (append-nil _))) (a.stands l m);
      }

    -- after all of them
    pub all_tried : i ≡ 2 ^ x.atoms → Filled x words first active table
    unfolding belief_sets stable_sets
    all_tried e = record {
      within = a.within;
      needs = λ {g} l m. (rw e at (a.stands l m)).active;
      entries = λ {g} l m. (rw e at (a.stands l (a.within l m))).entry m;
    }

-- ---- with the plane of the guesses that are not contradicted
pub tabled : {x : Outline} {words free first active : List ℕ} {table : List Entry} → 2 ^ x.negations ≤ 64 * length free → length first ≡ length free → length active ≡ length first
    → 64 * length free ≤ length table → Plane (Free x words) free → Plane (Free x words) first → Filled x words first active table → Tabled x words free active table
tabled {first = first} wide same long stand all begun filled = record {
  wide = wide;
  long = long ∙ same;
  stand = stand;
  free_are = all;
  filled = record {
    within = λ {g} h m. (all.number h).1 ((begun.number {g = g} (omega arith)).0 (filled.within {g = g} (omega arith) m));
    needs = λ {g} h m. filled.needs {g = g} (omega arith) ((begun.number {g = g} (omega arith)).1 ((all.number h).0 m));
    entries = λ {g} h m. filled.entries {g = g} (omega arith) m;
  };
}
