-- The planes and the table of a sheet. Assumes nothing.
use Rattle.std.specs.Prelude.{ℕ, ◌*◌, ◌^◌, ◌≤◌, ◌<◌, ◌≡◌, List, ◌↔◌, length}
use Rattle.sets.specs.Lists.{◌among◌}
use Rattle.sets.specs.Sets.{◌⊆◌, ∅, full}
use Rattle.semantics.specs.Definitions.Verdict.{belief_sets}
use Rattle.semantics.specs.AtSet.{need}
use Rattle.guess.specs.declared.outline.Outline.{Outline}
use Rattle.guess.specs.Programs.{unmasked_in, setting_in}
use Rattle.lanes.specs.Planes.{◌in_plane◌, Plane}
use Rattle.lanes.specs.declared.noted.Entry.{Entry}
use Rattle.lanes.specs.Noted.{entry, entry_at}
use Rattle.lanes.specs.Summary.{summary}
use Rattle.ruling.specs.Free.{Free}

-- the first entries before any set
abbrev pub Blank : (guesses atoms : ℕ) → List Entry → Type 0
Blank n atoms table = (g : ℕ) → g < n → entry_at table g ≡ entry (full atoms) ∅ 0

-- of rules in words, with their outline
module _ (x : Outline) (words : List ℕ) where
  -- after all sets, for the numbers of the plane `first`: those are active that have what each of their belief sets needs, and their entries are what the
  -- belief sets have in all and in some, and how many they are
  pub record Filled (first active : List ℕ) (table : List Entry) : Type 0 where
    pub within : {g : ℕ} → g < 64 * length first → g in_plane active → g in_plane first
    pub needs : {g : ℕ} → g < 64 * length first → g in_plane first → g in_plane active ↔ ((i : ℕ) → i among belief_sets (setting_in x words) g → need (unmasked_in x words) i ⊆ g)
    pub entries : {g : ℕ} → g < 64 * length first → g in_plane active → entry_at table g ≡ summary x.atoms (belief_sets (setting_in x words) g)

  -- the plane of the guesses that are not contradicted, one lane for each guess at least, and the table filled for them
  pub record Tabled (free active : List ℕ) (table : List Entry) : Type 0 where
    pub wide : 2 ^ x.negations ≤ 64 * length free
    pub long : length active ≡ length free
    pub stand : 64 * length free ≤ length table
    pub free_are : Plane (Free x words) free
    pub filled : Filled free active table
