-- Document 02, K3, "What already stands in the kiln": two masks for the day, of the atoms that are in and of those that are out.
use Rattle.std.specs.Prelude.{ℕ, ◌^◌, Bool, not, ◌&&◌, List, ◌++◌, map, ltb}
use Rattle.sets.specs.Sets.{◌⊆?◌, ◌meets?◌, ∅, single, members_of}
use Rattle.semantics.specs.Definitions.Rules.{Rule}
use Rattle.semantics.specs.Definitions.Setting.{Setting, add}
use Rattle.semantics.specs.Definitions.Returned.{Returned, answer}
use Rattle.semantics.specs.Definitions.Check.{of_sheet}
use Rattle.semantics.specs.Definitions.Stable.{stable}
use Rattle.semantics.specs.Definitions.Calls.{provided}

-- ---- constraints
-- "← not a"
abbrev pub must_have : ℕ → Rule
must_have a = record { head = ∅; plain = ∅; nots = single a; not_nots = ∅ }

-- "← a"
abbrev pub must_lack : ℕ → Rule
must_lack a = record { head = ∅; plain = single a; nots = ∅; not_nots = ∅ }

-- ---- masks
-- "for each in-atom a constraint "← not a", for each out-atom "← a"" (002: stable models under an assumption)
unfoldable pub day_constraints : (ins outs : ℕ) → List Rule
day_constraints ins outs = map must_have (members_of ins) ++ map must_lack (members_of outs)

-- "With masks, right means right for the sheet with those constraints added, beyond the 64."
abbrev pub under : (ins outs : ℕ) → Setting → Setting
under ins outs s = add (day_constraints ins outs) s

-- it "has every "in" atom, no "out" atom"
abbrev pub allowed : (ins outs i : ℕ) → Bool
allowed ins outs i = ins ⊆? i && not (outs meets? i)

-- "a set passes only if it has every "in" atom, no "out" atom, and is stable as before": that this is a stable set of the program with the
-- constraints added is `stable-under` of Theorems/Day.antt
abbrev pub stable_under : (ins outs : ℕ) → List Rule → ℕ → Bool
stable_under ins outs p i = allowed ins outs i && stable p i

-- ---- the source
-- not "a mask bit at or above the atom count or an atom in both masks" (a mask without such a bit is below 2 ^ atoms)
abbrev pub masks_fit : (ins outs atoms : ℕ) → Bool
masks_fit ins outs atoms = ltb ins (2 ^ atoms) && ltb outs (2 ^ atoms) && not (ins meets? outs)

-- any source under the day's masks; "13, place 0, [..] after 7 and before 8"
unfoldable pub under_masks : (from : Returned Setting) (ins outs : ℕ) → Returned Setting
under_masks from ins outs = answer (under ins outs) (provided (λ s. masks_fit ins outs s.atoms) 13 0 from)

-- "Verdict, sets, ruling out, listing (desk call too) and query all take the masks (K1's calls don't)": the calls (Calls.antt, Desk.antt) are
-- said of this source, and ruling out of its setting
abbrev pub of_day : (sheet : List ℕ) (ins outs : ℕ) → Returned Setting
of_day sheet ins outs = under_masks (of_sheet sheet) ins outs
