-- The names of a set's atoms, as they are read off the bytes of a sheet. Assumes nothing.
use Rattle.std.specs.Prelude.{ℕ, ◌+◌, ◌*◌, cond, List, [], ◌∷◌, leb, length}
use Rattle.sets.specs.Lists.{flat, up_to}
use Rattle.sets.specs.Sets.{◌∈?◌}
use Rattle.semantics.specs.Definitions.Sheet.{byte_at, most_atoms, longest_name}
use Rattle.semantics.specs.Fields.{name_from, after_name, after_names}

-- the bytes of a space and the longest name, and of these for as many atoms as a sheet can have
abbrev pub name_room : ℕ
name_room = 1 + longest_name

abbrev pub names_room : ℕ
names_room = name_room * most_atoms

-- The names of as many atoms end at this place or before it, whatever bytes say how long they are: a length is at most 255.
abbrev pub names_end : ℕ
names_end = 1 + 256 * most_atoms

module _ (s : List ℕ) where
  -- the number of atoms; none where the byte says more than a sheet has
  abbrev pub atoms_in : ℕ
  atoms_in = cond (leb (byte_at s 0) most_atoms) (byte_at s 0) 0

  -- a space and the name whose length stands at a place; nothing where the name is longer than a name may be, or is cut off
  abbrev pub name_field : ℕ → List ℕ
  name_field place = cond (leb (byte_at s place) longest_name) (cond (leb (after_name s place) (length s)) (32 ∷ name_from s place) []) []

  -- the same where atom a is in the set, otherwise nothing
  abbrev pub member_field : (set a : ℕ) → List ℕ
  member_field set a = cond (a ∈? set) (name_field (after_names s a 1)) []

  -- the first n atoms
  unfoldable pub member_fields : (set n : ℕ) → List ℕ
  member_fields set n = flat (member_field set) (up_to n)
