-- When the third section of a sheet is refused with which number and place, said of its bytes without reading steps. Assumes nothing.
use Rattle.std.specs.Prelude.{ℕ, ◌+◌, ◌*◌, ◌≤◌, ◌<◌, ◌≡◌, List, ◌⊎◌, length}
use Rattle.semantics.specs.Definitions.Sheet.{Opposites, byte_at, pair_from, most_pairs}
use Rattle.semantics.specs.Fields.{pairs_from}
use Rattle.semantics.specs.Theorems.Pairs.{GoodPair}

-- ---- what the bytes s are from the place `at` on, where the names and the rules end, of a sheet with so many atoms
-- K7: "a count byte 0 to 7, then two atom numbers per pair": the place of the pair i, and the pair there
abbrev pub pair_place : (at i : ℕ) → ℕ
pair_place at i = at + 1 + 2 * i

abbrev pub pair_by : (s : List ℕ) (at i : ℕ) → Opposites
pair_by s at i = pair_from s (pair_place at i)

-- both bytes of the pair i are there
abbrev pub Stands : (s : List ℕ) (at i : ℕ) → Type 0
Stands s at i = pair_place at i + 2 ≤ length s

-- the pair i has none of "an atom number not below the atom count, one atom twice in a pair or an atom of an earlier pair"
abbrev pub GoodAt : (s : List ℕ) (atoms at i : ℕ) → Type 0
GoodAt s atoms at i = GoodPair atoms (pairs_from s i (at + 1)) (pair_by s at i)

-- "pair by pair": every pair before the pair i is there and good
abbrev pub GoodBefore : (s : List ℕ) (atoms at i : ℕ) → Type 0
GoodBefore s atoms at i = (j : ℕ) → j < i → Stands s at j × GoodAt s atoms at j

-- "a count byte 0 to 7" is there
abbrev pub CountStands : (s : List ℕ) (at : ℕ) → Type 0
CountStands s at = (at + 1 ≤ length s) × (byte_at s at ≤ most_pairs)

-- "1, sheet length" where "the bytes end too soon": there is no count byte, as in "a two-section sheet"
pub record NoCount (s : List ℕ) (at number place : ℕ) : Type 0 where
  pub no_byte : length s ≤ at
  pub numbered : number ≡ 1
  pub placed : place ≡ length s

-- "A count over 7 gives 2", at "place of the count"
pub record TooMany (s : List ℕ) (at number place : ℕ) : Type 0 where
  pub some_byte : at + 1 ≤ length s
  pub many : most_pairs < byte_at s at
  pub numbered : number ≡ 2
  pub placed : place ≡ at

-- "1, sheet length" where "the bytes end too soon": a counted pair is not all there, and those before it are good
pub record CutShort (s : List ℕ) (atoms at number place : ℕ) : Type 0 where
  pub counted : CountStands s at
  pub pair : ℕ
  pub of_count : pair < byte_at s at
  pub good_before : GoodBefore s atoms at pair
  pub cut : Stands s at pair → ⊥
  pub numbered : number ≡ 1
  pub placed : place ≡ length s

-- "15 with the pair's place, [..] pair by pair after its bytes are present"
pub record BadPair (s : List ℕ) (atoms at number place : ℕ) : Type 0 where
  pub counted : CountStands s at
  pub pair : ℕ
  pub of_count : pair < byte_at s at
  pub good_before : GoodBefore s atoms at pair
  pub stands : Stands s at pair
  pub not_good : GoodAt s atoms at pair → ⊥
  pub numbered : number ≡ 15
  pub placed : place ≡ pair_place at pair

-- "6, first extra byte": "extra bytes are those after the last pair", and 15 comes "before 6", so that all counted pairs are good
pub record ExtraBytes (s : List ℕ) (atoms at number place : ℕ) : Type 0 where
  pub counted : CountStands s at
  pub all_good : GoodBefore s atoms at (byte_at s at)
  pub more : pair_place at (byte_at s at) < length s
  pub numbered : number ≡ 6
  pub placed : place ≡ pair_place at (byte_at s at)

-- refused with this number and this place, of which the five cases say when
abbrev pub PairsRefuse : (s : List ℕ) (atoms at number place : ℕ) → Type 0
PairsRefuse s atoms at number place =
    NoCount s at number place ⊎ (TooMany s at number place ⊎ (CutShort s atoms at number place ⊎ (BadPair s atoms at number place ⊎ ExtraBytes s atoms at number place)))
