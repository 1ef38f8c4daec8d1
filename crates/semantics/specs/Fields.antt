-- Where the fields of a sheet lie in its bytes, as a reader goes over them. The definitions do not rest on this; contracts of the code do.
use Rattle.std.specs.Prelude.{ℕ, zero, suc, ◌+◌, ◌*◌, List, [], ◌∷◌, map, get_or, take, drop}
use Rattle.sets.specs.Lists.{flat, up_to}
use Rattle.sets.specs.Sets.{⋃}
use Rattle.semantics.specs.Definitions.Sheet.{Opposites, byte_at, word_at, pair_from}

module _ (s : List ℕ) where
  -- the n bytes from a place
  abbrev pub bytes_from : (n at : ℕ) → List ℕ
  bytes_from n at = take n (drop at s)

  -- the name whose length stands at a place, and the place after it
  abbrev pub name_from : ℕ → List ℕ
  name_from at = bytes_from (byte_at s at) (at + 1)

  abbrev pub after_name : ℕ → ℕ
  after_name at = at + 1 + byte_at s at

  -- n names from a place, and the place after them
  unfoldable pub names_from : (n at : ℕ) → List (List ℕ)
  names_from zero at = []
  names_from (suc n) at = name_from at ∷ names_from n (after_name at)

  unfoldable pub after_names : (n at : ℕ) → ℕ
  after_names zero at = at
  after_names (suc n) at = after_names n (after_name at)

  -- n masks from a place; the rule at a place; n rules from a place
  abbrev pub masks_from : (n at : ℕ) → List ℕ
  masks_from n at = map (λ i. word_at s (at + 2 * i)) (up_to n)

  abbrev pub rule_from : ℕ → List ℕ
  rule_from at = masks_from 8 at

  abbrev pub rules_from : (n at : ℕ) → List (List ℕ)
  rules_from n at = map (λ i. rule_from (at + 16 * i)) (up_to n)

  -- n pairs from a place
  abbrev pub pairs_from : (n at : ℕ) → List Opposites
  pairs_from n at = map (λ i. pair_from s (at + 2 * i)) (up_to n)

-- two masks of each rule
abbrev pub masks_of : (m m' : ℕ) → List (List ℕ) → List ℕ
masks_of m m' rules = flat (λ r. get_or r m 0 ∷ get_or r m' 0 ∷ []) rules

-- the atoms in mask 4 or 5 of some rule, and in mask 6 or 7
abbrev pub k_atoms : List (List ℕ) → ℕ
k_atoms rules = ⋃ (masks_of 4 5 rules)

abbrev pub m_atoms : List (List ℕ) → ℕ
m_atoms rules = ⋃ (masks_of 6 7 rules)
