-- Document 01, "The sheet" and "Turned back at the door": "Checks go in reading order, field by field; a field's presence is checked before
-- its contents, a name's bytes are all present before any is judged, a whole rule before its masks." A refusal stands as `number place`.
-- Document 02, K7, "Opposites on the sheet": "The sheet gets a third section".
use Rattle.std.specs.Prelude.{ℕ, ◌+◌, ◌*◌, ◌^◌, Bool, not, ◌&&◌, ◌||◌, List, [], ◌∷◌, map, leb, ltb, eqb, length, get_or}
use Rattle.sets.specs.Lists.{some, flat, null, same_list}
use Rattle.semantics.specs.Definitions.Rules.{EpistemicRule, rule_of}
use Rattle.semantics.specs.Definitions.Reading.{Reading, field, ◌then◌, require, times}

-- K7: "two atom numbers per pair"
pub record Opposites : Type 0 where
  pub first : ℕ
  pub second : ℕ

-- What a sheet says: the atoms' names, each a list of bytes, the rules, each a list of eight masks, and the pairs; and `rules_at`, "where the
-- rules begin". "Atoms are numbered from 0 in this order."
pub record Sheet : Type 0 where
  pub names : List (List ℕ)
  pub rules : List (List ℕ)
  pub pairs : List Opposites
  pub rules_at : ℕ

abbrev pub atoms : Sheet → ℕ
atoms x = length x.names

-- the sheet with these pairs instead of its own
abbrev pub with_pairs : Sheet → List Opposites → Sheet
with_pairs x pairs = record { names = x.names; rules = x.rules; pairs = pairs; rules_at = x.rules_at }

-- "Masks 0 to 7 are: head, plain, not, not not, K, not K, M, not M."
abbrev pub rule_of_masks : List ℕ → EpistemicRule
rule_of_masks masks = rule_of (λ i. get_or masks i 0)

abbrev pub epistemic_rules : Sheet → List EpistemicRule
epistemic_rules x = map rule_of_masks x.rules

abbrev pub between : (low high x : ℕ) → Bool
between low high x = leb low x && leb x high

-- "bytes from a-z, 0-9 and `_`, the first from a-z"
abbrev pub name_byte : (first : Bool) → ℕ → Bool
name_byte first b = between 97 122 b || not first && (between 48 57 b || eqb b 95)

-- "over 15 atoms or 64 rules" is too many
abbrev pub most_atoms : ℕ
most_atoms = 15

abbrev pub most_rules : ℕ
most_rules = 64

-- K7: "a count byte 0 to 7"
abbrev pub most_pairs : ℕ
most_pairs = 7

-- "a length byte 1 to 12"
abbrev pub longest_name : ℕ
longest_name = 12

-- K7: "the longest sheet is 1,236": three counts, fifteen names with their lengths, 64 rules of 16 bytes, and seven pairs of two
abbrev pub longest_sheet : ℕ
longest_sheet = 3 + (1 + longest_name) * most_atoms + 16 * most_rules + 2 * most_pairs

-- the atoms of some pairs
unfoldable pub atoms_of : List Opposites → List ℕ
atoms_of pairs = flat (λ p. p.first ∷ p.second ∷ []) pairs

-- K7: not "an atom number not below the atom count, one atom twice in a pair or an atom of an earlier pair"
abbrev pub good_pair : (atoms : ℕ) (earlier : List Opposites) → Opposites → Bool
good_pair atoms earlier p =
    ltb p.first atoms && (ltb p.second atoms
    && (not (eqb p.first p.second)
    && (not (some (eqb p.first) (atoms_of earlier)) && not (some (eqb p.second) (atoms_of earlier)))))

-- Below, s is the bytes of a sheet.
module _ (s : List ℕ) where
  -- "All fields are unsigned". "A place in the sheet is the offset, from 0, of the named field's first byte."
  abbrev pub byte_at : ℕ → ℕ
  byte_at at = get_or s at 0

  -- "two-byte fields have the low byte first"
  abbrev pub word_at : ℕ → ℕ
  word_at at = byte_at at + 256 * byte_at (at + 1)

  -- the n bytes from a place are there; "1, sheet length" where "the bytes end too soon"
  abbrev pub present : {A : Type 0} → (at n : ℕ) → Reading A → Reading A
  present at n rest = require (leb (at + n) (length s)) 1 (length s) rest

  -- "One byte: the number of [..]"; "2, place of the count" where "over 15 atoms or 64 rules"
  unfoldable pub count_at : (limit at : ℕ) → Reading ℕ
  count_at limit at =
      present at 1
      (require (leb (byte_at at) limit) 2 at
      (field (byte_at at) (at + 1)))

  -- a byte of a name after some earlier ones, the first if there are none; "3, place of the [..] byte" where it is "a bad byte of a name"
  unfoldable pub name_byte_at : (earlier : List ℕ) (at : ℕ) → Reading ℕ
  name_byte_at earlier at =
      require (name_byte (null earlier) (byte_at at)) 3 at
      (field (byte_at at) (at + 1))

  -- "each name: a length byte 1 to 12 and that many bytes"; "3, place of the length" where "a bad length"; "a name's bytes are all present
  -- before any is judged". "Names differ from each other."; "4, place of its length" where "a name equal to an earlier one"
  unfoldable pub name_at : (earlier : List (List ℕ)) (at : ℕ) → Reading (List ℕ)
  name_at earlier at =
      present at 1
      (require (between 1 longest_name (byte_at at)) 3 at
      (present (at + 1) (byte_at at)
      (times (byte_at at) [] name_byte_at (at + 1) then λ name next.
      require (not (some (same_list name) earlier)) 4 at
      (field name next))))

  -- "5, place of the mask" where "a bit at or above the atom count"; without one the mask is below 2 ^ atoms
  -- (`below_power` of sets/specs/Members.antt)
  unfoldable pub mask_at : (atoms at : ℕ) → Reading ℕ
  mask_at atoms at =
      require (ltb (word_at at) (2 ^ atoms)) 5 at
      (field (word_at at) (at + 2))

  -- "each rule, 16 bytes: eight two-byte masks"; "a whole rule before its masks"
  unfoldable pub rule_at : (atoms at : ℕ) → Reading (List ℕ)
  rule_at atoms at =
      present at 16
      (times 8 [] (λ _. mask_at atoms) at)

  -- K7: "two atom numbers per pair"
  abbrev pub pair_from : (at : ℕ) → Opposites
  pair_from at = record { first = byte_at at; second = byte_at (at + 1) }

  -- K7: "15 with the pair's place, [..] pair by pair after its bytes are present"
  unfoldable pub pair_at : (atoms : ℕ) (earlier : List Opposites) (at : ℕ) → Reading Opposites
  pair_at atoms earlier at =
      present at 2
      (require (good_pair atoms earlier (pair_from at)) 15 at
      (field (pair_from at) (at + 2)))

  -- "Sections in a fixed order, each after its count.": the names and the rules, which both layouts begin with. "15 atoms pass, 16 give 2 at
  -- place 0"
  unfoldable pub front : Reading Sheet
  front =
      count_at most_atoms 0 then λ n at.
      times n [] name_at at then λ names at.
      count_at most_rules at then λ m rules_at.
      times m [] (λ _. rule_at n) rules_at then λ rules end.
      field (record { names = names; rules = rules; pairs = []; rules_at = rules_at }) end

  -- "Nothing follows."; "6, first extra byte"
  abbrev pub nothing_follows : Sheet → (end : ℕ) → Reading Sheet
  nothing_follows x end = require (eqb end (length s)) 6 end (field x end)

  -- the two sections of document 01: "6, first extra byte" where "bytes after the last rule"
  unfoldable pub two_sections : Reading Sheet
  two_sections = front then nothing_follows

  -- K7: "a third section: a count byte 0 to 7, then two atom numbers per pair"; "A count over 7 gives 2"
  unfoldable pub pairs_at : (atoms at : ℕ) → Reading (List Opposites)
  pairs_at atoms at =
      count_at most_pairs at then λ n at.
      times n [] (pair_at atoms) at

  -- K7: "All calls now read this layout"; "extra bytes are those after the last pair", and 15 comes "before 6"
  unfoldable pub sections : Reading Sheet
  sections =
      front then λ x at.
      pairs_at (atoms x) at then λ pairs end.
      nothing_follows (with_pairs x pairs) end
