-- Document 01, "Sheets with known lists": each sheet by its bytes, with "a last byte 0" (document 02, K7).
use Rattle.std.specs.Prelude.{ℕ, zero, suc, ◌/◌, ◌%◌, List, [], ◌∷◌, ◌++◌, length}
use Rattle.sets.specs.Lists.{flat}
use Rattle.semantics.specs.Definitions.Check.{Numbers, numbers}
use Rattle.semantics.specs.Definitions.Listing.{View, Tally, tallied}

-- ---- bytes, spelled out here and not by the layout of Theorems/Layout.antt
-- n zero bytes
unfoldable pub zeros : ℕ → List ℕ
zeros zero = []
zeros (suc n) = 0 ∷ zeros n

-- names of one byte, each after its length; "a, b, c are atoms 0, 1, 2."
abbrev pub a : List ℕ
a = 1 ∷ 97 ∷ []

abbrev pub b : List ℕ
b = 1 ∷ 98 ∷ []

abbrev pub c : List ℕ
c = 1 ∷ 99 ∷ []

abbrev pub d : List ℕ
d = 1 ∷ 100 ∷ []

-- "two-byte fields have the low byte first"
abbrev pub mask : ℕ → List ℕ
mask m = m % 256 ∷ m / 256 ∷ []

-- "each rule, 16 bytes: eight two-byte masks": head, plain, not, not not, K, not K, M, not M
abbrev pub rule : (head plain nots not_nots K not_k M not_m : ℕ) → List ℕ
rule m0 m1 m2 m3 m4 m5 m6 m7 = mask m0 ++ mask m1 ++ mask m2 ++ mask m3 ++ mask m4 ++ mask m5 ++ mask m6 ++ mask m7

-- the bytes of names and of rules, each section "after its count": the two sections of document 01
abbrev pub two_section_sheet : (names rules : List (List ℕ)) → List ℕ
two_section_sheet names rules = length names ∷ flat (λ n. n) names ++ length rules ∷ flat (λ r. r) rules

-- K7: "two atom numbers per pair"
abbrev pub pair : (first second : ℕ) → List ℕ
pair first second = first ∷ second ∷ []

-- and of pairs: "a third section: a count byte 0 to 7, then two atom numbers per pair"
abbrev pub sheet_with : (names rules pairs : List (List ℕ)) → List ℕ
sheet_with names rules pairs = two_section_sheet names rules ++ length pairs ∷ flat (λ p. p) pairs

-- without pairs: "a last byte 0"
abbrev pub sheet : (names rules : List (List ℕ)) → List ℕ
sheet names rules = two_section_sheet names rules ++ 0 ∷ []

-- ---- what is known of a sheet
abbrev pub view : (guess known possible sets : ℕ) → View
view guess known possible sets = record { guess = guess; known = known; possible = possible; sets = sets }

-- the bytes, what the check answers, and the list: "Views as (guess, known, possible, sets); tally as above."
pub record Listed : Type 0 where
  pub bytes : List ℕ
  pub numbers : Numbers
  pub views : List View
  pub tally : Tally

abbrev pub entry : List ℕ → Numbers → List View → Tally → Listed
entry s n vs t = record { bytes = s; numbers = n; views = vs; tally = t }

-- ---- the sheets
module _ where
  -- a ← K a
  abbrev pub sheet_2 : Listed
  sheet_2 = entry (sheet (a ∷ []) (rule 1 0 0 0 1 0 0 0 ∷ [])) (numbers 1 1 1) (view 1 0 0 1 ∷ []) (tallied 1 1 0 1 0 0)

  -- a ← not K a
  abbrev pub sheet_3 : Listed
  sheet_3 = entry (sheet (a ∷ []) (rule 1 0 0 0 0 1 0 0 ∷ [])) (numbers 1 1 1) [] (tallied 0 0 1 1 1 0)

  -- a ← not M a
  abbrev pub sheet_5 : Listed
  sheet_5 = entry (sheet (a ∷ []) (rule 1 0 0 0 0 0 0 1 ∷ [])) (numbers 1 1 1) [] (tallied 0 0 1 1 1 0)

  -- a ← not K b; b ← not K a
  abbrev pub sheet_6 : Listed
  sheet_6 =
      entry (sheet (a ∷ b ∷ []) (rule 1 0 0 0 0 2 0 0 ∷ rule 2 0 0 0 0 1 0 0 ∷ [])) (numbers 2 2 2)
      (view 1 2 2 1 ∷ view 2 1 1 1 ∷ []) (tallied 2 1 1 2 0 0)

  -- a ← not not a
  abbrev pub sheet_7 : Listed
  sheet_7 = entry (sheet (a ∷ []) (rule 1 0 0 1 0 0 0 0 ∷ [])) (numbers 1 1 0) (view 0 0 1 2 ∷ []) (tallied 1 0 0 1 0 0)

  -- a; ← a
  abbrev pub sheet_9 : Listed
  sheet_9 = entry (sheet (a ∷ []) (rule 1 0 0 0 0 0 0 0 ∷ rule 0 1 0 0 0 0 0 0 ∷ [])) (numbers 1 2 0) [] (tallied 0 0 1 0 0 0)

  abbrev pub ten : List Listed
  ten =
      -- "Bytes 0, 0", and the last byte 0
      entry (0 ∷ 0 ∷ 0 ∷ []) (numbers 0 0 0) (view 0 0 0 1 ∷ []) (tallied 1 0 0 1 0 0)
      ∷ sheet_2
      ∷ sheet_3
      -- a ← M a
      ∷ entry (sheet (a ∷ []) (rule 1 0 0 0 0 0 1 0 ∷ [])) (numbers 1 1 1) (view 1 1 1 1 ∷ []) (tallied 1 1 0 1 0 0)
      ∷ sheet_5
      ∷ sheet_6
      ∷ sheet_7
      -- a or b
      ∷ entry (sheet (a ∷ b ∷ []) (rule 3 0 0 0 0 0 0 0 ∷ [])) (numbers 2 1 0) (view 0 0 3 2 ∷ []) (tallied 1 0 0 1 0 0)
      ∷ sheet_9
      -- c ← M a; a ← b; b ← a
      ∷ entry (sheet (a ∷ b ∷ c ∷ []) (rule 4 0 0 0 0 0 1 0 ∷ rule 1 2 0 0 0 0 0 0 ∷ rule 2 1 0 0 0 0 0 0 ∷ [])) (numbers 3 3 1)
      (view 0 0 0 1 ∷ []) (tallied 1 0 0 2 0 1)
      ∷ []

-- the example of `views`: glaze or bisque; ← not K glaze
abbrev pub kiln : Listed
kiln = entry bytes (numbers 2 2 1) (view 0 1 1 1 ∷ []) (tallied 1 0 1 1 0 0)
  where
    glaze : List ℕ
    glaze = 5 ∷ 103 ∷ 108 ∷ 97 ∷ 122 ∷ 101 ∷ []

    bisque : List ℕ
    bisque = 6 ∷ 98 ∷ 105 ∷ 115 ∷ 113 ∷ 117 ∷ 101 ∷ []

    -- "second rule: ten zero bytes, 1, five zero bytes"
    bytes : List ℕ
    bytes = 2 ∷ glaze ++ bisque ++ 2 ∷ (3 ∷ zeros 15) ++ (zeros 10 ++ 1 ∷ zeros 5) ++ 0 ∷ []
