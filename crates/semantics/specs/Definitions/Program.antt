-- Document 01, "Query and program": what the program `views` prints, as bytes.
use Rattle.std.specs.Prelude.{ℕ, zero, suc, ◌+◌, ◌/◌, ◌%◌, cond, List, [], ◌∷◌, ◌++◌, map, ltb, length, get_or, take}
use Prim.Native.Char.{code}
use Prim.Native.String.{String, [] as []ᵗ, ◌∷◌ as ◌∷ᵗ◌}
use Rattle.sets.specs.Lists.{keep, flat, up_to}
use Rattle.sets.specs.Sets.{◌∈?◌}
use Rattle.semantics.specs.Definitions.Reading.{Reading, field, refused}
use Rattle.semantics.specs.Definitions.Sheet.{Sheet, longest_sheet}
use Rattle.semantics.specs.Definitions.Check.{setting, opened, Numbers, numbers_of}
use Rattle.semantics.specs.Definitions.Verdict.{belief_sets}
use Rattle.semantics.specs.Definitions.Listing.{Tally, six, tally_of, View, listing}

-- ---- fields
-- the bytes of a text
abbrev pub bytes : String → List ℕ
bytes []ᵗ = []
bytes (c ∷ᵗ text) = code c ∷ bytes text

-- "numbers are base ten": the digits of n, at most so many, the last one last
unfoldable pub digits : (most n : ℕ) → List ℕ
digits zero n = []
digits (suc most) n = cond (ltb n 10) ((48 + n) ∷ []) (digits most (n / 10) ++ (48 + n % 10) ∷ [])

-- n has at most n + 1 digits
abbrev pub decimal : ℕ → List ℕ
decimal n = digits (suc n) n

-- "names go by atom number": the names of the atoms in a set
unfoldable pub names_of : (names : List (List ℕ)) (set : ℕ) → List (List ℕ)
names_of names set = map (λ a. get_or names a []) (keep (λ a. a ∈? set) (up_to (length names)))

-- ---- lines
-- "Fields are parted by one space", "each line ends with byte 10": the first field, and the others
abbrev pub line : List ℕ → List (List ℕ) → List ℕ
line first others = first ++ flat (λ f. 32 ∷ f) others ++ 10 ∷ []

-- "`sheet` with atoms, rules, k"
abbrev pub sheet_line : Numbers → List ℕ
sheet_line n = line (bytes "sheet") (decimal n.atoms ∷ decimal n.rules ∷ decimal n.negations ∷ [])

-- "`view`, guess, number of sets, names of the known atoms"
abbrev pub view_line : (names : List (List ℕ)) (guess sets known : ℕ) → List ℕ
view_line names guess sets known = line (bytes "view") (decimal guess ∷ decimal sets ∷ names_of names known)

-- "`set` and its names"
abbrev pub set_line : (names : List (List ℕ)) (set : ℕ) → List ℕ
set_line names set = line (bytes "set") (names_of names set)

-- "`tally` with views, covered, ruled, tested, empty, other"
abbrev pub tally_line : Tally → List ℕ
tally_line t = line (bytes "tally") (map decimal (six t))

-- "`refused`, number, place"
abbrev pub refused_line : (number place : ℕ) → List ℕ
refused_line number place = line (bytes "refused") (decimal number ∷ decimal place ∷ [])

-- ---- all lines
-- "for each view `view`, [..] then for each belief set `set`"
abbrev view_lines : Sheet → View → List ℕ
view_lines x v = view_line x.names v.guess v.sets v.known ++ flat (set_line x.names) (belief_sets (setting x) v.guess)

-- "Or it prints only `refused`, number, place."
abbrev lines_of : Reading Sheet → List ℕ
lines_of (field x end) = sheet_line (numbers_of x) ++ flat (view_lines x) (listing (setting x)) ++ tally_line (tally_of (setting x))
lines_of (refused number place) = refused_line number place

-- "reads one sheet from standard input"; document 02, K7: "up to 1,237 bytes, since the longest sheet is 1,236"
abbrev pub most_read : ℕ
most_read = longest_sheet + 1

unfoldable pub printed : (input : List ℕ) → List ℕ
printed input = lines_of (opened (take most_read input))
