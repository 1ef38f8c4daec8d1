-- The rules and pairs of a sheet as the code holds them, in words. Assumes nothing.
use Rattle.std.specs.Prelude.{ℕ, ◌+◌, ◌*◌, ◌<◌, cond, ◌≡◌, List, [], ◌++◌, map, eqb, length, get_or}
use Rattle.sets.specs.Lists.{keep, up_to}
use Rattle.sets.specs.Sets.{◌∈?◌}
use Rattle.semantics.specs.Definitions.Reading.{field}
use Rattle.semantics.specs.Definitions.Sheet.{Sheet, byte_at}
use Rattle.semantics.specs.Definitions.Check.{opened}
use Rattle.semantics.specs.Words.{pairs_written, rules_in}

-- ---- rules
-- so many rules in the words are the rules of the sheet that the bytes are
abbrev pub RulesLoad : List ℕ → (rules : ℕ) → (words : List ℕ) → Type 0
RulesLoad s rules words = (x : Sheet) (end : ℕ) → opened s ≡ field x end → rules_in words rules ≡ x.rules

-- those rules of the sheet whose numbers are in a set, in their order
abbrev pub rules_only : (set : ℕ) → Sheet → List (List ℕ)
rules_only set x = map (λ i. get_or x.rules i []) (keep (λ i. i ∈? set) (up_to (length x.rules)))

abbrev pub RulesLoadOnly : List ℕ → (set rules : ℕ) → (words : List ℕ) → Type 0
RulesLoadOnly s set rules words = (x : Sheet) (end : ℕ) → opened s ≡ field x end → rules_in words rules ≡ rules_only set x

-- ---- pairs
-- the masks of a constraint with these atoms plain
abbrev pub constraint_masks : (plain : ℕ) → List ℕ
constraint_masks plain = map (λ i. cond (eqb i 1) plain 0) (up_to 8)

-- the bytes of so many pairs from a place are below 16, each a bit of a word
abbrev pub Atoms : List ℕ → (from pairs : ℕ) → Type 0
Atoms s from pairs = (i : ℕ) → i < 2 * pairs → byte_at s (from + i) < 16

-- ---- both
-- so many rules in the words are the rules of the sheet that the bytes are, and then its pairs
abbrev pub Loads : List ℕ → (rules : ℕ) → (words : List ℕ) → Type 0
Loads s rules words = (x : Sheet) (end : ℕ) → opened s ≡ field x end → rules_in words rules ≡ x.rules ++ pairs_written x.pairs

-- those rules of the sheet whose numbers are in a set, in their order, and then its pairs
abbrev pub LoadsOnly : List ℕ → (set rules : ℕ) → (words : List ℕ) → Type 0
LoadsOnly s set rules words = (x : Sheet) (end : ℕ) → opened s ≡ field x end → rules_in words rules ≡ rules_only set x ++ pairs_written x.pairs
