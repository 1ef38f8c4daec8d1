-- Where the parts of an accepted sheet lie in its bytes. Assumes nothing.
-- Here the definitions; the theorems are in proofs/Theorems/Accepted.antt.
use Rattle.std.specs.Prelude.{ℕ, ◌+◌, ◌*◌, ◌≤◌, ◌≡◌}
use mathlib.Core.List.{List, []}
use Rattle.std.proofs.Math.ListN.{length}
use Rattle.semantics.specs.Definitions.Reading.{field, times}
use Rattle.semantics.specs.Definitions.Sheet.{Sheet, byte_at, name_at, rule_at, pair_at, most_atoms, most_rules, most_pairs, longest_sheet}
use Rattle.semantics.specs.Fields.{names_from, after_names, rules_from, pairs_from}

-- what the reading of names and rules came through; the number of rules stands at `counted_at`
pub record FrontRead (s : List ℕ) (names rules : List (List ℕ)) (rules_at end : ℕ) : Type 0 where
  pub few_atoms : length names ≤ most_atoms
  pub atoms_byte : byte_at s 0 ≡ length names
  pub some_bytes : 1 ≤ length s
  pub counted_at : ℕ
  pub names-read : times (length names) [] (name_at s) 1 ≡ field names counted_at
  pub few_rules : length rules ≤ most_rules
  pub rules_byte : byte_at s counted_at ≡ length rules
  pub more_bytes : counted_at + 1 ≤ length s
  pub after_count : rules_at ≡ counted_at + 1
  pub rules-read : times (length rules) [] (λ _. rule_at s (length names)) rules_at ≡ field rules end

-- what the reading of the sections came through; the number of pairs stands at `pairs_counted`
pub record Read (s : List ℕ) (x : Sheet) (end : ℕ) : Type 0 where
  pub pairs_counted : ℕ
  pub front_read : FrontRead s x.names x.rules x.rules_at pairs_counted
  pub few_pairs : length x.pairs ≤ most_pairs
  pub pairs_byte : byte_at s pairs_counted ≡ length x.pairs
  pub last_bytes : pairs_counted + 1 ≤ length s
  pub pairs-read : times (length x.pairs) [] (pair_at s (length x.names)) (pairs_counted + 1) ≡ field x.pairs end
  pub ends : end ≡ length s

-- where the parts of the sheet x, read to the place `end`, lie in the bytes s
pub record Lies (s : List ℕ) (x : Sheet) (end : ℕ) : Type 0 where
  pub ends : end ≡ length s
  -- "the longest sheet is 1,236"; the shortest has three counts
  pub not_long : length s ≤ longest_sheet
  pub not_short : 3 ≤ length s
  pub atoms_byte : byte_at s 0 ≡ length x.names
  pub names_lie : x.names ≡ names_from s (length x.names) 1
  pub rules_begin : x.rules_at ≡ after_names s (length x.names) 1 + 1
  pub rules_byte : byte_at s (after_names s (length x.names) 1) ≡ length x.rules
  pub rules_lie : x.rules ≡ rules_from s (length x.rules) x.rules_at
  pub pairs_byte : byte_at s (x.rules_at + 16 * length x.rules) ≡ length x.pairs
  pub pairs_lie : x.pairs ≡ pairs_from s (length x.pairs) (x.rules_at + 16 * length x.rules + 1)
  pub whole : x.rules_at + 16 * length x.rules + 1 + 2 * length x.pairs ≡ length s
