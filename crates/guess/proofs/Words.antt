-- A program in words, as it is written: one word, four words, one rule more. Assumes nothing.
use Prim.Native.Nat.{ℕ, ◌+◌, ◌*◌, ◌≤◌, ◌<◌}
use mathlib.Core.Path.{◌≡◌}
use mathlib.Core.List.{List}
use native.Mathlib.Omega.{arith}
use borrow.Author.Rules.{rules}
use borrow.Rule.Slice.PartMut.{put_mid}
use Rattle.std.proofs.lemmas.Slice.{take-put_mid_below}
use Rattle.std.proofs.lemmas.List.{places}
use lib.ListN.{length, take, get_or}
use Rattle.sets.specs.Lists.{map_up_to_same}
use Rattle.semantics.specs.Words.{word_stays, word_of, rule_in, program_in}

-- ---- a program in words: its rules before n stand in the words before 4 * n
rules_stay : (words others : List ℕ) (n : ℕ) → take (4 * n) words ≡ take (4 * n) others → (j : ℕ) → j < n → rule_in words j ≡ rule_in others j
rules_stay words others n e j h = cc (word 0 (omega arith), word 1 (omega arith), word 2 (omega arith), word 3 (omega arith))
  where
    word : (i : ℕ) → i < 4 → word_of words j i ≡ word_of others j i
    word i l = word_stays (4 * n) words others e (4 * j + i) (omega arith)

pub program_stays : (words others : List ℕ) (n : ℕ) → take (4 * n) words ≡ take (4 * n) others → program_in words n ≡ program_in others n
unfolding program_in
program_stays words others n e = map_up_to_same (rule_in words) (rule_in others) n (rules_stay words others n e)

-- ---- a rule is written as rule n, its four words at once
module _ (out rule : List ℕ) (n k : ℕ) (there : 4 * n ≤ length out) (whole : length rule ≡ 4) where
  pub before_stays : take (4 * n) (put_mid (4 * n) k out rule) ≡ take (4 * n) out
  before_stays = take-put_mid_below (4 * n) k out rule (4 * n) (omega arith) there

  pub rule_put : rule_in (put_mid (4 * n) k out rule) n ≡ rule_in rule 0
  rule_put = cc (word 0 (omega arith), word 1 (omega arith), word 2 (omega arith), word 3 (omega arith))
    where
      word : (t : ℕ) → t < 4 → get_or (put_mid (4 * n) k out rule) (4 * n + t) 0 ≡ get_or rule t 0
      word t h = search (rules, places)
