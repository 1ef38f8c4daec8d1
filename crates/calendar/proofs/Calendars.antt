-- The whole calendar, from the answers of its steps. Assumes nothing.
use Prim.Native.Nat.{ℕ, ◌≤◌}
use mathlib.Core.Path.{◌≡◌, ◌∙◌}
use mathlib.Core.List.{List, []}
use lib.ListN.{length}
use Rattle.sets.specs.Decides.{dec_eq, is_true, is_false}
use Rattle.semantics.specs.Definitions.Reading.{field, refused, times}
use Rattle.semantics.specs.Definitions.Sheet.{count_at}
use Rattle.semantics.specs.Definitions.Calendar.{Entry, most_entries, entry_at, calendar_of}
use Rattle.semantics.proofs.Theorems.Fields.{count_field}

module _ (c : List ℕ) (rules : ℕ) where
  pub count_refused : {number place : ℕ} → count_at c most_entries 0 ≡ refused number place → calendar_of c rules ≡ refused number place
  unfolding calendar_of
  count_refused e = rw e

  module _ {n : ℕ} (counted : count_at c most_entries 0 ≡ field n 1) where
    pub few_counted : n ≤ most_entries
    few_counted = let (_, _, few, _) = count_field c most_entries 0 n 1 counted in few

    pub entries_refused : {number place : ℕ} → times n [] (λ _. entry_at c rules) 1 ≡ refused number place → calendar_of c rules ≡ refused number place
    unfolding calendar_of
    entries_refused e = rw (counted, e)

    module _ {es : List Entry} {end : ℕ} (all : times n [] (λ _. entry_at c rules) 1 ≡ field es end) where
      pub no_more : end ≡ length c → calendar_of c rules ≡ field es (length c)
      unfolding calendar_of
      no_more whole = rw (counted, all, is_true (dec_eq end (length c)) whole) (λ i. field es (whole i))

      pub extra : (end ≡ length c → ⊥) → calendar_of c rules ≡ refused 6 end
      unfolding calendar_of
      extra more = rw (counted, all, is_false (dec_eq end (length c)) more)
