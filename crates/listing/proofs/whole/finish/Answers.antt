-- `listing::whole::finish` meets its contract. Assumes nothing.
use Prim.Native.Nat.{ℕ}
use mathlib.Core.Path.{◌≡◌, sym, subst}
use mathlib.Core.List.{List, ◌++◌}
use lib.ListN.{length, take}
use lib.Seq.{take_at}
use Rattle.guess.specs.declared.outline.Outline.{Outline}
use Rattle.lanes.specs.declared.noted.Entry.{Entry}
use Rattle.verdicts.specs.Tables.{Tabled}

-- the planes as they are lent once more: the front of what they are the front of
tabled_front : {x : Outline} {words free active : List ℕ} {table : List Entry} {n : ℕ} (rest rest' : List ℕ) → length free ≡ n → length active ≡ n → Tabled x words free active table
    → Tabled x words (take n (free ++ rest)) (take n (active ++ rest')) table
tabled_front {x} {words} {free} {active} {table} {n} rest rest' e d t =
    subst (λ z. Tabled x words z (take n (active ++ rest')) table) (sym (take_at free rest n e)) (subst (λ z. Tabled x words free z table) (sym (take_at active rest' n d)) t)
