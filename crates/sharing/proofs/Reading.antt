-- The sheets so far as they are read. Assumes nothing.
use Prim.Native.Nat.{ℕ, zero, suc, ◌+◌, ◌≤◌, ◌<◌}
use mathlib.Core.Path.{◌≡◌, refl, sym, subst}
use mathlib.Core.List.{List, [], ◌∷◌}
use mathlib.Core.Logic.{⊎_elim}
use native.Mathlib.Nat.{eq-or-lt_of_le, le_of_suc-le-suc, not-suc-le-zero}
use native.Mathlib.Omega.{arith}
use lib.ListN.{length, get_or, set}
use lib.Seq.{get_or-set_same, get_or-set_other}
use Rattle.semantics.specs.Definitions.Check.{of_sheet}
use Rattle.semantics.specs.Definitions.Day.{of_day}
use Rattle.semantics.proofs.Theorems.DaySource.{no_masks}
use Rattle.source.specs.Sources.{Source}
use Rattle.source.specs.Sources.{Reads}
use Rattle.sharing.specs.Held.{unread, ReadTo}

-- within the list it is one entry, whatever stands for those beyond
pub get_or_within : {A : Type 0} (l : List A) (i : ℕ) (d e : A) → i < length l → get_or l i d ≡ get_or l i e
get_or_within [] i d e h = absurd (not-suc-le-zero h)
get_or_within (x ∷ l) zero d e h = refl
get_or_within (x ∷ l) (suc i) d e h = get_or_within l i d e (le_of_suc-le-suc h)

-- one sheet more
pub read_more : (sheets : List (List ℕ)) (sources : List Source) (words : List (List ℕ)) (p : ℕ) (x : Source) (ws : List ℕ) → p < length sources → p < length words
    → ReadTo sources words sheets p → Reads (of_day (get_or sheets p []) 0 0) x ws → ReadTo (set sources p x) (set words p ws) sheets (p + 1)
read_more sheets sources words p x ws h k before now q l =
    let upto : q ≤ p = omega (arith, l) in
    ⊎_elim here there (eq-or-lt_of_le upto)
  where
    Goal : ℕ → Type 0
    Goal n = Reads (of_sheet (get_or sheets n [])) (get_or (set sources p x) n unread) (get_or (set words p ws) n [])

    here : q ≡ p → Goal q
    here e =
        subst Goal (sym e) (subst (λ s. Reads (of_sheet (get_or sheets p [])) s (get_or (set words p ws) p [])) (sym (get_or-set_same sources p x unread h))
        (subst (Reads (of_sheet (get_or sheets p [])) x) (sym (get_or-set_same words p ws [] k)) (subst (λ from. Reads from x ws) (no_masks (of_sheet (get_or sheets p []))) now)))

    there : q < p → Goal q
    there b =
        let other : q ≡ p → ⊥ = λ e. omega (arith, e, b) in
        subst (λ s. Reads (of_sheet (get_or sheets q [])) s (get_or (set words p ws) q [])) (sym (get_or-set_other sources p q x unread other))
        (subst (Reads (of_sheet (get_or sheets q [])) (get_or sources q unread)) (sym (get_or-set_other words p q ws [] other)) (before q b))
