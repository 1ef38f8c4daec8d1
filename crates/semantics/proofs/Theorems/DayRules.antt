-- Document 02, K3: the day's constraints, and the pairs of K7, written into the sheet as rules. Where these and the sheet's own rules are at most
-- 64 together, the answers under masks are those of the sheet so written. Assumes nothing.
use Rattle.std.specs.Prelude.{ℕ, ◌+◌, ◌^◌, ◌≤◌, ◌<◌, ◌≡◌, refl, List, [], ◌++◌, map, length}
use Rattle.std.proofs.Common.{sym, ap, ◌∙◌, subst, ⊎_elim, length-append}
use Rattle.std.proofs.lemmas.List.{map-append, length-map}
use Rattle.sets.specs.Lists.{all_append, among-map}
use Rattle.sets.specs.Sets.{Below, AllBelow, size}
use Rattle.sets.specs.Members.{below_power}
use Rattle.sets.specs.Size.{size-members_of}
use Rattle.semantics.specs.Definitions.Reading.{field}
use Rattle.semantics.specs.Definitions.Sheet.{Sheet, atoms, most_rules}
use Rattle.semantics.specs.Definitions.Check.{opposed, unpaired, setting, opened, of_sheet}
use Rattle.semantics.specs.Definitions.Returned.{accepted}
use Rattle.semantics.specs.Definitions.Day.{must_have, must_lack, day_constraints, under, of_day}
use Rattle.semantics.specs.Words.{eight_masks}
use Rattle.semantics.specs.Theorems.Layout.{sheet_bytes, Fits}
use Rattle.semantics.proofs.Theorems.Layout.{accepted_fits}
use Rattle.semantics.proofs.Theorems.Source.{sheet_accepted}
use Rattle.semantics.proofs.Theorems.Constraints.{add-add}
use Rattle.semantics.proofs.Theorems.Written.{∅_below, single_below, masks_below, written_fits, written-bytes}
use Rattle.semantics.proofs.Theorems.Opposites.{opposed_below}
use Rattle.semantics.proofs.Theorems.Day.{among_day}
use Rattle.semantics.specs.Theorems.DaySource.{MasksFit}
use Rattle.semantics.proofs.Theorems.DaySource.{masks_accepted}
use Rattle.semantics.specs.Theorems.DayRules.{constraints_under, written_rules}

-- one for each atom of each mask
pub day_long : (ins outs : ℕ) → length (day_constraints ins outs) ≡ size ins + size outs
unfolding day_constraints
day_long ins outs = simp (length-append, length-map, size-members_of)

-- their masks have no atom but those of the masks given
day_below : (n ins outs : ℕ) → ins < 2 ^ n → outs < 2 ^ n → AllBelow n (map eight_masks (day_constraints ins outs))
day_below n ins outs l l' r m =
    let (c, o, e) = (among-map eight_masks (day_constraints ins outs)).0 m in
    subst (Below n) (sym e) (⊎_elim
    (λ (a, h, d). subst (λ z. Below n (eight_masks z)) (sym d) (masks_below n (must_have a) (∅_below n) (∅_below n) (single_below n l h) (∅_below n)))
    (λ (a, h, d). subst (λ z. Below n (eight_masks z)) (sym d) (masks_below n (must_lack a) (∅_below n) (single_below n l' h) (∅_below n) (∅_below n)))
    ((among_day ins outs).0 o))

module _ (s : List ℕ) (x : Sheet) (end : ℕ) (e : opened s ≡ field x end) (ins outs : ℕ) (fit : MasksFit ins outs (atoms x))
    (few : length x.rules + length (constraints_under x ins outs) ≤ most_rules) where
  written_below : AllBelow (atoms x) (written_rules x ins outs)
  written_below =
      let n = atoms x in
      let pairs = opposed_below n x.pairs (accepted_fits s x end e).disjoint.below in
      let day = day_below n ins outs ((below_power n ins).1 fit.in_below) ((below_power n outs).1 fit.out_below) in
      rw (map-append eight_masks (map opposed x.pairs) (day_constraints ins outs)) (all_append (Below n) (map eight_masks (map opposed x.pairs)) pairs day)

  -- where none is "beyond the 64", the sheet with the constraints written is a sheet
  pub day_fits : Fits x.names (x.rules ++ written_rules x ins outs) []
  day_fits = written_fits s x end e (constraints_under x ins outs) written_below few

  pub day_bytes : of_sheet (sheet_bytes x.names (x.rules ++ written_rules x ins outs) []) ≡ accepted (under ins outs (setting x))
  day_bytes =
      written-bytes s x end e (constraints_under x ins outs) written_below few
      ∙ ap accepted (sym (add-add (map opposed x.pairs) (day_constraints ins outs) (unpaired x)))

  -- "With masks, right means right for the sheet with those constraints added": every call answers under masks as for these bytes
  pub as_rules : of_day s ins outs ≡ of_sheet (sheet_bytes x.names (x.rules ++ written_rules x ins outs) [])
  as_rules = (masks_accepted (of_sheet s) ins outs (under ins outs (setting x))).1 (setting x, (sheet_accepted s (setting x)).1 (x, end, e, refl), fit, refl) ∙ sym day_bytes
