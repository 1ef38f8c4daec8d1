-- `views::listing` is safe: the records of the views that were counted stand in the words lent, and the listing is not refused. Assumes
-- nothing.
use mathlib.Core.Path.{refl}
use native.Mathlib.Omega.{arith}
use Rattle.views.proofs.Refusals.{without_masks, listing_fits}
use Rattle.views.proofs.listing.Goals as goal

pub each_view-requires : goal.each_view-requires
each_view-requires c =
    let a = c.args in
    let r = c.in-Ok.ensures.listing_demand.listing-written _ refl in
    record {
      n_in_bounds = omega (arith, r.fits);
      sheet_value = (r.of, without_masks a.sheet.now r.accepts, r.records);
    }

pub unreachable-requires : goal.unreachable-requires
unreachable-requires c =
    let a = c.args in
    let (s, h) = c.requires in
    listing_fits a.sheet.now h _ (c.in-Err.ensures.listing_day.both_zero refl refl).0 (omega arith) refl
