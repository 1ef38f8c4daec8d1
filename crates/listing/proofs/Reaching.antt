-- A paused listing along a list of guesses: how it goes on, and where it stands. Assumes nothing.
use Prim.Native.Nat.{ℕ, suc, ◌+◌, ◌*◌, ◌^◌, ◌≤◌, ◌<◌}
use mathlib.Core.Path.{◌≡◌, refl, sym, ap, ◌∙◌, subst}
use mathlib.Core.Bool.{true, false, true≢false}
use mathlib.Core.List.{List, [], ◌∷◌}
use native.Mathlib.Omega.{arith}
use borrow.Author.Tests.{lt-ltb}
use lib.Dec.{ltb}
use lib.ListN.{length, get_or, drop}
use lib.Pow.{pow_mono}
use lib.Seq.{drop-cons, drop-length}
use Rattle.std.specs.Prelude.{is_some}
use Rattle.sets.specs.Decides.{is_false, dec_self}
use Rattle.sets.specs.Lists.{keep, keep_cons}
use Rattle.semantics.specs.Definitions.Setting.{k}
use Rattle.semantics.specs.Definitions.Check.{most_negations}
use Rattle.semantics.specs.Definitions.Order.{members_below}
use Rattle.semantics.specs.Walk.{records_room, Walked, walk}
use Rattle.semantics.specs.Theorems.Order.{Enumerates}
use Rattle.semantics.specs.Theorems.Tally.{AtMost}
use Rattle.semantics.specs.Theorems.Tests.{StandsAt}
use Rattle.semantics.proofs.Theorems.Tests.{stands_end, stands_waiting}
use Rattle.guess.specs.declared.outline.Outline.{Outline}
use Rattle.guess.specs.Programs.{setting_in, Outlines}
use Rattle.listing.specs.declared.paused.Paused.{Paused}
use Rattle.records.specs.Records.{views_in, LargerFirst}
use Rattle.records.specs.Outcomes.{tally_from}
use Rattle.listing.specs.Walks.{walked_in}
use Rattle.listing.specs.Pauses.{fresh, waits, Ready, Advanced, Along, Stands}
use Rattle.listing.proofs.Along.{passed, passed_begin, along_first, along_more, along_same, counts_few, views_fewer}
use Rattle.listing.proofs.Levels.{along_levels}
use Rattle.listing.proofs.Pausing.{some_rules}

module _ {x : Outline} {words : List ℕ} (order : List ℕ) (o : Outlines x words) (en : Enumerates x.negations (members_below x.negations order)) where
  -- ---- on the way
  module _ {p : Paused} {program records : List ℕ} (a : Along x words order p program records) where
    -- what a step asks of it
    pub few_counts : AtMost (tally_from p.tally) (2 ^ most_negations)
    few_counts = omega (arith, counts_few x.negations order en (setting_in x words) p.at a.walked, pow_mono o.few_negations)

    pub larger_first : LargerFirst records p.tally.views
    larger_first = along_levels (setting_in x words) x.negations order en p.at p.tally records a.walked

    pub room_left : 4 * records_room ≤ length records → p.at < length order → get_or order p.at 0 < 2 ^ x.negations → 4 * p.tally.views + 4 ≤ length records
    room_left room h below = omega (arith, room, views_fewer x.negations order en (setting_in x words) p.at a.walked h below, pow_mono o.few_negations)

    -- a guess further
    module _ {most : ℕ} {r : Paused} {program' records' : List ℕ} (h : p.at < length order) (below : get_or order p.at 0 < 2 ^ x.negations) where
      pub along_passed : waits r ≡ false → Advanced x words (get_or order p.at 0) most p records r program' records' → Along x words order r program' records'
      along_passed e step =
          let (at, few, walk) = step.where_passed e in
          record {
            within = omega (arith, at, h);
            walked = along_more (setting_in x words) x.negations order p.at h a.walked below walk ∙ ap (λ i. walk_at i) (sym at);
            waiting = λ rules d. absurd (true≢false (sym (ap is_some d) ∙ e));
          }
        where
          walk_at : ℕ → Walked
          walk_at i = walk (setting_in x words) (passed x.negations order i)

      pub along_waiting : waits r ≡ true → Advanced x words (get_or order p.at 0) most p records r program' records' → Along x words order r program' records'
      along_waiting e step =
          let (n, told) = some_rules r.waiting e in
          let (at, spent, same, ready) = step.where_waits n told in
          record {
            within = omega (arith, at, h);
            walked = same ∙ a.walked ∙ ap (λ i. walk (setting_in x words) (passed x.negations order i)) (sym at);
            waiting = λ rules d. (
              omega (arith, at, h),
              subst (λ i. get_or order i 0 < 2 ^ x.negations) (sym at) below,
              subst (λ i. Ready x words (get_or order i 0) (views_in records' r.tally.views) program' rules) (sym at) (step.where_waits rules d).3,
            );
          }

    -- an entry that is no guess
    pub along_over : p.at < length order → 2 ^ x.negations ≤ get_or order p.at 0
        → Along x words order (record { at = p.at + 1; tally = p.tally; waiting = p.waiting }) program records
    along_over h beyond = record {
      within = omega (arith, h);
      walked = along_same (setting_in x words) x.negations order p.at h a.walked beyond;
      waiting = λ rules e. absurd (omega (arith, beyond, (a.waiting rules e).1));
    }

  -- ---- where it stands
  module _ (n : ℕ) {p : Paused} {program records : List ℕ} (a : Along x words order p program records) where
    enumerates : Enumerates (k (setting_in x words)) (members_below (k (setting_in x words)) order)
    enumerates = subst (λ j. Enumerates j (members_below j order)) o.counted en

    walked : walked_in p.tally records ≡ walk (setting_in x words) (passed (k (setting_in x words)) order p.at)
    walked = a.walked ∙ ap (λ j. walk (setting_in x words) (passed j order p.at)) o.counted

    pub at_end : p.at ≡ length order → p.tally.tested ≤ n → Stands (setting_in x words) order n p records
    unfolding keep
    at_end end few =
        let j = k (setting_in x words) in
        let e : waits p ≡ false = is_false (dec_self (waits p)) (λ d. let (rules, told) = some_rules p.waiting d in omega (arith, end, (a.waiting rules told).0)) in
        let none : members_below j (drop p.at order) ≡ [] = ap (members_below j) (ap (λ i. drop i order) end ∙ drop-length order) in
        subst (λ b. StandsAt (setting_in x words) (members_below j order) n p.tally.tested (views_in records p.tally.views) b) (sym e)
        (stands_end (setting_in x words) (members_below j order) enumerates (passed j order p.at) (members_below j (drop p.at order)) (sym (passed_begin j order p.at)) walked none few)

    pub at-waiting : waits p ≡ true → p.tally.tested ≡ n → Stands (setting_in x words) order n p records
    at-waiting e spent =
        let j = k (setting_in x words) in
        let g = get_or order p.at 0 in
        let (rules, told) = some_rules p.waiting e in
        let (h, below, ready) = a.waiting rules told in
        let here : g < 2 ^ j = subst (λ i. g < 2 ^ i) o.counted below in
        let next : members_below j (drop p.at order) ≡ g ∷ members_below j (drop (suc p.at) order) = ap (members_below j) (drop-cons order p.at 0 h)
        ∙ keep_cons (λ y. ltb y (2 ^ j)) g (drop (suc p.at) order) ∙ rw (lt-ltb g (2 ^ j) here) refl in
        subst (λ b. StandsAt (setting_in x words) (members_below j order) n p.tally.tested (views_in records p.tally.views) b) (sym e)
        (stands_waiting (setting_in x words) (members_below j order) enumerates (passed j order p.at) (members_below j (drop p.at order)) (sym (passed_begin j order p.at)) walked g
        (members_below j (drop (suc p.at) order)) next spent ready.uncovered ready.free)

-- before the first guess
pub along_start : (x : Outline) (words order program records : List ℕ) → Along x words order fresh program records
along_start x words order program records = record {
  within = omega arith;
  walked = along_first (setting_in x words) x.negations order records;
  waiting = λ rules d. absurd (true≢false (sym (ap is_some d)));
}
