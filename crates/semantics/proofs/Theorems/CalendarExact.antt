-- A calendar is accepted, or refused with a number and a place, exactly where its bytes are as CalendarCases.antt says. Assumes nothing.
use Rattle.std.specs.Prelude.{ℕ, suc, ◌+◌, ◌<◌, ◌≡◌, List, [], ◌↔◌, leb, eqb, length}
use Rattle.std.proofs.Math.Path.{sym, ap, ap₂}
use Rattle.std.proofs.Common.{◌∙◌, subst, ⊎_elim}
use native.Mathlib.Omega.{arith}
use Rattle.std.proofs.lemmas.List.{length-map}
use Rattle.sets.specs.Decides.{unequal, is_true, is_false, dec_eq, dec_le}
use Rattle.sets.specs.Lists.{◌among◌, up_to, among-map, among-up_to, length-up_to}
use Rattle.semantics.specs.Definitions.Reading.{Reading, field, refused, ◌then◌, require, times}
use Rattle.semantics.specs.Definitions.Sheet.{byte_at, count_at}
use Rattle.semantics.specs.Definitions.Calendar.{most_entries, Entry, proper, entry_at, calendar_of}
use Rattle.semantics.specs.Theorems.Reading.{field_same, require-passes, require_fails}
use Rattle.semantics.specs.Theorems.Turns.{YieldBefore, stops_at, all_yield}
use Rattle.semantics.specs.Theorems.InForce.{Proper, dec_proper}
use Rattle.semantics.specs.Theorems.CalendarCases.{entry_place, entry_by, entries_of_bytes, Stands, ProperAt, GoodBefore, CountStands, NoCount, TooMany, CalendarRefuses, CalendarAccepts, calendar_decided}
use Rattle.semantics.specs.Theorems.CalendarExact.{EntriesRead}

module _ (c : List ℕ) (rules : ℕ) where
  -- ---- one entry
  abbrev judged : (i : ℕ) → Reading Entry
  judged i = require (proper rules (entry_by c i)) 11 (entry_place i) (field (entry_by c i) (entry_place i + 5))

  entry_good : (i : ℕ) → Stands c i → ProperAt c rules i → entry_at c rules (entry_place i) ≡ field (entry_by c i) (entry_place (suc i))
  unfolding entry_at
  entry_good i s p =
      let z : entry_place i + 5 ≡ entry_place (suc i) = omega arith in
      require-passes 1 (length c) (judged i) (is_true (dec_le (entry_place i + 5) (length c)) s)
      ∙ require-passes 11 (entry_place i) (field (entry_by c i) (entry_place i + 5)) (is_true (dec_proper rules (entry_by c i)) p)
      ∙ ap (field (entry_by c i)) z

  entry_cut : (i : ℕ) → (Stands c i → ⊥) → entry_at c rules (entry_place i) ≡ refused 1 (length c)
  unfolding entry_at
  entry_cut i s = require_fails 1 (length c) (judged i) (is_false (dec_le (entry_place i + 5) (length c)) s)

  entry-bad : (i : ℕ) → Stands c i → (ProperAt c rules i → ⊥) → entry_at c rules (entry_place i) ≡ refused 11 (entry_place i)
  unfolding entry_at
  entry-bad i s p =
      require-passes 1 (length c) (judged i) (is_true (dec_le (entry_place i + 5) (length c)) s)
      ∙ require_fails 11 (entry_place i) (field (entry_by c i) (entry_place i + 5)) (is_false (dec_proper rules (entry_by c i)) p)

  -- ---- the entries, n of them
  abbrev step : List Entry → ℕ → Reading Entry
  step _ = entry_at c rules

  good_yield : (i : ℕ) → GoodBefore c rules i → YieldBefore step (entry_by c) entry_place i
  good_yield i g j l = let (s, p) = g j l in entry_good j s p

  -- ---- the whole
  abbrev ending : List Entry → ℕ → Reading (List Entry)
  ending es end = require (eqb end (length c)) 6 end (field es end)

  abbrev from_count : ℕ → ℕ → Reading (List Entry)
  from_count n at = times n [] step at then ending

  abbrev few_or_many : Reading ℕ
  few_or_many = require (leb (byte_at c 0) most_entries) 2 0 (field (byte_at c 0) 1)

  after_count : CountStands c → calendar_of c rules ≡ (times (byte_at c 0) [] step 1 then ending)
  unfolding calendar_of count_at
  after_count (l, few) =
      ap (λ r. r then from_count)
      (require-passes 1 (length c) few_or_many (is_true (dec_le 1 (length c)) l)
      ∙ require-passes 2 0 (field (byte_at c 0) 1) (is_true (dec_le (byte_at c 0) most_entries) few))

  no_count : (number place : ℕ) → NoCount c number place → calendar_of c rules ≡ refused number place
  unfolding calendar_of count_at
  no_count number place h =
      let none = h.no_bytes in
      ap (λ r. r then from_count)
      (require_fails 1 (length c) few_or_many (is_false (dec_le 1 (length c)) (λ l. omega arith)))
      ∙ ap₂ refused (sym h.numbered) (none ∙ sym h.placed)

  too_many : (number place : ℕ) → TooMany c number place → calendar_of c rules ≡ refused number place
  unfolding calendar_of count_at
  too_many number place h =
      let many = h.many in
      ap (λ r. r then from_count)
      (require-passes 1 (length c) few_or_many (is_true (dec_le 1 (length c)) h.some_bytes)
      ∙ require_fails 2 0 (field (byte_at c 0) 1) (is_false (dec_le (byte_at c 0) most_entries) (λ l. omega arith)))
      ∙ ap₂ refused (sym h.numbered) (sym h.placed)

  -- the reading stops at the entry i, those before it being good
  stopped : (i number place : ℕ) → CountStands c → i < byte_at c 0 → GoodBefore c rules i → entry_at c rules (entry_place i) ≡ refused number place
      → calendar_of c rules ≡ refused number place
  stopped i number place counted l g e =
      after_count counted
      ∙ ap (λ r. r then ending)
      (stops_at step (entry_by c) entry_place (byte_at c 0) i l (good_yield i g) e)

  -- all entries are good
  all_read : CountStands c → GoodBefore c rules (byte_at c 0) → calendar_of c rules ≡ ending (entries_of_bytes c (byte_at c 0)) (entry_place (byte_at c 0))
  all_read counted g =
      let n = byte_at c 0 in
      after_count counted
      ∙ ap (λ r. r then ending) (all_yield step (entry_by c) entry_place n (good_yield n g))

  refuses : (number place : ℕ) → CalendarRefuses c rules number place → calendar_of c rules ≡ refused number place
  refuses number place =
      ⊎_elim (no_count number place) (⊎_elim (too_many number place) (⊎_elim
      (λ h. stopped h.entry 1 (length c) h.counted h.of_count h.good_before (entry_cut h.entry h.cut)
      ∙ ap₂ refused (sym h.numbered) (sym h.placed)) (⊎_elim
      (λ h. stopped h.entry 11 (entry_place h.entry) h.counted h.of_count h.good_before (entry-bad h.entry h.stands h.not_proper)
      ∙ ap₂ refused (sym h.numbered) (sym h.placed))
      (λ h.
      let more = h.more in
      let n = byte_at c 0 in
      all_read h.counted h.all_good
      ∙ require_fails 6 (entry_place n) (field (entries_of_bytes c n) (entry_place n)) (is_false (dec_eq (entry_place n) (length c)) (λ e. omega arith))
      ∙ ap₂ refused (sym h.numbered) (sym h.placed)))))

  accepts : (entries : List Entry) (end : ℕ) → CalendarAccepts c rules entries end → calendar_of c rules ≡ field entries end
  accepts entries end h =
      let n = byte_at c 0 in
      all_read h.counted h.all_good
      ∙ require-passes 6 (entry_place n) (field (entries_of_bytes c n) (entry_place n)) (is_true (dec_eq (entry_place n) (length c)) (sym h.whole))
      ∙ ap₂ field (sym h.entries_lie) (sym (h.ends ∙ h.whole))

  pub calendar_refused_exactly : (number place : ℕ) → calendar_of c rules ≡ refused number place ↔ CalendarRefuses c rules number place
  calendar_refused_exactly number place = (
    λ e. ⊎_elim
        (λ (es, end, h). let d = sym (accepts es end h) ∙ e in unequal cc)
        (λ (m, p, h).
        let d = sym (refuses m p h) ∙ e in
        let n : m ≡ number = cc in
        let q : p ≡ place = cc in
        subst (CalendarRefuses c rules number) q (subst (λ k. CalendarRefuses c rules k p) n h))
        (calendar_decided c rules),
    refuses number place,
  )

  pub calendar_accepted_exactly : (entries : List Entry) (end : ℕ) → calendar_of c rules ≡ field entries end ↔ CalendarAccepts c rules entries end
  calendar_accepted_exactly entries end = (
    λ e. ⊎_elim
        (λ (es, m, h).
        let (same, last) = field_same (sym (accepts es m h) ∙ e) in
        rw (same, last) h)
        (λ (m, p, h). let d = sym (refuses m p h) ∙ e in unequal cc)
        (calendar_decided c rules),
    accepts entries end,
  )

-- ---- the entries of an accepted calendar
pub calendar-read : (c : List ℕ) (rules : ℕ) (entries : List Entry) (end : ℕ) → calendar_of c rules ≡ field entries end → EntriesRead c rules entries
calendar-read c rules entries end e =
    let h = (calendar_accepted_exactly c rules entries end).0 e in
    let n = byte_at c 0 in
    let many : length entries ≡ n = ap length h.entries_lie ∙ length-map (up_to n) (entry_by c) ∙ length-up_to n in
    record {
      count_byte = sym many;
      few_entries = omega (arith, h.counted.1);
      all_proper = λ x m.
          let (i, k, same) = (among-map (entry_by c) (up_to n)).0 (subst (λ l. x among l) h.entries_lie m) in
          subst (Proper rules) (sym same) (h.all_good i ((among-up_to n).0 k)).1;
    }
