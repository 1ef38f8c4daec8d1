-- A sheet that is opened and then its calendar, and the rules in force and the pairs that are loaded: the source at a minute. Assumes nothing.
use Prim.Native.Nat.{ℕ, ◌+◌, ◌*◌, ◌≤◌, ◌<◌}
use mathlib.Core.Path.{◌≡◌, refl, sym, ap, ap₂, ◌∙◌, subst}
use mathlib.Core.List.{List, [], ◌++◌, map}
use mathlib.Core.Logic.{inl, inr}
use native.Mathlib.Omega.{arith}
use lib.ListN.{length, get_or, take}
use Rattle.sets.specs.Decides.{dec_one, dec_iff, dec_self}
use Rattle.sets.specs.Lists.{all_append, up_to, among-up_to, map_keep_same}
use Rattle.sets.specs.Sets.{◌∈?◌, ∅, Below, AllBelow}
use Rattle.sets.specs.Members.{dec_∈}
use Rattle.semantics.specs.Definitions.Sheet.{Sheet, atoms, rule_of_masks, most_atoms, most_rules}
use Rattle.semantics.specs.Definitions.Setting.{setting_of, k}
use Rattle.semantics.specs.Definitions.Check.{most_negations, setting, opened}
use Rattle.semantics.specs.Definitions.Calendar.{Entry, last_minute, most_entries, calendar_of, in_force, at_minute, rules_in_force, of_minute}
use Rattle.semantics.specs.Definitions.Returned.{accepted}
use Rattle.semantics.specs.Definitions.Day.{under}
use Rattle.semantics.specs.Words.{program_room, pairs_written, rules_in}
use Rattle.semantics.proofs.Theorems.Accepted.{accepted_read}
use Rattle.semantics.proofs.Theorems.CalendarExact.{calendar-read}
use Rattle.semantics.specs.Theorems.InForce.{AllProper}
use Rattle.semantics.proofs.Theorems.InForce.{∈-rules_in_force}
use Rattle.semantics.proofs.Theorems.Minute.{minute_fits}
use Rattle.semantics.proofs.Theorems.Opposites.{opposed_below, pairs_as_rules}
use Rattle.semantics.proofs.Theorems.Day.{under_nothing}
use Rattle.semantics.specs.Theorems.CalendarCalls.{Both, TurnedAway}
use Rattle.semantics.proofs.Theorems.CalendarCalls.{minute_given, minute_refused}
use Rattle.sheet.specs.declared.Contents.{Contents}
use Rattle.sheet.specs.Opened.{contents, opened_of, opened_as, opened_refused, Holds}
use Rattle.opened.specs.Loaded.{LoadsOnly}
use Rattle.calendar.specs.declared.hours.Entry.{Entry as Held}
use Rattle.calendar.specs.Entries.{entries_in, entries_long, Entries}
use Rattle.semantics.specs.Definitions.Reading.{field}
use Rattle.calendar.specs.Steps.{reading_by}
use Rattle.guess.specs.declared.outline.Outline.{Outline}
use Rattle.guess.specs.Programs.{unmasked_in, setting_in, WithinLimits, Outlines}
use Rattle.std.specs.Prelude.{Result, Ok, Err}
use Rattle.answers.specs.Refusals.{number_of}
use Rattle.answers.specs.declared.refusal.Refusal.{Refusal}
use Rattle.sheet.specs.Refused.{refusal_of}
use Rattle.source.specs.Sources.{Scheduled, Reads, ReadsBoth}
use Rattle.source.proofs.Opened.{few_loaded}

-- ---- a sheet, and then a calendar
module _ (s c : List ℕ) (entries : List Held) where
  module _ {x : Contents} (opens : opened_of (opened s) ≡ Ok x) {r : Result ℕ Refusal}
      (reads : calendar_of c x.rules ≡ reading_by (λ n. field (entries_in (take n entries)) (length c)) r) where
    pub both_read : {n : ℕ} → r ≡ Ok n → n ≤ length entries → ReadsBoth s c (Ok (x, n)) entries
    both_read {n} told room =
        let (y, end, d, is) = opened_as (opened s) opens in
        let of : calendar_of c (length y.rules) ≡ calendar_of c x.rules = ap (λ z. calendar_of c z.rules) (sym is) in
        let read = of ∙ reads ∙ ap (reading_by (λ n. field (entries_in (take n entries)) (length c))) told in
        (y, entries_in (take n entries), record { end = end; opens = d; calendar_end = length c; reads = read }, is, sym (entries_long entries n room), refl)

    pub calendar_turned_back : {q : Refusal} → r ≡ Err q → ReadsBoth s c (Err q) entries
    calendar_turned_back told =
        let (y, end, d, is) = opened_as (opened s) opens in
        let of : calendar_of c (length y.rules) ≡ calendar_of c x.rules = ap (λ z. calendar_of c z.rules) (sym is) in
        inr (y, end, d, of ∙ reads ∙ ap (reading_by (λ n. field (entries_in (take n entries)) (length c))) told)

  pub sheet_turned_back : {q : Refusal} → opened_of (opened s) ≡ Err q → ReadsBoth s c (Err q) entries
  sheet_turned_back e = inl (opened_refused s e)

-- ---- what was read of both
module _ (s c : List ℕ) (entries : List Held) (r : Scheduled) (h : ReadsBoth s c r entries) where
  pub turned_back : {q : Refusal} → r ≡ Err q → TurnedAway s c (number_of q.reason) q.place
  turned_back told = subst (λ z. ReadsBoth s c z entries) told h

  module _ {x : Contents} {n : ℕ} (told : r ≡ Ok (x, n)) where
    both : ReadsBoth s c (Ok (x, n)) entries
    both = subst (λ z. ReadsBoth s c z entries) told h

    pub sheet-said : Sheet
    sheet-said = both.0

    pub entries_read : List Entry
    entries_read = both.1

    pub accepts : Both s c sheet-said entries_read
    unfolding sheet-said entries_read
    accepts = both.2

    pub is : x ≡ contents sheet-said
    unfolding sheet-said
    is = both.3

    pub same_entries : entries_in (take n entries) ≡ entries_read
    unfolding entries_read
    same_entries = both.5

    pub few_said : x.rules ≤ most_rules
    few_said = subst (λ z. z.rules ≤ most_rules) (sym is) (accepted_read s sheet-said accepts.end accepts.opens).0.front_read.few_rules

    pub few_entries : n ≤ most_entries
    unfolding entries_read
    few_entries = omega (arith, (calendar-read c _ entries_read accepts.calendar_end accepts.reads).few_entries, both.4)

    pub entries_stand : Entries x.rules (take n entries)
    unfolding entries_read
    entries_stand =
        let read = calendar-read c _ entries_read accepts.calendar_end accepts.reads in
        let good : AllProper x.rules entries_read = subst (λ z. AllProper z.rules entries_read) (sym is) read.all_proper in
        record {
          few_rules = few_said;
          all_proper = subst (AllProper x.rules) (sym same_entries) good;
        }

    pub holds : Holds s x
    holds = (sheet-said, accepts.end, accepts.opens, is)

    -- ---- at a minute
    module _ (minute : ℕ) where
      pub minute_over : (words : List ℕ) → last_minute < minute → Reads (of_minute s c minute) (Err (refusal_of 12 0)) words
      minute_over words l = (minute_refused s c minute 12 0).1 (inr (sheet-said, entries_read, accepts, l, refl, refl))

      -- the rules in force were loaded
      module _ (words : List ℕ) (set kept : ℕ) (force : set ≡ rules_in_force (entries_in (take n entries)) x.rules minute) (few-kept : kept ≤ x.rules + x.pairs)
          (loads : LoadsOnly s set kept words) (room : 8 * program_room ≤ length words) where
        left : Sheet
        left = at_minute entries_read minute sheet-said

        forced : set ≡ rules_in_force entries_read (length sheet-said.rules) minute
        forced = force ∙ ap₂ (λ es m. rules_in_force es m minute) same_entries (ap (λ z. z.rules) is)

        chosen : (i : ℕ) → i < length sheet-said.rules → (i ∈? set) ≡ in_force entries_read minute i
        chosen i l =
            let both = ∈-rules_in_force entries_read (length sheet-said.rules) minute i in
            ap (λ z. i ∈? z) forced ∙ dec_one (dec_∈ i _) (dec_iff (λ e. both.1 (l, e), λ m. (both.0 m).1) (dec_self (in_force entries_read minute i)))

        rules-left : rules_in words kept ≡ left.rules ++ pairs_written left.pairs
        unfolding left
        rules-left =
            loads sheet-said accepts.end accepts.opens
            ∙ ap (λ rules. rules ++ pairs_written sheet-said.pairs)
            (map_keep_same (λ i. i ∈? set) (in_force entries_read minute) (λ i. get_or sheet-said.rules i []) (λ i. get_or sheet-said.rules i [])
            (up_to (length sheet-said.rules)) (λ i m. (chosen i ((among-up_to (length sheet-said.rules)).0 m), refl)))

        same-atoms : x.atoms ≡ atoms sheet-said
        same-atoms = ap (λ z. z.atoms) is

        means : setting_of x.atoms (map rule_of_masks (rules_in words kept)) ≡ setting left
        unfolding left
        means = ap₂ (λ a rules. setting_of a (map rule_of_masks rules)) same-atoms rules-left ∙ pairs_as_rules left

        all_below : AllBelow (atoms sheet-said) (left.rules ++ pairs_written left.pairs)
        unfolding left
        all_below =
            let fits = minute_fits entries_read minute sheet-said s accepts.end accepts.opens in
            all_append (Below (atoms sheet-said)) left.rules fits.front_fits.masks_below (opposed_below (atoms sheet-said) sheet-said.pairs fits.disjoint.below)

        pub within_left : WithinLimits x.atoms kept words
        unfolding left
        within_left =
            let fits = (minute_fits entries_read minute sheet-said s accepts.end accepts.opens).front_fits in
            let few : kept ≤ program_room = omega (arith, few-kept, few_loaded s holds) in
            record {
              few_atoms = subst (λ a. a ≤ most_atoms) (sym same-atoms) fits.few_names;
              few_rules = few;
              stand = omega (arith, few, room);
              below = subst (AllBelow x.atoms) (sym rules-left) (subst (λ a. AllBelow a (left.rules ++ pairs_written left.pairs)) (sym same-atoms) all_below);
              few_negations = subst (λ z. k z ≤ most_negations) (sym means) fits.few_negations;
            }

        -- an outline of these rules, without masks
        pub minute_reads : minute ≤ last_minute → (o : Outline) → (o.atoms ≡ x.atoms) × (o.rules ≡ kept) × (o.ins ≡ ∅) × (o.outs ≡ ∅) → Outlines o words
            → Reads (of_minute s c minute) (Ok o) words
        unfolding left
        minute_reads l o (a, m, i, q) outlines =
            let rules : unmasked_in o words ≡ setting left = ap₂ (λ p q. setting_of p (map rule_of_masks (rules_in words q))) a m ∙ means in
            let same : setting_in o words ≡ setting left = (λ j. under (i j) (q j) (rules j)) ∙ under_nothing (setting left) in
            (outlines, minute_given s c minute accepts l ∙ ap accepted (sym same))
