-- Entries, as they are read one by one, and the reading that they are. Assumes nothing.
use Prim.Native.Nat.{ℕ, ◌+◌, ◌*◌, ◌-◌, ◌≤◌, ◌<◌}
use mathlib.Core.Path.{◌≡◌, refl, sym, ap, ap₂, ◌∙◌}
use mathlib.Core.Bool.{Bool, true, false, not, ◌||◌}
use mathlib.Core.List.{List, [], ◌∷◌, ◌++◌, map-append}
use native.Mathlib.Omega.{arith}
use native.Mathlib.Numerals.{add-one}
use borrow.Author.Tests.{lt-ltb, le-ltb, le-leb, lt-leb}
use lib.Dec.{leb, eqb}
use lib.ListN.{length, take, set}
use lib.Seq.{take-suc-set}
use Rattle.std.specs.List.{list_any}
use Rattle.sets.specs.Lists.{◌among◌, null, keep, among-map, get_or-among}
use Rattle.semantics.specs.Definitions.Reading.{Reading, field, refused, times}
use Rattle.semantics.specs.Definitions.Sheet.{byte_at, word_at}
use Rattle.semantics.specs.Definitions.Calendar.{Entry, last_minute, proper, entry_from, entry_at, entries_of}
use Rattle.semantics.specs.Theorems.Turns.{starts, goes_on, stops, is_done}
use Rattle.calendar.specs.declared.hours.Entry.{Entry as Held}
use Rattle.calendar.specs.Entries.{entry_of, entries_in, entries_none, nth}

-- an entry more is written after the first i
pub entry-added : (out : List Held) (i : ℕ) (e : Held) → i < length out → entries_in (take (i + 1) (set out i e)) ≡ entries_in (take i out) ++ entry_of e ∷ []
unfolding entries_in
entry-added out i e h = rw (add-one, take-suc-set out i e h) (map-append entry_of (take i out) (e ∷ []))

pub entry-among : (es : List Held) (i : ℕ) → i < length es → entry_of (nth es i) among entries_in es
unfolding entries_in
entry-among es i h = (among-map entry_of es).1 (nth es i, get_or-among es _ i h, refl)

-- some entry has the rule
pub restricted_so : (rule : ℕ) (es : List Held) → list_any (λ e. eqb e.rule rule) es ≡ not (null (entries_of (entries_in es) rule))
unfolding entries_in keep
restricted_so rule [] = refl
restricted_so rule (e ∷ es) = go (eqb e.rule rule) refl (restricted_so rule es)
  where
    go : (b : Bool) → eqb e.rule rule ≡ b → list_any (λ d. eqb d.rule rule) es ≡ not (null (entries_of (entries_in es) rule)) → (eqb e.rule rule || list_any (λ d. eqb d.rule rule) es) ≡ not (null (entries_of (entries_in (e ∷ es)) rule))
    go true told rest = rw told refl
    go false told rest = rw told rest

-- ---- what is asked of an entry, one thing after the other
module _ (rules : ℕ) (e : Entry) where
  pub no_rule : rules ≤ e.rule → false ≡ proper rules e
  no_rule h = rw (le-ltb e.rule rules h)

  module _ (on_sheet : e.rule < rules) where
    pub first-over : last_minute < e.first → false ≡ proper rules e
    first-over h = rw (lt-ltb e.rule rules on_sheet, lt-leb e.first last_minute h)

    module _ (begins : e.first ≤ last_minute) where
      pub end_over : last_minute < e.end → false ≡ proper rules e
      end_over h = rw (lt-ltb e.rule rules on_sheet, le-leb e.first last_minute begins, lt-leb e.end last_minute h)

      pub by_ends : e.end ≤ last_minute → not (eqb e.first e.end) ≡ proper rules e
      by_ends h = rw (lt-ltb e.rule rules on_sheet, le-leb e.first last_minute begins, le-leb e.end last_minute h)

-- ---- one step of the bytes c at a place
module _ (c : List ℕ) (rules at : ℕ) where
  module _ (there : leb (at + 5) (length c) ≡ true) {e : Entry} (is : e ≡ entry_from c at) where
    pub entered_so : proper rules e ≡ true → entry_at c rules at ≡ field e (at + 5)
    unfolding entry_at
    entered_so good = rw (there, sym (ap (proper rules) is) ∙ good) (ap (λ z. field z (at + 5)) (sym is))

    pub eleven_so : proper rules e ≡ false → entry_at c rules at ≡ refused 11 at
    unfolding entry_at
    eleven_so bad = rw (there, sym (ap (proper rules) is) ∙ bad)

  pub short_so : leb (at + 5) (length c) ≡ false → entry_at c rules at ≡ refused 1 (length c)
  unfolding entry_at
  short_so short = rw short

-- ---- the loop over the entries of the bytes c
module _ (c : List ℕ) (rules n : ℕ) where
  abbrev pub whole : Reading (List Entry)
  whole = times n [] (λ _. entry_at c rules) 1

  -- i entries are read, and the rest is read from a place
  pub record Reached (out : List Held) (at i : ℕ) : Type 0 where
    pub few : i ≤ n
    pub place : at ≡ 1 + 5 * i
    pub left : whole ≡ times (n - i) (entries_in (take i out)) (λ _. entry_at c rules) at

  pub entered : (out : List Held) → Reached out 1 0
  entered out = record { few = omega arith; place = omega arith; left = starts (λ _. entry_at c rules) n 1 ∙ rw entries_none }

  module _ {out : List Held} {at i : ℕ} (reached : Reached out at i) where
    pub refuses : i < n → {number place : ℕ} → entry_at c rules at ≡ refused number place → whole ≡ refused number place
    refuses h e = stops (λ _. entry_at c rules) n i at (entries_in (take i out)) reached.left h e

    pub turned : i < n → i < length out → {e : Held} → entry_at c rules at ≡ field (entry_of e) (at + 5) → Reached (set out i e) (at + 5) (i + 1)
    turned h room {e} read =
        let left = goes_on (λ _. entry_at c rules) n i at (entries_in (take i out)) reached.left h read in
        record {
          few = omega arith;
          place = omega (arith, reached.place);
          left = left ∙ ap (λ es. times (n - (i + 1)) es (λ _. entry_at c rules) (at + 5)) (sym (entry-added out i e room));
        }

    pub finished : n ≤ i → whole ≡ field (entries_in (take n out)) at
    finished h =
        let same : i ≡ n = omega (arith, reached.few) in
        is_done (λ _. entry_at c rules) n i at (entries_in (take i out)) reached.left h ∙ ap (λ m. field (entries_in (take m out)) at) same
