-- The minutes of change, looked for only where an entry begins or ends: the same list, which can be computed (Examples/Changed.antt). Assumes
-- nothing.
use Rattle.std.specs.Prelude.{ℕ, ◌≤◌, ◌<◌, ◌≡◌, refl, Bool, true, false, cond, List, [], ◌∷◌, ◌↔◌, ◌⊎◌, ltb, eqb, length}
use Rattle.std.proofs.Common.{sym, ap, ◌∙◌, inl, inr, ⊎_elim, arith, lt_trans, ltb-true, ltb-false, eqb-true}
use mathlib.Core.List.Memᴰ
use Rattle.std.proofs.lemmas.Bool.{eqb-false}
use Rattle.sets.specs.Decides.{is_true}
use Rattle.sets.specs.Lists.{◌among◌, here, later, nowhere, first_or_later, all_cons, keep, among-keep}
use Rattle.sets.specs.Pairwise.{Pairwise, pairwise_keep, sorted_same}
use Rattle.semantics.specs.Definitions.Reading.{Reading, field, refused}
use Rattle.semantics.specs.Definitions.Sheet.{Sheet}
use Rattle.semantics.specs.Definitions.Check.{opened}
use Rattle.semantics.specs.Definitions.Returned.{Returned, read, ◌and_then◌, limited}
use Rattle.semantics.specs.Definitions.Calendar.{last_minute, Entry, calendar_of, changes_at, minutes_of_change, with_calendar, changes_call}
use Rattle.semantics.specs.Theorems.InForce.{AllProper}
use Rattle.semantics.proofs.Theorems.CalendarExact.{calendar-read}
use Rattle.semantics.proofs.Theorems.Changes.{dec_changes, minute_listed, minutes_rise, listed_end}
use Rattle.semantics.specs.Theorems.Ends.{inserted, ends_of, changes_at_ends}

-- ---- numbers put in their place
among-inserted : (x : ℕ) (l : List ℕ) {z : ℕ} → z among inserted x l ↔ ((z ≡ x) ⊎ (z among l))
unfolding inserted
among-inserted x [] = (first_or_later, ⊎_elim Memᴰ.head (λ m. absurd (nowhere m)))
among-inserted x (y ∷ l) {z} = go (ltb x y) (eqb x y) refl (among-inserted x l)
  where
    go : (a b : Bool) → eqb x y ≡ b → z among inserted x l ↔ ((z ≡ x) ⊎ (z among l))
        → z among cond a (x ∷ y ∷ l) (cond b (y ∷ l) (y ∷ inserted x l)) ↔ ((z ≡ x) ⊎ (z among (y ∷ l)))
    go true b e ih = (first_or_later, ⊎_elim Memᴰ.head later)
    go false true e ih = (inr, ⊎_elim (λ q. Memᴰ.head (q ∙ eqb-true x y e)) (λ m. m))
    go false false e ih = (
      λ m. ⊎_elim (λ q. inr (Memᴰ.head q)) (λ k. ⊎_elim inl (λ j. inr (later j)) (ih.0 k)) (first_or_later m),
      ⊎_elim (λ q. later (ih.1 (inl q))) (λ m. ⊎_elim Memᴰ.head (λ k. later (ih.1 (inr k))) (first_or_later m)),
    )

inserted_rises : (x : ℕ) (l : List ℕ) → Pairwise ◌<◌ l → Pairwise ◌<◌ (inserted x l)
unfolding inserted
inserted_rises x [] p = (λ y m. absurd (nowhere m), tt)
inserted_rises x (y ∷ l) p = go (ltb x y) (eqb x y) refl refl (inserted_rises x l p.1)
  where
    go : (a b : Bool) → ltb x y ≡ a → eqb x y ≡ b → Pairwise ◌<◌ (inserted x l)
        → Pairwise ◌<◌ (cond a (x ∷ y ∷ l) (cond b (y ∷ l) (y ∷ inserted x l)))
    go true b t e ih = let o = ltb-true x y t in (all_cons (λ z. x < z) o (λ z k. lt_trans o (p.0 z k)), p)
    go false true t e ih = p
    go false false t e ih =
        let o = ltb-false x y t in
        let n = eqb-false x y e in
        let less : y < x = omega arith in
        (λ z m. ⊎_elim (λ q. rw q less) (p.0 z) ((among-inserted x l).0 m), ih)

-- ---- the first minutes and the ends of entries, rising
pub ends_rise : (es : List Entry) → Pairwise ◌<◌ (ends_of es)
unfolding ends_of
ends_rise [] = tt
ends_rise (e ∷ es) = inserted_rises e.first _ (inserted_rises e.end _ (ends_rise es))

-- an entry begins or ends at the minute
abbrev EndsAt : List Entry → ℕ → Type 0
EndsAt es minute = (e : Entry) × (e among es) × ((e.first ≡ minute) ⊎ (e.end ≡ minute))

pub among-ends_of : (es : List Entry) (minute : ℕ) → minute among ends_of es ↔ EndsAt es minute
unfolding ends_of
among-ends_of [] minute = ((λ m. absurd (nowhere m)), λ p. absurd (nowhere p.1))
among-ends_of (e ∷ es) minute =
    let ih = among-ends_of es minute in
    let outer = among-inserted e.first (inserted e.end (ends_of es)) in
    let inner = among-inserted e.end (ends_of es) in (
      λ m. ⊎_elim (λ q. (e, here, inl (sym q)))
          (λ k. ⊎_elim (λ q. (e, here, inr (sym q))) (λ j. let (d, i, o) = ih.0 j in (d, later i, o)) (inner.0 k)) (outer.0 m),
      λ (d, i, o). ⊎_elim
          (λ q. ⊎_elim (λ f. outer.1 (inl (sym f ∙ ap (λ z. z.first) q))) (λ f. outer.1 (inr (inner.1 (inl (sym f ∙ ap (λ z. z.end) q))))) o)
          (λ k. outer.1 (inr (inner.1 (inr (ih.1 (d, k, o)))))) (first_or_later i),
    )

pub at_ends : (rules : ℕ) (es : List Entry) → AllProper rules es → minutes_of_change es rules ≡ keep (changes_at es rules) (ends_of es)
at_ends rules es all =
    sorted_same ◌<◌ (λ x y l h. omega arith) (minutes_of_change es rules) (keep (changes_at es rules) (ends_of es)) (minutes_rise es rules)
    (pairwise_keep ◌<◌ (changes_at es rules) (ends_of es) (ends_rise es))
    (λ m. (
      λ k. (among-keep (changes_at es rules) (ends_of es)).1
          ((among-ends_of es m).1 (listed_end es rules all m k), is_true (dec_changes es rules m) ((minute_listed es rules m).0 k).1),
      λ k. let (j, t) = (among-keep (changes_at es rules) (ends_of es)).0 k in
          (minute_listed es rules m).1 (bound m ((among-ends_of es m).0 j), (dec_changes es rules m).yes t),
    ))
  where
    bound : (m : ℕ) → EndsAt es m → m ≤ last_minute
    bound m (e, k, o) = let p = all e k in ⊎_elim (λ q. omega (arith, p.first_minute)) (λ q. omega (arith, p.end_minute)) o

-- ---- the call, so
module _ {A : Type 0} (sheet calendar : List ℕ) (rest other : Sheet → List Entry → Returned A)
    (same : (x : Sheet) (es : List Entry) → AllProper (length x.rules) es → rest x es ≡ other x es) where
  calendar-same : (x : Sheet) (r : Reading (List Entry)) → calendar_of calendar (length x.rules) ≡ r
      → (read r and_then rest x) ≡ (read r and_then other x)
  calendar-same x (field es end) e = same x es (calendar-read calendar (length x.rules) es end e).all_proper
  calendar-same x (refused number place) e = refl

  both_same : with_calendar sheet calendar rest ≡ with_calendar sheet calendar other
  both_same = go (opened sheet)
    where
      go : (r : Reading Sheet) → (read r and_then λ x. read (calendar_of calendar (length x.rules)) and_then rest x)
          ≡ (read r and_then λ x. read (calendar_of calendar (length x.rules)) and_then other x)
      go (field x end) = calendar-same x (calendar_of calendar (length x.rules)) refl
      go (refused number place) = refl

pub changes_at_ends_lem : (sheet calendar : List ℕ) (words : ℕ) → changes_call sheet calendar words ≡ changes_at_ends sheet calendar words
unfolding changes_call changes_at_ends
changes_at_ends_lem sheet calendar words =
    both_same sheet calendar _ _ (λ x es all. ap (λ l. limited (length l) words (length l) l) (at_ends (length x.rules) es all))
