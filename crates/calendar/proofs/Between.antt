-- From one minute at which an entry begins or ends to the next such minute the rules in force do not change. Assumes nothing.
use Prim.Native.Nat.{ℕ, zero, suc, ◌≤◌, ◌<◌}
use mathlib.Core.Path.{◌≡◌, refl, sym, ap, ap₂, ◌∙◌}
use mathlib.Core.Bool.{Bool, true, false, ◌&&◌, not, cond, true≢false}
use mathlib.Core.List.{List, [], ◌∷◌, ◌++◌, append-nil, foldl}
use mathlib.Core.Logic.{◌⊎◌, inl, inr, ⊎_elim}
use native.Mathlib.Omega.{arith}
use native.Mathlib.Nat.{eq-or-lt_of_le, le_of_suc-le-suc}
use borrow.Author.Tests.{ltb-true, ltb-false}
use lib.Dec.{ltb, eqb}
use Rattle.sets.specs.Decides.{is_true}
use Rattle.sets.specs.Lists.{◌among◌, nowhere, first_or_later, keep, only, keep_snoc, up_to}
use Rattle.semantics.specs.Definitions.Calendar.{Entry, last_minute, earlier, rules_in_force, changes_at, minutes_of_change}
use Rattle.semantics.specs.Theorems.InForce.{AllProper, NoEnd}
use Rattle.semantics.proofs.Theorems.InForce.{no_change}
use Rattle.semantics.proofs.Theorems.Changes.{dec_changes, minute_listed, unchanged}
use Rattle.calendar.specs.Next.{nearer_to, with_ends, next_of}

-- ---- the next minute at which an entry begins or ends
-- r is no later than the best, after the minute where the best is, and `at` does not lie between the minute and r
record Nearer (minute best at r : ℕ) : Type 0 where
  after : minute < best → minute < r
  most : r ≤ best
  passed : at ≤ minute ⊎ r ≤ at

nearer_is : (minute best at : ℕ) → Nearer minute best at (nearer_to minute best at)
nearer_is minute best at = go (ltb minute at) (ltb at best) refl refl
  where
    go : (a b : Bool) → ltb minute at ≡ a → ltb at best ≡ b → Nearer minute best at (cond (a && b) at best)
    go true true d e =
        let l = ltb-true minute at d in
        let h = ltb-true at best e in
        record { after = λ _. l; most = omega arith; passed = inr (omega arith) }
    go true false d e =
        let h = ltb-false at best e in
        record { after = λ z. z; most = omega arith; passed = inr (omega arith) }
    go false b d e =
        let l = ltb-false minute at d in
        record { after = λ z. z; most = omega arith; passed = inl (omega arith) }

module _ (minute : ℕ) where
  -- r is no later than the best, after the minute where that is, and no entry begins or ends between
  record Next (best : ℕ) (es : List Entry) (r : ℕ) : Type 0 where
    after : minute < best → minute < r
    most : r ≤ best
    passed : (e : Entry) → e among es → (e.first ≤ minute ⊎ r ≤ e.first) × (e.end ≤ minute ⊎ r ≤ e.end)

  earliest : {at r r' : ℕ} → r' ≤ r → at ≤ minute ⊎ r ≤ at → at ≤ minute ⊎ r' ≤ at
  earliest h = ⊎_elim inl (λ l. inr (omega arith))

  next_is : (best : ℕ) (es : List Entry) → Next best es (foldl (with_ends minute) best es)
  next_is best [] = record { after = λ z. z; most = omega arith; passed = λ e m. absurd (nowhere m) }
  next_is best (e ∷ es) =
      let one = nearer_is minute best e.first in
      let two = nearer_is minute (nearer_to minute best e.first) e.end in
      let rest = next_is (with_ends minute best e) es in
      let low = two.most in
      let lower = rest.most in
      record {
        after = λ z. rest.after (two.after (one.after z));
        most = omega (arith, one.most);
        passed = λ d m. ⊎_elim
            (λ same. rw same (earliest (omega arith) one.passed, earliest (omega arith) two.passed))
            (rest.passed d) (first_or_later m);
      }

module _ (minute : ℕ) (es : List Entry) (real : minute ≤ last_minute) where
  found : Next minute (suc last_minute) es (next_of minute es)
  unfolding next_of
  found = next_is minute (suc last_minute) es

  pub next_after : minute < next_of minute es
  next_after = found.after (omega arith)

  pub next_most : next_of minute es ≤ suc last_minute
  next_most = found.most

  none_there : (b : ℕ) → minute < b → b < next_of minute es → NoEnd es b
  none_there b l h e m =
      let (first, end) = found.passed e m in
      (λ z. ⊎_elim (λ p. omega arith) (λ p. omega arith) first, λ z. ⊎_elim (λ p. omega arith) (λ p. omega arith) end)

  module _ (rules : ℕ) (good : AllProper rules es) where
    still : (b : ℕ) → minute < b → b < next_of minute es → changes_at es rules b ≡ false
    still b l h = no_change rules es good b (none_there b l h)

    -- up to a later minute that is not after the next one: the list of those before it, and the rules in force just before it
    list_stays : (b : ℕ) → minute < b → b ≤ next_of minute es → keep (changes_at es rules) (up_to b) ≡ keep (changes_at es rules) (up_to (suc minute))
    unfolding up_to
    list_stays zero l h = absurd (omega arith)
    list_stays (suc b) l h =
        ⊎_elim
        (λ same. ap (λ z. keep (changes_at es rules) (up_to (suc z))) (sym same))
        (λ later.
        keep_snoc (changes_at es rules) (up_to b) b ∙ ap (λ t. keep (changes_at es rules) (up_to b) ++ only t b) (still b later (omega arith))
        ∙ append-nil _ ∙ list_stays b later (omega arith))
        (eq-or-lt_of_le (le_of_suc-le-suc l))

    force_stays : (b : ℕ) → minute ≤ b → b < next_of minute es → rules_in_force es rules b ≡ rules_in_force es rules minute
    force_stays b l h =
        sym (unchanged es rules minute b l (omega (arith, next_most)) (λ c after within m.
        true≢false (sym (is_true (dec_changes es rules c) ((minute_listed es rules c).0 m).1) ∙ still c after (omega arith))))

    -- just before the next minute
    force_before : (b : ℕ) → minute < b → b ≤ next_of minute es → rules_in_force es rules minute ≡ rules_in_force es rules (earlier b)
    force_before zero l h = absurd (omega arith)
    force_before (suc b) l h = sym (force_stays b (omega arith) (omega arith))

-- ---- the loop: the minutes of change before a minute, and the rules in force just before it
module _ (es : List Entry) (rules : ℕ) where
  pub record Listed (minute before : ℕ) (list : List ℕ) : Type 0 where
    pub week : minute ≤ suc last_minute
    pub force : before ≡ rules_in_force es rules (earlier minute)
    pub listed : list ≡ keep (changes_at es rules) (up_to minute)

  pub begun : {before : ℕ} → before ≡ rules_in_force es rules last_minute → Listed 0 before []
  unfolding up_to keep
  begun e = record { week = omega arith; force = e; listed = refl }

  pub turned : AllProper rules es → {minute before held : ℕ} {list : List ℕ} → Listed minute before list → minute ≤ last_minute
      → held ≡ rules_in_force es rules minute → Listed (next_of minute es) held (list ++ only (not (eqb held before)) minute)
  unfolding up_to
  turned good {minute} {before} {held} {list} so real e =
      let after = next_after minute es real in
      let most = next_most minute es real in
      let changes : not (eqb held before) ≡ changes_at es rules minute = ap₂ (λ a b. not (eqb a b)) e so.force in
      record {
        week = most;
        force = e ∙ force_before minute es real rules good (next_of minute es) after (omega arith);
        listed =
            ap₂ (λ l t. l ++ only t minute) so.listed changes ∙ sym (keep_snoc (changes_at es rules) (up_to minute) minute)
            ∙ sym (list_stays minute es real rules good (next_of minute es) after (omega arith));
      }

  pub ended : {minute before : ℕ} {list : List ℕ} → Listed minute before list → suc last_minute ≤ minute → list ≡ minutes_of_change es rules
  unfolding minutes_of_change
  ended {minute} so h =
      let same : minute ≡ suc last_minute = omega (arith, so.week) in
      so.listed ∙ ap (λ m. keep (changes_at es rules) (up_to m)) same
