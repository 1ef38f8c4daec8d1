-- The minutes of change: which they are, that they rise and are few, and that between two of them the rules in force stay the same.
-- Assumes nothing.
use Prim.Native.Nat.{ℕ, zero, suc, ◌*◌, ◌≤◌, ◌<◌}
use Rattle.std.specs.Prelude.{◌≡◌, refl, Bool, true, false, ◌||◌, List, ◌++◌, map, ◌↔◌, ◌⊎◌, eqb, length}
use Rattle.std.proofs.Common.{sym, ap, ◌∙◌, true≢false, inl, inr, ⊎_elim, eq-or-lt_of_le, le_of_suc-le-suc, not-suc-le-zero, length-append}
use native.Mathlib.Omega.{arith}
use Rattle.std.proofs.lemmas.List.{length-map}
use Rattle.sets.specs.Decides.{Decides, decided, dec_iff, dec_not, dec_or, dec_eq, is_true}
use Rattle.sets.specs.Lists.{◌among◌, up_to, among-append, among-map, among-kept, dec_some}
use Rattle.sets.specs.Pairwise.{Pairwise, Distinct, pairwise_map, pairwise_keep, up_to_rising}
use Rattle.sets.specs.Counting.{no_longer}
use Rattle.semantics.specs.Definitions.Calendar.{last_minute, Entry, in_force, rules_in_force, earlier, changes_at, minutes_of_change}
use Rattle.semantics.specs.Theorems.InForce.{AllProper}
use Rattle.semantics.proofs.Theorems.InForce.{in_force_same, no_change}
use Rattle.semantics.specs.Theorems.Changes as defined

-- ---- two tests that do not agree below n differ at some number below n
same_or_not : (a b : Bool) → (a ≡ b) ⊎ (a ≡ b → ⊥)
same_or_not true true = inl refl
same_or_not true false = inr true≢false
same_or_not false true = inr (λ e. true≢false (sym e))
same_or_not false false = inl refl

differ : (f h : ℕ → Bool) (n : ℕ) → (((i : ℕ) → i < n → f i ≡ h i) → ⊥) → (i : ℕ) × (i < n) × (f i ≡ h i → ⊥)
differ f h zero none = absurd (none (λ i l. absurd (not-suc-le-zero l)))
differ f h (suc n) none =
    ⊎_elim
    (λ e.
    let (i, l, d) = differ f h n (λ all. none (λ i l. ⊎_elim (λ z. ap f z ∙ e ∙ ap h (sym z)) (all i) (eq-or-lt_of_le (le_of_suc-le-suc l)))) in
    (i, omega arith, d))
    (λ d. (n, omega arith, d)) (same_or_not (f n) (h n))

module _ (entries : List Entry) (rules : ℕ) where
  -- "the rules in force, told apart by number, differ from those a minute earlier"
  abbrev Changes : (minute : ℕ) → Type 0
  Changes = defined.Changes entries rules

  pub dec_changes : (minute : ℕ) → Decides (Changes minute) (changes_at entries rules minute)
  dec_changes minute =
      let same = in_force_same entries rules minute (earlier minute) in
      dec_iff (
        λ n. differ (in_force entries minute) (in_force entries (earlier minute)) rules (λ all. n (same.1 all)),
        λ (i, l, d) e. d (same.0 e i l),
      ) (dec_not (dec_eq (rules_in_force entries rules minute) (rules_in_force entries rules (earlier minute))))

  pub minute_listed : (minute : ℕ) → minute among minutes_of_change entries rules ↔ ((minute ≤ last_minute) × Changes minute)
  unfolding minutes_of_change
  minute_listed minute =
      let kept = among-kept Changes (changes_at entries rules) dec_changes (suc last_minute) in
      (λ m. let (l, d) = kept.0 m in (omega arith, d), λ (l, d). kept.1 (omega arith, d))

  -- "rising"
  pub minutes_rise : Pairwise ◌<◌ (minutes_of_change entries rules)
  unfolding minutes_of_change
  minutes_rise = pairwise_keep ◌<◌ (changes_at entries rules) (up_to (suc last_minute)) (up_to_rising (suc last_minute))

  minutes_distinct : Distinct (minutes_of_change entries rules)
  minutes_distinct = pairwise_map (minutes_of_change entries rules) (λ x y _ _ l e. omega arith) minutes_rise

  -- ---- between the minutes of change
  not_listed : (minute : ℕ) → minute ≤ last_minute → (minute among minutes_of_change entries rules → ⊥)
      → rules_in_force entries rules minute ≡ rules_in_force entries rules (earlier minute)
  not_listed minute l n =
      ⊎_elim (λ e. e) (λ d. absurd (n ((minute_listed minute).1 (l, (dec_changes minute).yes (is_true (dec_not (dec_eq _ _)) d)))))
      (decided (dec_eq (rules_in_force entries rules minute) (rules_in_force entries rules (earlier minute))))

  pub unchanged : (m m' : ℕ) → m ≤ m' → m' ≤ last_minute → ((c : ℕ) → m < c → c ≤ m' → c among minutes_of_change entries rules → ⊥)
      → rules_in_force entries rules m ≡ rules_in_force entries rules m'
  unchanged m zero l h none = let e : m ≡ 0 = omega arith in ap (rules_in_force entries rules) e
  unchanged m (suc m') l h none =
      ⊎_elim (ap (rules_in_force entries rules)) (λ o.
      unchanged m m' (le_of_suc-le-suc o) (omega arith) (λ c a b. none c a (omega arith))
      ∙ sym (not_listed (suc m') h (none (suc m') (omega arith) (omega arith))))
      (eq-or-lt_of_le l)

  -- "minute 0 being compared with 10079"
  pub unchanged_over_close : (0 among minutes_of_change entries rules → ⊥) → rules_in_force entries rules 0 ≡ rules_in_force entries rules last_minute
  unchanged_over_close none = not_listed 0 (omega arith) none

  -- ---- each is the first minute or the end of an entry
  module _ (all : AllProper rules entries) where
    pub listed_end : (minute : ℕ) → minute among minutes_of_change entries rules
        → (e : Entry) × (e among entries) × ((e.first ≡ minute) ⊎ (e.end ≡ minute))
    listed_end minute m =
        ⊎_elim (λ p. p)
        (λ n.
        let t = is_true (dec_changes minute) ((minute_listed minute).0 m).1 in
        let none = no_change rules entries all minute (λ e k. (λ q. n (e, k, inl q), λ q. n (e, k, inr q))) in
        absurd (true≢false (sym t ∙ none)))
        (decided (dec_some (λ e. eqb e.first minute || eqb e.end minute) (λ e. (e.first ≡ minute) ⊎ (e.end ≡ minute)) entries
        (λ e _. dec_or (dec_eq e.first minute) (dec_eq e.end minute))))

    pub few_minutes : length (minutes_of_change entries rules) ≤ 2 * length entries
    few_minutes =
        let firsts = map (λ e. e.first) entries in
        let ends = map (λ e. e.end) entries in
        let fewer = no_longer (minutes_of_change entries rules) (firsts ++ ends) minutes_distinct (λ minute m.
        let (e, k, o) = listed_end minute m in
        (among-append firsts).1 (⊎_elim
        (λ q. inl ((among-map (λ e. e.first) entries).1 (e, k, sym q)))
        (λ q. inr ((among-map (λ e. e.end) entries).1 (e, k, sym q))) o)) in
        omega (arith, length-append firsts ends, length-map entries (λ e. e.first), length-map entries (λ e. e.end))
