-- When an entry holds and when a rule is in force; the rules in force as a set of numbers; and where nothing begins or ends, nothing changes.
-- Assumes nothing.
use Rattle.std.specs.Prelude.{ℕ, zero, suc, ◌≤◌, ◌<◌, ◌≡◌, refl, true, false, ◌&&◌, ◌||◌, cond, List, [], ◌∷◌, ◌↔◌, ltb, eqb}
use Rattle.std.proofs.Common.{sym, ap₂, ◌∙◌, subst, inl, inr, ⊎_elim, arith, le-leb, lt-ltb, le-ltb, eq-eqb}
use Rattle.std.proofs.Math.Path.{ap}
use Rattle.std.proofs.lemmas.Bool.{lt-leb}
use Rattle.sets.specs.Decides.{Decides, is_false, dec_true, dec_false, dec_iff, dec_one, dec_self, dec_not, dec_and, dec_or, dec_if, dec_eq, dec_le}
use Rattle.sets.specs.Lists.{◌among◌, here, nowhere, keep, null, among-keep, dec_some, some_same}
use Rattle.sets.specs.Sets.{◌∈◌}
use Rattle.sets.specs.Members.{∈-set_of, set_of-same}
use Rattle.semantics.specs.Definitions.Calendar.{last_minute, Entry, open_at, holds, entries_of, in_force, rules_in_force, earlier, changes_at}
use Rattle.semantics.specs.Theorems.InForce.{Holds, Proper, AllProper, WhereHolds, InForce, NoEnd}

-- ---- an entry
pub dec_holds : (e : Entry) (minute : ℕ) → (e.first ≡ e.end → ⊥) → Decides (Holds e minute) (holds minute e)
dec_holds e minute apart =
    let after = dec_le e.first minute in
    let before = dec_le (suc minute) e.end in
    dec_iff (⊎_elim inr (λ p. let n = p.0 in inl (omega arith, p.1)), ⊎_elim (λ p. let l = p.0 in inr ((λ h. omega arith), p.1)) inl)
    (dec_if (dec_le (suc e.end) e.first) (dec_or after before) (dec_and after before))

-- ---- a rule
pub among-entries_of : (entries : List Entry) (rule : ℕ) {e : Entry} → e among entries_of entries rule ↔ ((e among entries) × (e.rule ≡ rule))
among-entries_of entries rule {e} =
    let kept = among-keep (λ e. eqb e.rule rule) entries in (
      λ m. let (k, b) = kept.0 m in (k, (dec_eq e.rule rule).yes b),
      λ p. kept.1 (p.0, eq-eqb e.rule rule p.1),
    )

dec_null : (l : List Entry) → Decides ((e : Entry) → e among l → ⊥) (null l)
dec_null [] = dec_true (λ e m. nowhere m)
dec_null (x ∷ l) = dec_false (λ f. f x here)

dec_where : (P : Entry → Type 0) (entries : List Entry) (minute rule : ℕ) → ((e : Entry) → e among entries → Decides (P e) (holds minute e))
    → Decides (WhereHolds P entries rule) (in_force entries minute rule)
unfolding in_force
dec_where P entries minute rule d =
    dec_iff (
      ⊎_elim (λ f. inl (λ e m r. f e (of.1 (m, r)))) (λ (e, k, p). let (m, r) = of.0 k in inr (e, m, r, p)),
      ⊎_elim (λ f. inl (λ e k. let (m, r) = of.0 k in f e m r)) (λ (e, m, r, p). inr (e, of.1 (m, r), p)),
    ) (dec_or (dec_null (entries_of entries rule)) (dec_some (holds minute) P (entries_of entries rule) (λ e k. d e (of.0 k).0)))
  where
    of : {e : Entry} → e among entries_of entries rule ↔ ((e among entries) × (e.rule ≡ rule))
    of = among-entries_of entries rule

pub dec_in_force : (entries : List Entry) (minute rule : ℕ) → Decides (InForce entries minute rule) (in_force entries minute rule)
dec_in_force entries minute rule = dec_where (λ e. holds minute e ≡ true) entries minute rule (λ e _. dec_self (holds minute e))

-- so of a calendar's entries
pub dec_in_force_proper : (rules : ℕ) (entries : List Entry) → AllProper rules entries
    → (minute rule : ℕ) → Decides (WhereHolds (λ e. Holds e minute) entries rule) (in_force entries minute rule)
dec_in_force_proper rules entries all minute rule =
    dec_where (λ e. Holds e minute) entries minute rule (λ e m. dec_holds e minute (all e m).apart)

pub no_entries : (minute rule : ℕ) → in_force [] minute rule ≡ true
unfolding in_force keep
no_entries minute rule = refl

-- ---- the rules in force
module _ (entries : List Entry) (rules : ℕ) where
  pub ∈-rules_in_force : (minute i : ℕ) → i ∈ rules_in_force entries rules minute ↔ ((i < rules) × (in_force entries minute i ≡ true))
  unfolding rules_in_force
  ∈-rules_in_force minute i = ∈-set_of (in_force entries minute) i rules

  -- the rules in force are the same where each rule is in force at both minutes or at neither
  pub in_force_same : (m m' : ℕ) → rules_in_force entries rules m ≡ rules_in_force entries rules m'
      ↔ ((i : ℕ) → i < rules → in_force entries m i ≡ in_force entries m' i)
  unfolding rules_in_force
  in_force_same m m' = (
    λ e i l.
        let one = ∈-set_of (in_force entries m) i rules in
        let other = ∈-set_of (in_force entries m') i rules in
        dec_one (dec_self (in_force entries m i))
        (dec_iff (
          λ t. (one.0 (subst (λ x. i ∈ x) (sym e) (other.1 (l, t)))).1,
          λ t. (other.0 (subst (λ x. i ∈ x) e (one.1 (l, t)))).1,
        ) (dec_self (in_force entries m' i))),
    set_of-same (in_force entries m) (in_force entries m') rules,
  )

-- ---- no change
-- what neither begins nor ends at a minute is as "a minute earlier, minute 0 being compared with 10079"
open_steady : (first end minute : ℕ) → first ≤ last_minute → end ≤ last_minute → (first ≡ minute → ⊥) → (end ≡ minute → ⊥)
    → open_at first end minute ≡ open_at first end (earlier minute)
open_steady first end zero f e nf ne =
    ap₂ (λ a b. cond (ltb end first) (a || b) (a && b)) (lt-leb first 0 (omega arith)) (lt-ltb 0 end (omega arith))
    ∙ sym (ap₂ (λ a b. cond (ltb end first) (a || b) (a && b)) (le-leb first last_minute f) (le-ltb last_minute end e))
open_steady first end (suc m) f e nf ne =
    ap₂ (λ a b. cond (ltb end first) (a || b) (a && b))
    (dec_one (dec_le first (suc m)) (dec_iff (λ h. omega arith, λ h. omega arith) (dec_le first m)))
    (dec_one (dec_le (suc (suc m)) end) (dec_iff (λ h. omega arith, λ h. omega arith) (dec_le (suc m) end)))

module _ (rules : ℕ) where
  pub steady : (e : Entry) (minute : ℕ) → Proper rules e → (e.first ≡ minute → ⊥) → (e.end ≡ minute → ⊥) → holds minute e ≡ holds (earlier minute) e
  steady e minute p = open_steady e.first e.end minute p.first_minute p.end_minute

  module _ (entries : List Entry) (all : AllProper rules entries) (minute : ℕ) (none : NoEnd entries minute) where
    pub in_force_steady : (rule : ℕ) → in_force entries minute rule ≡ in_force entries (earlier minute) rule
    unfolding in_force
    in_force_steady rule =
        ap (λ b. null (entries_of entries rule) || b)
        (some_same (holds minute) (holds (earlier minute)) (entries_of entries rule) (λ e k.
        let (m, _) = (among-entries_of entries rule).0 k in
        let (f, g) = none e m in
        steady e minute (all e m) f g))

    pub no_change : changes_at entries rules minute ≡ false
    no_change =
        is_false (dec_not (dec_eq (rules_in_force entries rules minute) (rules_in_force entries rules (earlier minute))))
        (λ n. n ((in_force_same entries rules minute (earlier minute)).1 (λ i _. in_force_steady i)))
