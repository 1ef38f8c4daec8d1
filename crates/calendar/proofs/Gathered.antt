-- The rules in force, as the loops over rules and entries gather them. Assumes nothing.
use Prim.Native.Nat.{ℕ, ◌<◌}
use mathlib.Core.Path.{◌≡◌, refl, sym, ap, ◌∙◌, subst}
use mathlib.Core.Bool.{Bool, true, false, not, cond}
use mathlib.Core.List.{List, [], ◌∷◌}
use mathlib.Core.Logic.{◌↔◌, ◌⊎◌, inl, inr, ⊎_elim}
use native.Mathlib.Omega.{arith}
use Rattle.sets.specs.Decides.{Decides, is_true, dec_iff}
use Rattle.sets.specs.Lists.{◌among◌, here, later, nowhere, first_or_later, null, dec_member}
use Rattle.sets.specs.Sets.{◌∈◌, ◌∪◌, ∅, single}
use Rattle.sets.specs.Members.{∈-∪, ∈_cond, ∈-set_of, ∈_ext}
use Rattle.semantics.specs.Definitions.Calendar.{Entry, holds, entries_of, rules_in_force}
use Rattle.semantics.specs.Theorems.InForce.{AllProper}
use Rattle.semantics.proofs.Theorems.InForce.{among-entries_of, dec_in_force, ∈-rules_in_force}
use Rattle.calendar.specs.declared.hours.Entry.{Entry as Held}
use Rattle.calendar.specs.Entries.{Numbered, Entries}
use Rattle.calendar.specs.Force.{unrestricted, with_rule, held_from}

-- the numbers of the entries' rules are small
pub numbered : {rules : ℕ} {entries : List Held} → Entries rules entries → Numbered entries
numbered p = record { numbers = λ e m. omega (arith, (p.all_proper e m).on_sheet, p.few_rules) }

-- some entry has the rule
abbrev pub Restricted : List Entry → (rule : ℕ) → Type 0
Restricted es rule = (e : Entry) × (e among es) × (e.rule ≡ rule)

pub dec_restricted : (es : List Entry) (rule : ℕ) → Decides (Restricted es rule) (not (null (entries_of es rule)))
dec_restricted es rule =
    dec_iff (
      λ p. let (m, e) = (among-entries_of es rule).0 p.1 in (p.0, m, e),
      λ p. (p.0, (among-entries_of es rule).1 (p.1, p.2)),
    ) (dec_member (entries_of es rule))

-- the members that the loop over the entries gathers
∈_with : (b : Bool) (a rule set : ℕ) → a ∈ cond b (single rule) ∅ ∪ set ↔ (((b ≡ true) × (a ≡ rule)) ⊎ (a ∈ set))
∈_with b a rule set =
    let both = ∈-∪ a (cond b (single rule) ∅) set in (
      λ m. ⊎_elim (λ k. inl ((∈_cond b a rule).0 k)) inr (both.0 m),
      λ p. both.1 (⊎_elim (λ q. inl ((∈_cond b a rule).1 q)) inr p),
    )

module _ (minute a : ℕ) where
  abbrev Gathers : List Entry → Type 0
  Gathers es = (e : Entry) × (e among es) × (e.rule ≡ a) × (holds minute e ≡ true)

  ∈_held : (set : ℕ) (es : List Entry) → a ∈ held_from set minute es ↔ ((a ∈ set) ⊎ Gathers es)
  unfolding held_from
  ∈_held set [] = (inl, ⊎_elim (λ m. m) (λ p. absurd (nowhere p.1)))
  ∈_held set (e ∷ es) =
      let ih = ∈_held (with_rule minute set e) es in
      let one = ∈_with (holds minute e) a e.rule set in (
        λ m. ⊎_elim (λ q. ⊎_elim (λ p. inr (e, here, sym p.1, p.0)) inl (one.0 q)) (λ q. inr (q.0, later q.1, q.2, q.3)) (ih.0 m),
        ⊎_elim (λ m. ih.1 (inl (one.1 (inr m))))
            (λ p. ⊎_elim (λ same. ih.1 (inl (one.1 (inl (ap (holds minute) (sym same) ∙ p.3, sym (ap (λ z. z.rule) (sym same) ∙ p.2))))))
            (λ k. ih.1 (inr (p.0, k, p.2, p.3))) (first_or_later p.1)),
      )

-- from the rules with no entry, they are the rules in force
pub held_in_force : (es : List Entry) (rules minute : ℕ) → AllProper rules es → held_from (unrestricted es rules) minute es ≡ rules_in_force es rules minute
unfolding unrestricted
held_in_force es rules minute good = ∈_ext _ _ (λ a. (there a, back a))
  where
    free : (a : ℕ) → null (entries_of es a) ≡ true → Restricted es a → ⊥
    free a e = (dec_restricted es a).no (ap not e)

    there : (a : ℕ) → a ∈ held_from (unrestricted es rules) minute es → a ∈ rules_in_force es rules minute
    there a m =
        ⊎_elim
        (λ k. let (l, t) = (∈-set_of (λ rule. null (entries_of es rule)) a rules).0 k in
        (∈-rules_in_force es rules minute a).1 (l, is_true (dec_in_force es minute a) (inl (λ e n same. free a t (e, n, same)))))
        (λ (e, n, same, h). (∈-rules_in_force es rules minute a).1
        (subst (λ z. z < rules) same (good e n).on_sheet, is_true (dec_in_force es minute a) (inr (e, n, same, h))))
        ((∈_held minute a (unrestricted es rules) es).0 m)

    back : (a : ℕ) → a ∈ rules_in_force es rules minute → a ∈ held_from (unrestricted es rules) minute es
    back a m =
        let (l, t) = (∈-rules_in_force es rules minute a).0 m in
        (∈_held minute a (unrestricted es rules) es).1
        (⊎_elim
        (λ none. inl ((∈-set_of (λ rule. null (entries_of es rule)) a rules).1 (l, without_entry (null (entries_of es a)) refl none)))
        (λ p. inr p)
        ((dec_in_force es minute a).yes t))
      where
        without_entry : (b : Bool) → null (entries_of es a) ≡ b → ((e : Entry) → e among es → e.rule ≡ a → ⊥) → b ≡ true
        without_entry true e none = refl
        without_entry false e none = let p = (dec_restricted es a).yes (ap not e) in absurd (none p.0 p.1 p.2)
