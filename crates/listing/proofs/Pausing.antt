-- The steps of a paused listing. Assumes nothing.
use Prim.Native.Nat.{ℕ, ◌+◌, ◌*◌, ◌≤◌}
use mathlib.Core.Path.{◌≡◌, refl, sym, ap, ◌∙◌, subst}
use mathlib.Core.Bool.{true, false, true≢false}
use mathlib.Core.List.{List}
use native.Mathlib.Omega.{arith}
use lib.ListN.{length}
use Rattle.std.specs.Prelude.{Option, None, Some, is_some}
use Rattle.sets.specs.Decides.{dec_self}
use Rattle.sets.specs.Lists.{some}
use Rattle.sets.specs.Sets.{◌⊂?◌}
use Rattle.semantics.specs.Definitions.Verdict.{verdict}
use Rattle.semantics.specs.Walk.{Covered, Ruled, outcome_by, counted_by, advance}
use Rattle.guess.specs.declared.outline.Outline.{Outline}
use Rattle.guess.specs.Programs.{setting_in}
use Rattle.answers.specs.declared.tally.Tally.{Tally}
use Rattle.listing.specs.declared.paused.Paused.{Paused}
use Rattle.records.specs.Records.{views_in}
use Rattle.records.specs.Outcomes.{tally_from}
use Rattle.listing.specs.Walks.{walked_in}
use Rattle.listing.specs.Pauses.{waits, Ready, Looked, Advanced}
use Rattle.listing.proofs.Steps.{covered_as, examined_as, none-noted, advanced}

-- ---- the number of rules of the guess that waits, where one does
pub some_rules : (o : Option ℕ) → is_some o ≡ true → (rules : ℕ) × (o ≡ Some rules)
some_rules None e = absurd (true≢false (sym e))
some_rules (Some rules) e = (rules, refl)

pub no_rules : (o : Option ℕ) → ((rules : ℕ) → o ≡ Some rules → ⊥) → is_some o ≡ false
no_rules None h = refl
no_rules (Some rules) h = absurd (h rules refl)

-- ---- a guess g that was looked at, now or before: what is so of p, which was q
module _ (x : Outline) (words : List ℕ) (g : ℕ) where
  pub record Seen (q : Paused) (program : List ℕ) (records : List ℕ) (p : Paused) (program' : List ℕ) : Type 0 where
    pub same_at : p.at ≡ q.at
    pub same_length : length program' ≡ length program
    pub where_waits : (rules : ℕ) → p.waiting ≡ Some rules → (p.tally ≡ q.tally) × Ready x words g (views_in records p.tally.views) program' rules
    pub where_free : waits p ≡ false
        → (p.tally.tested ≡ q.tally.tested) × (walked_in p.tally records ≡ advance (setting_in x words) (walked_in q.tally records) g)

  module _ (q : Paused) (program records : List ℕ) where
    -- now, and no view met covers it
    pub seen_now : (p : Paused) (program' : List ℕ) → length program' ≡ length program → some (λ v. g ⊂? v.guess) (views_in records q.tally.views) ≡ false → 4 * q.tally.views ≤ length records
        → Looked x words g q p program' → Seen q program records p program'
    seen_now p program' long uncovered room h = record {
      same_at = h.same_at;
      same_length = long;
      where_waits = λ rules e.
          let (same, free, few, reduct) = h.where_waits rules e in (
            same,
            record {
              uncovered = subst (λ t. some (λ v. g ⊂? v.guess) (views_in records t.views) ≡ false) (sym same) uncovered;
              free = free;
              few = few;
              reduct = reduct;
            },
          );
      where_free = λ e.
          let (ruled, counts) = h.where_ruled e in
          let s = setting_in x words in
          let is = examined_as s (views_in records q.tally.views) g uncovered (ap (λ r. outcome_by g false r (verdict s g)) (sym ruled)) in
          (ap (λ t. t.tested) counts, advanced s q.tally p.tally records records g Ruled room is counts (none-noted (4 * q.tally.views) Ruled records refl));
    }

    -- a covered one is counted
    pub covers : (t : Tally) (most : ℕ) → some (λ v. g ⊂? v.guess) (views_in records q.tally.views) ≡ true → 4 * q.tally.views ≤ length records → q.tally.tested ≤ most
        → tally_from t ≡ counted_by (tally_from q.tally) Covered → (t.tested ≤ most) × (walked_in t records ≡ advance (setting_in x words) (walked_in q.tally records) g)
    covers t most seen room few counts = (
      omega (arith, few, ap (λ z. z.tested) counts),
      advanced (setting_in x words) q.tally t records records g Covered room (covered_as (setting_in x words) (views_in records q.tally.views) g seen) counts
          (none-noted (4 * q.tally.views) Covered records refl),
    )

    -- before
    pub seen-before : waits q ≡ true → ((rules : ℕ) → q.waiting ≡ Some rules → Ready x words g (views_in records q.tally.views) program rules) → Seen q program records q program
    seen-before e ready = record {
      same_at = refl;
      same_length = refl;
      where_waits = λ rules d. (refl, ready rules d);
      where_free = λ d. absurd ((dec_self (waits q)).no d e);
    }

    pub seen_as : {p p' : Paused} {program' program'' : List ℕ} → p ≡ p' → program' ≡ program'' → Seen q program records p' program'' → Seen q program records p program'
    seen_as {p} {p'} {program'} {program''} e d h = subst (λ z. Seen q program records p z) (sym d) (subst (λ z. Seen q program records z program'') (sym e) h)

    module _ (most : ℕ) {p : Paused} {program' : List ℕ} (h : Seen q program records p program') where
      -- it waits on
      pub stays : (rules : ℕ) → p.waiting ≡ Some rules → p.tally.tested ≡ most → Advanced x words g most q records p program' records
      stays rules e spent = record {
        where_waits = λ n d. (h.same_at, spent, ap (λ t. walked_in t records) (h.where_waits n d).0, (h.where_waits n d).1);
        where_passed = λ d. absurd (true≢false (sym (ap is_some e) ∙ d));
      }

      -- it is tested, and what it was is passed
      pub tests : (rules : ℕ) → p.waiting ≡ Some rules → (p.tally.tested ≡ most → ⊥) → q.tally.tested ≤ most → (r : Paused) (records' : List ℕ) → r.tally.tested ≡ p.tally.tested + 1
          → walked_in r.tally records' ≡ advance (setting_in x words) (walked_in p.tally records) g
          → (r.tally.tested ≤ most) × (walked_in r.tally records' ≡ advance (setting_in x words) (walked_in q.tally records) g)
      tests rules e left few r records' more walk =
          let same = (h.where_waits rules e).0 in
          (omega (arith, more, left, few, ap (λ t. t.tested) same), walk ∙ ap (λ t. advance (setting_in x words) (walked_in t records) g) same)

      -- it is free
      pub passes : waits p ≡ false → q.tally.tested ≤ most
          → (p.tally.tested ≤ most) × (walked_in p.tally records ≡ advance (setting_in x words) (walked_in q.tally records) g)
      passes e few = (omega (arith, few, (h.where_free e).0), (h.where_free e).1)

    -- a guess further
    pub further : (most : ℕ) (p : Paused) (program' records' : List ℕ) → waits p ≡ false
        → (p.tally.tested ≤ most) × (walked_in p.tally records' ≡ advance (setting_in x words) (walked_in q.tally records) g)
        → Advanced x words g most q records (record { at = q.at + 1; tally = p.tally; waiting = p.waiting }) program' records'
    further most p program' records' e (few, walk) = record {
      where_waits = λ n d. absurd (true≢false (sym (ap is_some d) ∙ e));
      where_passed = λ _. (refl, few, walk);
    }
