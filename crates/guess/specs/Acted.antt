-- What a guess does to a rule, by sets of atoms: u has those whose "not K a" is in the guess, p those whose "M a" is. Assumes nothing.
use Rattle.std.specs.Prelude.{ℕ, ◌≡◌, Bool, true, false, cond, ◌||◌, Option, Some, None, List, leb, eqb, get_or}
use Rattle.sets.specs.Sets.{◌meets?◌, ◌∪◌, ◌∖◌}
use Rattle.semantics.specs.Definitions.Rules.{Rule}
use Rattle.semantics.specs.Words.{rule_in}

module _ (u p : ℕ) where
  -- to mask i: its literals, or those that are not removed, join one of the four masks of the reduct; or the rule is deleted
  unfoldable pub acted_on : (i mask : ℕ) → Option (ℕ × ℕ)
  acted_on i mask =
      cond (leb i 3) (Some (i, mask))
      (cond (eqb i 4) (cond (mask meets? u) None (Some (1, mask)))
      (cond (eqb i 5) (Some (2, mask ∖ u))
      (cond (eqb i 6) (Some (3, mask ∖ p))
      (cond (mask meets? p) None (Some (2, mask))))))

  -- the rule of eight masks is deleted
  abbrev pub deleted_by : List ℕ → Bool
  deleted_by masks = (get_or masks 4 0 meets? u) || (get_or masks 7 0 meets? p)

  -- and what it becomes otherwise
  unfoldable pub reduced_by : List ℕ → Rule
  reduced_by masks = record {
    head = get_or masks 0 0;
    plain = get_or masks 1 0 ∪ get_or masks 4 0;
    nots = get_or masks 2 0 ∪ get_or masks 5 0 ∖ u ∪ get_or masks 7 0;
    not_nots = get_or masks 3 0 ∪ get_or masks 6 0 ∖ p;
  }

  -- what is left of the rule of eight masks: none where it is deleted, else its four words
  abbrev pub Reduced : List ℕ → Option (List ℕ) → Type 0
  Reduced masks None = deleted_by masks ≡ true
  Reduced masks (Some rule) = (deleted_by masks ≡ false) × (rule_in rule 0 ≡ reduced_by masks)
