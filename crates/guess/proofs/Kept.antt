-- The rules of the reduct as they are written, one rule after the other. Assumes nothing.
use Prim.Native.Nat.{ℕ, ◌+◌, ◌*◌, ◌≤◌}
use mathlib.Core.Path.{◌≡◌, refl, sym, ap, ◌∙◌, subst}
use mathlib.Core.Bool.{Bool, not}
use mathlib.Core.List.{List, [], ◌∷◌, ◌++◌, map, map-append, append-nil}
use native.Mathlib.Omega.{arith}
use Rattle.std.specs.Prelude.{Some, None}
use lib.ListN.{take}
use Rattle.sets.specs.Lists.{only, keep, keep_snoc}
use Rattle.sets.specs.Sets.{set_of}
use Rattle.semantics.specs.Definitions.Rules.{Rule}
use Rattle.semantics.specs.Definitions.Guesses.{not_known, may_be, assumed}
use Rattle.semantics.specs.Words.{masks_in, rules_in, rules-none, rules-more, rule_in, program_in, program-none, program-more}
use Rattle.guess.specs.declared.outline.Outline.{Outline}
use Rattle.guess.specs.Programs.{unmasked_in, Outlines}
use Rattle.guess.specs.Negations.{assumed_by}
use Rattle.guess.specs.Acted.{deleted_by, reduced_by, Reduced}
use Rattle.guess.specs.Numbered.{negations_by_lem}
use Rattle.guess.proofs.Reduced.{reduct_by}
use Rattle.guess.proofs.Words.{program_stays}

-- ---- the rules that are not deleted, as they are in the reduct
module _ (u p : ℕ) where
  abbrev kept : List (List ℕ) → List Rule
  kept rules = map (reduced_by u p) (keep (λ m. not (deleted_by u p m)) rules)

  kept-none : kept [] ≡ []
  unfolding keep
  kept-none = refl

  kept_more : (rules : List (List ℕ)) (m : List ℕ) → kept (rules ++ m ∷ []) ≡ kept rules ++ map (reduced_by u p) (only (not (deleted_by u p m)) m)
  kept_more rules m =
      ap (map (reduced_by u p)) (keep_snoc (λ r. not (deleted_by u p r)) rules m)
      ∙ map-append (reduced_by u p) (keep (λ r. not (deleted_by u p r)) rules) (only (not (deleted_by u p m)) m)

  -- n rules are written after the first j rules in the words
  module _ (words : List ℕ) where
    pub record Written (out : List ℕ) (n j : ℕ) : Type 0 where
      pub few : n ≤ j
      pub program : program_in out n ≡ kept (rules_in words j)

    pub none_written : (out : List ℕ) → Written out 0 0
    none_written out = record { few = omega arith; program = program-none out ∙ sym (ap kept (rules-none words) ∙ kept-none) }

    -- one rule more: written after the others, or left out
    module _ {out : List ℕ} {n j : ℕ} (w : Written out n j) where
      more : {r : Bool} → deleted_by u p (masks_in words j) ≡ r → kept (rules_in words (j + 1)) ≡ kept (rules_in words j) ++ map (reduced_by u p) (only (not r) (masks_in words j))
      more e = ap kept (rules-more words j) ∙ kept_more (rules_in words j) (masks_in words j) ∙ rw e

      pub one_written : {after : List ℕ} (rule : List ℕ) → Reduced u p (masks_in words j) (Some rule) → take (4 * n) after ≡ take (4 * n) out → rule_in after n ≡ rule_in rule 0
          → Written after (n + 1) (j + 1)
      one_written {after} rule r stays there = record {
        few = omega (arith, w.few);
        program = program-more after n ∙ rw (more r.0, there, r.1, program_stays after out n stays, w.program);
      }

      pub left_out : Reduced u p (masks_in words j) None → Written out n (j + 1)
      left_out gone = record { few = omega (arith, w.few); program = rw (more gone) (w.program ∙ sym (append-nil (kept (rules_in words j)))) }

-- ---- all rules written: the reduct of the definition
pub all_written : {x : Outline} {words : List ℕ} → Outlines x words → (g : ℕ) (out : List ℕ) (n : ℕ)
    → Written (assumed_by x g).unknown (assumed_by x g).maybe words out n x.rules → program_in out n ≡ (unmasked_in x words).program g
all_written {x} {words} o g out n w =
    let rules = rules_in words x.rules in
    let s = unmasked_in x words in
    w.program ∙ subst (λ es. kept (set_of (λ a. assumed es g (not_known a)) x.atoms) (set_of (λ a. assumed es g (may_be a)) x.atoms) rules ≡ s.program g)
    (sym (negations_by_lem o)) (sym (reduct_by x.atoms s.negations g rules o.below))
