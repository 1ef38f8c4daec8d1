-- What one belief set says of the verdict, and what is enough to know of all of them. Assumes nothing.
use Rattle.std.specs.Prelude.{ℕ, ◌^◌, ◌<◌, ◌≡◌, List, [], ◌∷◌, length}
use Rattle.std.proofs.Math.Path.{refl, sym, ap}
use Rattle.std.proofs.Common.{◌∙◌, subst}
use Rattle.sets.specs.Decides.{is_true}
use Rattle.sets.specs.Lists.{◌among◌}
use Rattle.sets.specs.Sets.{◌⊆◌, Below, ◌∩◌, full, set_of, ⋂, ⋃}
use Rattle.sets.specs.Members.{∈-∩, ∈_ext, ∅-∪, ∈_below, ∈-full}
use Rattle.semantics.specs.Definitions.Rules.{Rule}
use Rattle.semantics.specs.Definitions.Guesses.{Negation, not_known, may_be}
use Rattle.semantics.specs.Definitions.Setting.{Setting, add, k, negation}
use Rattle.semantics.specs.Definitions.Verdict.{belief_sets, found_has, guess_found, verdict}
use Rattle.semantics.specs.Definitions.Pass.{having, verdict_from}
use Rattle.semantics.specs.Walk.{judged_as, Other}
use Rattle.semantics.specs.AtSet.{need}
use Rattle.semantics.specs.Theorems.Verdict.{Satisfied}
use Rattle.semantics.proofs.Theorems.Verdict.{found_exact, found_below, belief_below, dec_other, other_verdict}
use Rattle.semantics.proofs.Theorems.Pass.{one_pass_lem, same-verdict}
use Rattle.semantics.specs.Theorems.On.{Needs}
use Rattle.semantics.proofs.Theorems.On.{∈-need}

module _ (s : Setting) where
  -- what a set needs is what is found where it is both known and possible
  pub need_by_set : (i : ℕ) → i < 2 ^ s.atoms → need s i ≡ set_of (λ j. found_has i i (negation s j)) (k s)
  unfolding guess_found
  need_by_set i l = rw (∅-∪ i, whole)
    where
      whole : full s.atoms ∩ i ≡ i
      whole = ∈_ext (full s.atoms ∩ i) i (λ a. (λ m. ((∈-∩ a (full s.atoms) i).0 m).1, λ m. (∈-∩ a (full s.atoms) i).1 ((∈-full a s.atoms).1 (∈_below l m), m)))

  -- what one set needs, the sets together find
  pub need-found : (w : List ℕ) → Below s.atoms w → (i : ℕ) → i among w → need s i ⊆ guess_found s w
  need-found w within i m = record {
    into = λ {a = j} h. let l = ∈_below (found_below s (i ∷ [])) h in
        (found_exact s w within (i, m) j l).1 (witness (negation s j) ((∈-need s i (within i m) j l).0 h));
  }
    where
      witness : (e : Negation) → Needs i e → Satisfied w e
      witness (not_known a) h = (i, m, h)
      witness (may_be a) h = (i, m, h)

  -- a guess that lacks what one of its belief sets needs counts as other
  pub lacks_other : (g i : ℕ) → i among belief_sets s g → (need s i ⊆ g → ⊥) → judged_as g (verdict s g) ≡ Other
  lacks_other g i m lacks =
      let w = belief_sets s g in
      ap (judged_as g) (other_verdict s g (is_true (dec_other s g) ((i, m), λ e. lacks (subst (λ x. need s i ⊆ x) e (need-found w (belief_below s g) i m)))))

-- constraints do not move what a set needs
module _ (cs : List Rule) (s : Setting) where
  pub need-added : (i : ℕ) → need (add cs s) i ≡ need s i
  unfolding guess_found
  need-added i = refl

  pub lacks_other_added : (g i : ℕ) → i among belief_sets (add cs s) g → (need s i ⊆ g → ⊥) → judged_as g (verdict (add cs s) g) ≡ Other
  lacks_other_added g i m lacks = lacks_other (add cs s) g i m (λ h. lacks (subst (λ x. x ⊆ g) (need-added i) h))

-- what the belief sets have in all, in some, and how many they are is enough
module _ (s : Setting) where
  pub verdict_by_summary : (g t : ℕ) → let w = belief_sets s g in verdict s g ≡ verdict_from s.negations (having (⋂ s.atoms w) (⋃ w) (length w) t) g
  unfolding belief_sets
  verdict_by_summary g t = sym (same-verdict s g) ∙ ap (λ y. verdict_from s.negations y g) (one_pass_lem s.atoms (s.program g))

  pub judged_by_summary : (g t : ℕ) → let w = belief_sets s g in judged_as g (verdict s g) ≡ judged_as g (verdict_from s.negations (having (⋂ s.atoms w) (⋃ w) (length w) t) g)
  judged_by_summary g t = ap (judged_as g) (verdict_by_summary g t)
