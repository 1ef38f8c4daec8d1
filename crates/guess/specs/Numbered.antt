-- Of a program with K and M and its outline: the negations, as the code numbers them, are those of the definition, and few; the rules are over its atoms.
-- Assumes nothing.
use Rattle.std.specs.Prelude.{ℕ, ◌^◌, ◌≤◌, ◌<◌, ◌≡◌, refl, List, ◌++◌, map, length}
use Rattle.std.proofs.Math.Path.{sym, ap}
use Rattle.std.proofs.Common.{◌∙◌, subst, arith, pow_mono}
use Rattle.sets.specs.Lists.{◌among◌, only, flat, up_to, among-map}
use Rattle.sets.specs.Sets.{◌∈?◌, set_of}
use Rattle.sets.specs.Members.{get_or_below}
use Rattle.semantics.specs.Definitions.Rules.{EpistemicRule, Subjective, K, not_k, M, not_m, mask_number}
use Rattle.semantics.specs.Definitions.Guesses.{not_known, may_be, mentioned, numbered}
use Rattle.semantics.specs.Definitions.Sheet.{rule_of_masks, most_atoms}
use Rattle.semantics.specs.Definitions.Setting.{k, negation}
use Rattle.semantics.specs.Definitions.Verdict.{found_has}
use Rattle.semantics.specs.Words.{masks_in, rules_in, among-rules}
use Rattle.semantics.specs.Theorems.Subjects.{mentioned_in}
use Rattle.guess.specs.declared.outline.Outline.{Outline}
use Rattle.guess.specs.Programs.{unmasked_in, setting_in, Outlines}
use Rattle.guess.specs.Negations.{negations_in, negations_by, Few, found_by}

-- ---- the rules in the words, by number
abbrev pub rules_of : Outline → (words : List ℕ) → List EpistemicRule
rules_of x words = map rule_of_masks (rules_in words x.rules)

module _ (x : Outline) (words : List ℕ) where
  pub rule_there : {j : ℕ} → j < x.rules → rule_of_masks (masks_in words j) among rules_of x words
  rule_there {j} h = (among-map rule_of_masks (rules_in words x.rules)).1 (masks_in words j, (among-rules words x.rules).1 (j, h, refl), refl)

  pub rule_number : {r : EpistemicRule} → r among rules_of x words → (j : ℕ) × (j < x.rules) × (r ≡ rule_of_masks (masks_in words j))
  rule_number m =
      let (l, b, e) = (among-map rule_of_masks (rules_in words x.rules)).0 m in
      let (j, h, q) = (among-rules words x.rules).0 b in
      (j, h, e ∙ ap rule_of_masks q)

module _ {x : Outline} {words : List ℕ} (o : Outlines x words) where
  pub negations_by_lem : negations_by x ≡ (setting_in x words).negations
  unfolding negations_in
  negations_by_lem = sym (λ i. flat (λ a. only (k_atom a i) (not_known a) ++ only (m_atom a i) (may_be a)) (up_to x.atoms))
    where
      k_atom : (a : ℕ) → mentioned (map rule_of_masks (rules_in words x.rules)) K not_k a ≡ (a ∈? x.k_atoms)
      k_atom a = mentioned_in (rules_in words x.rules) K not_k a ∙ ap (λ z. a ∈? z) (sym o.k-atoms)

      m_atom : (a : ℕ) → mentioned (map rule_of_masks (rules_in words x.rules)) M not_m a ≡ (a ∈? x.m_atoms)
      m_atom a = mentioned_in (rules_in words x.rules) M not_m a ∙ ap (λ z. a ∈? z) (sym o.m-atoms)

  pub few_of : Few x
  few_of = (o.few_atoms, rw negations_by_lem (omega (arith, o.counted, o.few_negations)))

  -- as many words as there are sets of atoms at most
  pub few_sets : 2 ^ x.atoms ≤ 2 ^ most_atoms
  few_sets = pow_mono o.few_atoms

  -- a guess is below 2 to the number of them
  pub guess_below : {g : ℕ} → g < 2 ^ x.negations → g < 2 ^ length (negations_by x)
  guess_below {g} h = subst (λ n. g < 2 ^ n) (o.counted ∙ sym (ap length negations_by_lem)) h

  -- the guess found is that of the setting
  pub found_is : (known possible : ℕ)
      → found_by x known possible ≡ set_of (λ j. found_has known possible (negation (unmasked_in x words) j)) (k (unmasked_in x words))
  found_is known possible = ap (λ es. set_of (λ j. found_has known possible (numbered es j)) (length es)) negations_by_lem

  -- the masks of the rules are sets of its atoms
  pub masks_below : (r : EpistemicRule) → r among rules_of x words → (m : Subjective) → r.mask m < 2 ^ x.atoms
  masks_below r h m =
      let (l, b, e) = (among-map rule_of_masks (rules_in words x.rules)).0 h in
      subst (λ q. q.mask m < 2 ^ x.atoms) (sym e) (get_or_below x.atoms l (o.below l b) (mask_number m))
