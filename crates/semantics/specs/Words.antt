-- Programs as the code holds them, in words. The definitions do not rest on this; contracts of the code do. Assumes nothing.
use Rattle.std.specs.Prelude.{ℕ, ◌+◌, ◌*◌, ◌<◌, ◌≡◌, List, [], ◌∷◌, ◌++◌, map, ◌↔◌, get_or, take}
use Rattle.std.proofs.Math.Path.{refl, ap}
use Rattle.std.proofs.Common.{sym, ◌∙◌, add-one, get_or-take}
use Rattle.sets.specs.Lists.{◌among◌, up_to, map_up_to_suc, among-map, among-up_to}
use Rattle.sets.specs.Sets.{∅}
use Rattle.semantics.specs.Definitions.Rules.{Rule}
use Rattle.semantics.specs.Definitions.Sheet.{Opposites, most_rules, most_pairs}
use Rattle.semantics.specs.Definitions.Check.{opposed}

-- as many rules as a program has room for: a sheet has no more, its pairs counted
abbrev pub program_room : ℕ
program_room = most_rules + most_pairs

-- where the first m words stay, each of them does
pub word_stays : (m : ℕ) (words others : List ℕ) → take m words ≡ take m others → (i : ℕ) → i < m → get_or words i 0 ≡ get_or others i 0
word_stays m words others e i h = sym (get_or-take m words i 0 h) ∙ ap (λ z. get_or z i 0) e ∙ get_or-take m others i 0 h

-- ---- rules as a sheet has them
-- a rule without K and M: "Masks 0 to 7 are: head, plain, not, not not, K, not K, M, not M."
abbrev pub eight_masks : Rule → List ℕ
eight_masks c = c.head ∷ c.plain ∷ c.nots ∷ c.not_nots ∷ ∅ ∷ ∅ ∷ ∅ ∷ ∅ ∷ []

-- pairs, as a sheet would have them as rules
abbrev pub pairs_written : List Opposites → List (List ℕ)
pairs_written pairs = map eight_masks (map opposed pairs)

-- ---- rules with K and M: eight words a rule, masks 0 to 7
module _ (words : List ℕ) where
  -- mask i of rule j
  abbrev pub mask_in : (j i : ℕ) → ℕ
  mask_in j i = get_or words (8 * j + i) 0

  abbrev pub masks_in : ℕ → List ℕ
  masks_in j = map (mask_in j) (up_to 8)

  -- the first n rules
  unfoldable pub rules_in : (n : ℕ) → List (List ℕ)
  rules_in n = map masks_in (up_to n)

  pub rules-none : rules_in 0 ≡ []
  unfolding rules_in up_to
  rules-none = refl

  -- one rule more
  pub rules-more : (n : ℕ) → rules_in (n + 1) ≡ rules_in n ++ masks_in n ∷ []
  unfolding rules_in
  rules-more n = ap rules_in (add-one n) ∙ map_up_to_suc masks_in n

  pub among-rules : (n : ℕ) {l : List ℕ} → l among rules_in n ↔ ((j : ℕ) × (j < n) × (l ≡ masks_in j))
  unfolding rules_in
  among-rules n = (
    λ m. let (j, h, e) = (among-map masks_in (up_to n)).0 m in (j, (among-up_to n).0 h, e),
    λ p. let (j, h, e) = p in (among-map masks_in (up_to n)).1 (j, (among-up_to n).1 h, e),
  )

-- ---- a program without K and M: four words a rule, which are its head, plain, not and not not atoms
module _ (words : List ℕ) where
  -- word i of rule j
  abbrev pub word_of : (j i : ℕ) → ℕ
  word_of j i = get_or words (4 * j + i) 0

  abbrev pub rule_in : ℕ → Rule
  rule_in j = record { head = word_of j 0; plain = word_of j 1; nots = word_of j 2; not_nots = word_of j 3 }

  -- the first n rules
  unfoldable pub program_in : (n : ℕ) → List Rule
  program_in n = map rule_in (up_to n)

  pub program-none : program_in 0 ≡ []
  unfolding program_in up_to
  program-none = refl

  -- one rule more
  pub program-more : (n : ℕ) → program_in (n + 1) ≡ program_in n ++ rule_in n ∷ []
  unfolding program_in
  program-more n = ap program_in (add-one n) ∙ map_up_to_suc rule_in n
