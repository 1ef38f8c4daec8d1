-- The atoms that stand under K or "not K", and under M or "not M": k is how many they are together. Assumes nothing.
use Rattle.std.specs.Prelude.{ℕ, ◌+◌, ◌^◌, ◌<◌, ◌≡◌, refl, ◌↔◌, ◌⊎◌, length, get_or}
use Rattle.std.proofs.Common.{sym, ap, ◌∙◌, subst, inl, inr, ⊎_elim, arith}
use mathlib.Core.List.Memᴰ
use mathlib.Core.List.{List, [], ◌∷◌, ◌++◌, map, foldl, foldl-append}
use Rattle.sets.specs.Decides.{dec_one, dec_iff}
use Rattle.sets.specs.Lists.{◌among◌, here, later, first_or_later, keep, up_to, among-map, among-flat, flat_snoc}
use Rattle.sets.specs.Counting.{length_both}
use Rattle.sets.specs.Sets.{◌∈◌, AllBelow, ◌∈?◌, ◌∪◌, ⋃, size}
use Rattle.sets.specs.Members.{dec_∈, ∈_below, ∈-⋃, below_power, get_or_below}
use Rattle.sets.specs.Size.{members, size-members}
use Rattle.semantics.specs.Definitions.Rules.{Subjective, K, not_k, M, not_m, mask_number}
use Rattle.semantics.specs.Definitions.Sheet.{rule_of_masks}
use Rattle.semantics.specs.Definitions.Guesses.{mentioned, not_known, may_be}
use Rattle.semantics.specs.Definitions.Setting.{setting_of, k}
use Rattle.semantics.specs.Fields.{masks_of, k_atoms, m_atoms}
use Rattle.semantics.specs.Theorems.Negations.{dec_mentioned}

-- the masks of one rule more
pub masks-more : (z m m' : ℕ) (rs : List (List ℕ)) (r : List ℕ)
    → foldl ◌∪◌ (foldl ◌∪◌ z (masks_of m m' rs)) (get_or r m 0 ∷ get_or r m' 0 ∷ []) ≡ foldl ◌∪◌ z (masks_of m m' (rs ++ r ∷ []))
masks-more z m m' rs r = sym (ap (foldl ◌∪◌ z) (flat_snoc (λ r. get_or r m 0 ∷ get_or r m' 0 ∷ []) rs r) ∙ foldl-append ◌∪◌ z (masks_of m m' rs) (get_or r m 0 ∷ get_or r m' 0 ∷ []))

-- "some rule has a in mask" m or m'
abbrev pub InMasks : (m m' : ℕ) → List (List ℕ) → ℕ → Type 0
InMasks m m' rules a = (r : List ℕ) × (r among rules) × ((a ∈ get_or r m 0) ⊎ (a ∈ get_or r m' 0))

pub ∈-masks : (m m' : ℕ) (rules : List (List ℕ)) (a : ℕ) → a ∈ ⋃ (masks_of m m' rules) ↔ InMasks m m' rules a
∈-masks m m' rules a = (
  λ q. let (x, i, h) = (∈-⋃ a (masks_of m m' rules)).0 q in
      let (r, j, o) = (among-flat pair rules).0 i in
      (r, j, ⊎_elim (λ e. inl (subst (λ z. a ∈ z) e h)) (λ o'. inr (subst (λ z. a ∈ z) (Memᴰ.eq_of_singleton o') h)) (first_or_later o)),
  λ p. (∈-⋃ a (masks_of m m' rules)).1 (⊎_elim
      (λ h. (get_or p.0 m 0, (among-flat pair rules).1 (p.0, p.1, here), h))
      (λ h. (get_or p.0 m' 0, (among-flat pair rules).1 (p.0, p.1, later here), h)) p.2),
)
  where
    pair : List ℕ → List ℕ
    pair r = get_or r m 0 ∷ get_or r m' 0 ∷ []

module _ (n : ℕ) (rules : List (List ℕ)) (below : AllBelow n rules) where
  masks_below : (m m' : ℕ) → ⋃ (masks_of m m' rules) < 2 ^ n
  masks_below m m' =
      (below_power n (⋃ (masks_of m m' rules))).1 (λ a q.
      let (r, j, o) = (∈-masks m m' rules a).0 q in
      ⊎_elim (∈_below (get_or_below n r (below r j) m)) (∈_below (get_or_below n r (below r j) m')) o)

  pub k_atoms_below : k_atoms rules < 2 ^ n
  k_atoms_below = masks_below 4 5

  pub m_atoms_below : m_atoms rules < 2 ^ n
  m_atoms_below = masks_below 6 7

-- the same question of the rules as the definitions take them
pub mentioned_in : (rules : List (List ℕ)) (m m' : Subjective) (a : ℕ)
    → mentioned (map rule_of_masks rules) m m' a ≡ (a ∈? ⋃ (masks_of (mask_number m) (mask_number m') rules))
mentioned_in rules m m' a =
    let x = ⋃ (masks_of (mask_number m) (mask_number m') rules) in
    dec_one (dec_mentioned (map rule_of_masks rules) m m' a)
    (dec_iff (
      λ q. let (r, j, o) = (∈-masks (mask_number m) (mask_number m') rules a).0 q in (rule_of_masks r, (among-map rule_of_masks rules).1 (r, j, refl), o),
      λ p. let (r, j, e) = (among-map rule_of_masks rules).0 p.1 in
          (∈-masks (mask_number m) (mask_number m') rules a).1 (r, j, subst (λ z. (a ∈ z.mask m) ⊎ (a ∈ z.mask m')) e p.2),
    ) (dec_∈ a x))

pub k-size : (n : ℕ) (rules : List (List ℕ)) → AllBelow n rules
    → k (setting_of n (map rule_of_masks rules)) ≡ size (k_atoms rules) + size (m_atoms rules)
unfolding members
k-size n rules below =
    let x = k_atoms rules in
    let y = m_atoms rules in
    let p = mentioned (map rule_of_masks rules) K not_k in
    let q = mentioned (map rule_of_masks rules) M not_m in
    let kept-x : length (keep p (up_to n)) ≡ length (keep (λ a. a ∈? x) (up_to n)) = λ i. length (keep (λ a. mentioned_in rules K not_k a i) (up_to n)) in
    let kept-y : length (keep q (up_to n)) ≡ length (keep (λ a. a ∈? y) (up_to n)) = λ i. length (keep (λ a. mentioned_in rules M not_m a i) (up_to n)) in
    omega (
      arith,
      length_both p q not_known may_be (up_to n),
      size-members n x (k_atoms_below n rules below),
      size-members n y (m_atoms_below n rules below),
    )
