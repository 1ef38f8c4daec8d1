-- A list of bytes is accepted exactly when it is the layout of names, rules and pairs that fit, and then it says these. Assumes nothing.
use Rattle.std.specs.Prelude.{ℕ, ◌<◌, ◌≡◌, List, ◌∷◌, ◌↔◌, length}
use Rattle.std.proofs.Common.{sym, ap, ap₂, ◌∙◌, ⊎_elim, arith, lt_of_lt_of_le, pow_mono}
use Rattle.sets.specs.Lists.{◌among◌, nowhere, all_cons, all_append, all_flat, flat}
use Rattle.semantics.specs.Definitions.Reading.{field}
use Rattle.semantics.specs.Definitions.Sheet.{Opposites, Sheet, atoms_of}
use Rattle.semantics.specs.Definitions.Check.{opened}
use Rattle.semantics.specs.Theorems.Reading.{field_same}
use Rattle.semantics.specs.Theorems.Names.{NameByte}
use Rattle.semantics.proofs.Theorems.Accepted.{accepted_lies}
use Rattle.semantics.specs.Theorems.Layout.{IsBytes, name_bytes, mask_bytes, rule_bytes, front_bytes, sheet_bytes, sheet_of, FrontFits, Fits}
use Rattle.semantics.proofs.Theorems.Layout.{accepted_fits}
use Rattle.semantics.proofs.Theorems.Bytes.{accepted_bytes}
use Rattle.semantics.proofs.Theorems.Fitting.{fits_accepted}

pub accepted_exactly : (s : List ℕ) → IsBytes s
    → (x : Sheet) (end : ℕ) → opened s ≡ field x end
    ↔ ((names : List (List ℕ)) × (rules : List (List ℕ)) × (pairs : List Opposites) × Fits names rules pairs × (s ≡ sheet_bytes names rules pairs)
    × (x ≡ sheet_of names rules pairs) × (end ≡ length s))
accepted_exactly s small x end = (
  λ e.
      let fits = accepted_fits s x end e in
      let laid = accepted_bytes s small x end e in
      let (same, _) = field_same (sym (ap opened laid ∙ fits_accepted x.names x.rules x.pairs fits) ∙ e) in
      (x.names, x.rules, x.pairs, fits, laid, same, (accepted_lies s x end e).ends),
  λ p.
      let (names, rules, pairs, f, e, same, ends) = p in
      ap opened e ∙ fits_accepted names rules pairs f ∙ ap₂ field (sym same) (sym (ends ∙ ap length e)),
)

-- ---- a layout has bytes only
name_byte_small : (b : ℕ) → NameByte b → b < 256
name_byte_small b h = ⊎_elim (λ l. omega arith) (⊎_elim (λ l. omega arith) (λ e. omega arith)) h

small_cons : {b : ℕ} {s : List ℕ} → b < 256 → IsBytes s → IsBytes (b ∷ s)
small_cons = all_cons (λ b. b < 256)

mask_small : (m : ℕ) → m < 65536 → IsBytes (mask_bytes m)
mask_small m l = small_cons (omega arith) (small_cons (omega arith) (λ b q. absurd (nowhere q)))

module _ (names rules : List (List ℕ)) (f : FrontFits names rules) where
  name_small : (n : List ℕ) → n among names → IsBytes (name_bytes n)
  name_small n m =
      let good = f.good_names n m in
      let few = good.not_long in
      small_cons (omega arith) (λ b q. name_byte_small b (good.bytes b q))

  rule_small : (r : List ℕ) → r among rules → IsBytes (rule_bytes r)
  rule_small r m =
      all_flat (λ b. b < 256) mask_bytes r (λ x q.
      let l = lt_of_lt_of_le (f.masks_below r m x q) (pow_mono f.few_names) in
      mask_small x (omega arith))

  front_small : IsBytes (front_bytes names rules)
  front_small =
      let few = f.few_names in
      let short = f.few_rules in
      small_cons (omega arith)
      (all_append (λ b. b < 256) (flat name_bytes names) (all_flat (λ b. b < 256) name_bytes names name_small)
      (small_cons (omega arith) (all_flat (λ b. b < 256) rule_bytes rules rule_small)))

pub layout_small : (names rules : List (List ℕ)) (pairs : List Opposites) → Fits names rules pairs → IsBytes (sheet_bytes names rules pairs)
unfolding atoms_of
layout_small names rules pairs f =
    let few = f.few_pairs in
    let atoms = f.front_fits.few_names in
    all_append (λ b. b < 256) (front_bytes names rules) (front_small names rules f.front_fits)
    (small_cons (omega arith) (λ b m. let l = f.disjoint.below b m in omega arith))
