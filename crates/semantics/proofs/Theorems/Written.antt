-- Rules without K and M written into a sheet after its own: the setting is that of the sheet with these rules added, and where both are at most
-- 64 together the bytes of the sheet so written have it. Assumes nothing.
use Rattle.std.specs.Prelude.{ℕ, ◌+◌, ◌^◌, ◌≤◌, ◌<◌, ◌≡◌, false, ◌↔◌, ◌⊎◌, length, get_or}
use Rattle.std.proofs.Math.Path.{refl, ap}
use Rattle.std.proofs.Common.{sym, ap₂, ◌∙◌, subst, inl, ⊎_elim, arith, length-append, pow_pos}
use Rattle.std.proofs.Math.Bool.{Bool, not}
use mathlib.Core.List.{List, [], ◌∷◌, ◌++◌, map, map-append}
use Rattle.std.proofs.lemmas.List.{length-map}
use Rattle.sets.specs.Decides.{is_false, dec_one, dec_iff}
use Rattle.sets.specs.Lists.{◌among◌, nowhere, all_cons, all_append, keep, flat, only, up_to, among-append, among-map, keep_append}
use Rattle.sets.specs.Sets.{◌∈◌, ∅, single, ⋃, Below, AllBelow}
use Rattle.sets.specs.Members.{∈-∅, ∈_ext, ∈-single, below_power}
use Rattle.semantics.specs.Definitions.Rules.{Rule, EpistemicRule, Subjective, K, not_k, M, not_m}
use Rattle.semantics.specs.Definitions.Reading.{field}
use Rattle.semantics.specs.Definitions.Sheet.{Sheet, atoms, rule_of_masks, most_rules}
use Rattle.semantics.specs.Definitions.Guesses.{Negation, not_known, may_be, mentioned, negations_of}
use Rattle.semantics.specs.Definitions.Reduct.{Action, becomes_a, becomes_not_a, becomes_not_not_a, holds_by, deleted, reduct_rule, reduct}
use Rattle.semantics.specs.Definitions.Setting.{Setting, setting_of, add, k}
use Rattle.semantics.specs.Definitions.Check.{unpaired, setting, opened, of_sheet}
use Rattle.semantics.specs.Definitions.Returned.{accepted}
use Rattle.semantics.specs.Fields.{masks_of, k_atoms, m_atoms}
use Rattle.semantics.specs.Words.{eight_masks}
use Rattle.semantics.specs.Theorems.Negations.{dec_mentioned}
use Rattle.semantics.specs.Theorems.Subjects.{∈-masks}
use Rattle.semantics.specs.Theorems.Reduct.{Brought, dec_deleted, rule_reduces}
use Rattle.semantics.proofs.Theorems.Pairs.{none_disjoint}
use Rattle.semantics.specs.Theorems.Layout.{sheet_bytes, sheet_of, Fits}
use Rattle.semantics.proofs.Theorems.Layout.{accepted_fits}
use Rattle.semantics.proofs.Theorems.Fitting.{fits_accepted}
use Rattle.semantics.proofs.Theorems.Source.{sheet_accepted}
use Rattle.semantics.proofs.Theorems.Constraints.{add_none}
use Rattle.semantics.specs.Theorems.Written.{sheet_rule, sheet_rules}

-- ---- a rule without K and M, as the definitions take it from a sheet
no_subjective : (c : Rule) (m : Subjective) {a : ℕ} → a ∈ (sheet_rule c).mask m → ⊥
no_subjective c K h = ∈-∅ h
no_subjective c not_k h = ∈-∅ h
no_subjective c M h = ∈-∅ h
no_subjective c not_m h = ∈-∅ h

-- ---- the reduct: such a rule is not deleted, and the table brings nothing to its masks
module _ (n : ℕ) (holds : Subjective → ℕ → Bool) where
  not_deleted : (c : Rule) → deleted n holds (sheet_rule c) ≡ false
  not_deleted c = is_false (dec_deleted n holds (sheet_rule c)) (λ (a, l, (m, h, e)). no_subjective c m h)

  nothing_brought : (c : Rule) (x : Action) (own : ℕ) {q : ℕ} → ((a : ℕ) → a ∈ q ↔ Brought n holds (sheet_rule c) x own a) → q ≡ own
  nothing_brought c x own {q} f =
      ∈_ext q own (λ a. (λ h. ⊎_elim (λ o. o) (λ (l, (m, o, e)). absurd (no_subjective c m o)) ((f a).0 h), λ h. (f a).1 (inl h)))

  rule-written : (c : Rule) → reduct_rule n holds (sheet_rule c) ≡ c
  rule-written c i =
      let r = rule_reduces n holds (sheet_rule c) in
      record {
        head = r.head i;
        plain = nothing_brought c becomes_a c.plain r.plain i;
        nots = nothing_brought c becomes_not_a c.nots r.nots i;
        not_nots = nothing_brought c becomes_not_not_a c.not_nots r.not_nots i;
      }

  rules-written : (cs : List Rule) → reduct n holds (sheet_rules cs) ≡ cs
  unfolding reduct keep
  rules-written [] = refl
  rules-written (c ∷ cs) = rw (not_deleted c) (ap₂ ◌∷◌ (rule-written c) (rules-written cs))

  pub reduct-written : (rs : List EpistemicRule) (cs : List Rule) → reduct n holds (rs ++ sheet_rules cs) ≡ reduct n holds rs ++ cs
  unfolding reduct
  reduct-written rs cs =
      let kept : EpistemicRule → Bool = λ r. not (deleted n holds r) in
      ap (map (reduct_rule n holds)) (keep_append kept rs (sheet_rules cs)) ∙ map-append (reduct_rule n holds) (keep kept rs) (keep kept (sheet_rules cs))
      ∙ ap (λ l. reduct n holds rs ++ l) (rules-written cs)

-- ---- the negations: such a rule has none
module _ (n : ℕ) (rs : List EpistemicRule) (cs : List Rule) where
  mentioned-written : (m m' : Subjective) (a : ℕ) → mentioned (rs ++ sheet_rules cs) m m' a ≡ mentioned rs m m' a
  mentioned-written m m' a =
      dec_one (dec_mentioned (rs ++ sheet_rules cs) m m' a)
      (dec_iff (
        λ (r, l, h). (r, (among-append rs).1 (inl l), h),
        λ (r, l, h). ⊎_elim (λ o. (r, o, h)) (λ o. absurd (none r o h)) ((among-append rs).0 l),
      ) (dec_mentioned rs m m' a))
    where
      none : (r : EpistemicRule) → r among sheet_rules cs → (a ∈ r.mask m) ⊎ (a ∈ r.mask m') → ⊥
      none r o h =
          let (l, p, e) = (among-map rule_of_masks (map eight_masks cs)).0 o in
          let (c, _, d) = (among-map eight_masks cs).0 p in
          let z : r ≡ sheet_rule c = e ∙ ap rule_of_masks d in
          ⊎_elim (λ q. no_subjective c m (subst (λ y. a ∈ y.mask m) z q)) (λ q. no_subjective c m' (subst (λ y. a ∈ y.mask m') z q)) h

  negations_written : negations_of n (rs ++ sheet_rules cs) ≡ negations_of n rs
  negations_written i = flat (λ a. only (mentioned-written K not_k a i) (not_known a) ++ only (mentioned-written M not_m a i) (may_be a)) (up_to n)

  -- so the setting is the one with those rules added; their heads may have atoms
  pub setting-written : setting_of n (rs ++ sheet_rules cs) ≡ add cs (setting_of n rs)
  setting-written =
      (λ i. with_negations (negations_written i))
      ∙ (λ i. record { atoms = n; negations = es; program = λ g. reduct-written n (holds_by es g) rs cs i })
    where
      es : List Negation
      es = negations_of n rs

      with_negations : List Negation → Setting
      with_negations es = record { atoms = n; negations = es; program = λ g. reduct n (holds_by es g) (rs ++ sheet_rules cs) }

-- ---- the atoms under K and under M: such a rule has none
module _ (m m' : ℕ) (none : (c : Rule) → (get_or (eight_masks c) m 0 ≡ ∅) × (get_or (eight_masks c) m' 0 ≡ ∅)) (rules : List (List ℕ)) (cs : List Rule) where
  masks-written : ⋃ (masks_of m m' (rules ++ map eight_masks cs)) ≡ ⋃ (masks_of m m' rules)
  masks-written =
      ∈_ext _ _ (λ a.
      let all = ∈-masks m m' (rules ++ map eight_masks cs) a in
      let own = ∈-masks m m' rules a in (
        λ h. let (r, l, o) = all.0 h in ⊎_elim (λ k. own.1 (r, k, o)) (λ k. absurd (nothing r k o)) ((among-append rules).0 l),
        λ h. let (r, l, o) = own.0 h in all.1 (r, (among-append rules).1 (inl l), o),
      ))
    where
      nothing : (r : List ℕ) → r among map eight_masks cs → {a : ℕ} → (a ∈ get_or r m 0) ⊎ (a ∈ get_or r m' 0) → ⊥
      nothing r k {a} o =
          let (c, _, e) = (among-map eight_masks cs).0 k in
          let (one, other) = none c in
          ⊎_elim (λ h. ∈-∅ (subst (λ z. a ∈ z) (ap (λ l. get_or l m 0) e ∙ one) h)) (λ h. ∈-∅ (subst (λ z. a ∈ z) (ap (λ l. get_or l m' 0) e ∙ other) h)) o

pub k_atoms-written : (rules : List (List ℕ)) (cs : List Rule) → k_atoms (rules ++ map eight_masks cs) ≡ k_atoms rules
k_atoms-written = masks-written 4 5 (λ c. (refl, refl))

pub m_atoms-written : (rules : List (List ℕ)) (cs : List Rule) → m_atoms (rules ++ map eight_masks cs) ≡ m_atoms rules
m_atoms-written = masks-written 6 7 (λ c. (refl, refl))

-- ---- their masks
module _ (n : ℕ) where
  pub ∅_below : ∅ < 2 ^ n
  ∅_below = pow_pos n

  pub single_below : {a m : ℕ} → m < 2 ^ n → a ∈ m → single a < 2 ^ n
  single_below {a} {m} l h = (below_power n (single a)).1 (λ b q. subst (λ z. z < n) (sym ((∈-single b a).0 q)) ((below_power n m).0 l a h))

  more_below : {m : ℕ} {ms : List ℕ} → m < 2 ^ n → Below n ms → Below n (m ∷ ms)
  more_below = all_cons (λ m. m < 2 ^ n)

  pub masks_below : (c : Rule) → c.head < 2 ^ n → c.plain < 2 ^ n → c.nots < 2 ^ n → c.not_nots < 2 ^ n → Below n (eight_masks c)
  masks_below c h p q r =
      more_below h (more_below p (more_below q (more_below r
      (more_below ∅_below (more_below ∅_below (more_below ∅_below (more_below ∅_below (λ _ m. absurd (nowhere m)))))))))

-- ---- an accepted sheet with such rules after its own, and no pairs
module _ (s : List ℕ) (x : Sheet) (end : ℕ) (e : opened s ≡ field x end) (cs : List Rule) (below : AllBelow (atoms x) (map eight_masks cs))
    (few : length x.rules + length cs ≤ most_rules) where
  abbrev with_rules : List (List ℕ)
  with_rules = x.rules ++ map eight_masks cs

  -- the rules of the sheet, and these
  abbrev added : Setting
  added = add cs (unpaired x)

  setting_with : setting (sheet_of x.names with_rules []) ≡ added
  setting_with =
      add_none (setting_of (atoms x) (map rule_of_masks with_rules))
      ∙ ap (setting_of (atoms x)) (map-append rule_of_masks x.rules (map eight_masks cs)) ∙ setting-written (atoms x) (map rule_of_masks x.rules) cs

  pub written_fits : Fits x.names with_rules []
  written_fits =
      let f = (accepted_fits s x end e).front_fits in
      record {
        front_fits = record {
          few_names = f.few_names;
          good_names = f.good_names;
          distinct = f.distinct;
          few_rules = omega (arith, length-append x.rules (map eight_masks cs), length-map cs eight_masks);
          whole-rules = all_append (λ r. length r ≡ 8) x.rules f.whole-rules (λ r m. ap length ((among-map eight_masks cs).0 m).2);
          masks_below = all_append (Below (atoms x)) x.rules f.masks_below below;
          few_negations = rw (ap k setting_with) f.few_negations;
        };
        few_pairs = omega arith;
        disjoint = none_disjoint (atoms x);
      }

  pub written-bytes : of_sheet (sheet_bytes x.names with_rules []) ≡ accepted added
  written-bytes =
      let bytes = sheet_bytes x.names with_rules [] in
      (sheet_accepted bytes added).1 (sheet_of x.names with_rules [], length bytes, fits_accepted x.names with_rules [] written_fits, sym setting_with)
