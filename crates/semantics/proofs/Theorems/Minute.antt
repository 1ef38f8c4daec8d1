-- "the sheet with only the rules in force": it fits a sheet's layout, with no more negations, so its bytes are accepted and say it; it is the
-- whole sheet where no entry is; and it is the same at minutes with the same rules in force. Assumes nothing.
use Rattle.std.specs.Prelude.{ℕ, ◌≤◌, ◌<◌, ◌≡◌, refl, Bool, true, List, [], map, length, get_or}
use Rattle.std.proofs.Common.{ap, ◌∙◌, subst, sym, arith, ext_get_or}
use Rattle.std.proofs.lemmas.List.{length-map}
use Rattle.sets.specs.Lists.{◌among◌, keep, up_to, get_or-among, among-keep, among-map, among-up_to, length-up_to, get_or-up_to, map_keep_same}
use Rattle.sets.specs.Pairwise.{up_to_distinct, pairwise_keep}
use Rattle.sets.specs.Counting.{no_longer, keep_all}
use Rattle.sets.specs.Sets.{AllBelow}
use Rattle.semantics.specs.Definitions.Rules.{EpistemicRule}
use Rattle.semantics.specs.Definitions.Reading.{field}
use Rattle.semantics.specs.Definitions.Sheet.{Sheet, atoms, rule_of_masks}
use Rattle.semantics.specs.Definitions.Guesses.{Negation, not_known, may_be, negations_of}
use Rattle.semantics.specs.Definitions.Setting.{setting_of, k}
use Rattle.semantics.specs.Definitions.Check.{setting, opened, of_sheet}
use Rattle.semantics.specs.Definitions.Returned.{accepted}
use Rattle.semantics.specs.Definitions.Calendar.{Entry, in_force, at_minute, rules_in_force}
use Rattle.semantics.proofs.Theorems.Source.{sheet_accepted}
use Rattle.semantics.specs.Theorems.Layout.{sheet_bytes, sheet_of, Fits}
use Rattle.semantics.proofs.Theorems.Layout.{accepted_fits}
use Rattle.semantics.proofs.Theorems.Fitting.{fits_accepted}
use Rattle.semantics.specs.Theorems.Negations.{Appears}
use Rattle.semantics.proofs.Theorems.Negations.{definition_3, negations_distinct}
use Rattle.semantics.proofs.Theorems.InForce.{no_entries, in_force_same}

-- ---- the members of a list at the places that pass a test
module _ {A : Type 0} (d : A) (l : List A) where
  abbrev at_places : (ℕ → Bool) → List A
  at_places f = map (λ i. get_or l i d) (keep f (up_to (length l)))

  places_among : (f : ℕ → Bool) {x : A} → x among at_places f → x among l
  places_among f {x} m =
      let (i, k, e) = (among-map (λ i. get_or l i d) (keep f (up_to (length l)))).0 m in
      subst (λ y. y among l) (sym e) (get_or-among l d i ((among-up_to (length l)).0 ((among-keep f (up_to (length l))).0 k).0))

  places_fewer : (f : ℕ → Bool) → length (at_places f) ≤ length l
  places_fewer f =
      let n = length l in
      let fewer = no_longer (keep f (up_to n)) (up_to n) (pairwise_keep _ f (up_to n) (up_to_distinct n)) (λ i m. ((among-keep f (up_to n)).0 m).0) in
      omega (arith, length-map (keep f (up_to n)) (λ i. get_or l i d), length-up_to n)

  places_same : (f h : ℕ → Bool) → ((i : ℕ) → i < length l → f i ≡ h i) → at_places f ≡ at_places h
  places_same f h e = map_keep_same f h (λ i. get_or l i d) (λ i. get_or l i d) (up_to (length l)) (λ i m. (e i ((among-up_to (length l)).0 m), refl))

  places_all : (f : ℕ → Bool) → ((i : ℕ) → i < length l → f i ≡ true) → at_places f ≡ l
  places_all f e =
      places_same f (λ _. true) e ∙ ap (map (λ i. get_or l i d)) (keep_all (up_to (length l)))
      ∙ ext_get_or d _ l (length-map (up_to (length l)) (λ i. get_or l i d) ∙ length-up_to (length l))
      (λ i h. get_or-up_to (λ i. get_or l i d) d (length l) i (rw (length-map (up_to (length l)) (λ i. get_or l i d), length-up_to (length l)) at h))

-- ---- fewer rules have no more negations
module _ (rs ss : List EpistemicRule) (more : (r : EpistemicRule) → r among rs → r among ss) where
  appears_more : (e : Negation) → Appears rs e → Appears ss e
  appears_more (not_known a) (r, m, h) = (r, more r m, h)
  appears_more (may_be a) (r, m, h) = (r, more r m, h)

  pub fewer_negations : (n : ℕ) → k (setting_of n rs) ≤ k (setting_of n ss)
  fewer_negations n =
      no_longer (negations_of n rs) (negations_of n ss) (negations_distinct rs n) (λ e m.
      let (l, a) = (definition_3 rs n).0 m in
      (definition_3 ss n).1 (l, appears_more e a))

-- ---- the rules in force at a minute
module _ (entries : List Entry) (minute : ℕ) (x : Sheet) where
  pub minute_among : (r : List ℕ) → r among (at_minute entries minute x).rules → r among x.rules
  minute_among r m = places_among [] x.rules (in_force entries minute) m

  pub minute_fewer : length (at_minute entries minute x).rules ≤ length x.rules
  minute_fewer = places_fewer [] x.rules (in_force entries minute)

  -- so 7, which is judged "with all its rules counted", does not come back
  pub minute_negations : k (setting (at_minute entries minute x)) ≤ k (setting x)
  minute_negations =
      fewer_negations (map rule_of_masks (at_minute entries minute x).rules) (map rule_of_masks x.rules) (λ r m.
      let (masks, i, e) = (among-map rule_of_masks (at_minute entries minute x).rules).0 m in
      (among-map rule_of_masks x.rules).1 (masks, minute_among masks i, e)) (atoms x)

  -- of an accepted sheet
  module _ (s : List ℕ) (end : ℕ) (e : opened s ≡ field x end) where
    pub minute_below : AllBelow (atoms x) (at_minute entries minute x).rules
    minute_below r m = (accepted_fits s x end e).front_fits.masks_below r (minute_among r m)

    pub minute_fits : Fits x.names (at_minute entries minute x).rules x.pairs
    minute_fits =
        let fits = accepted_fits s x end e in
        let f = fits.front_fits in
        let few = f.few_rules in
        let short = f.few_negations in
        record {
          front_fits = record {
            few_names = f.few_names;
            good_names = f.good_names;
            distinct = f.distinct;
            few_rules = omega (arith, minute_fewer);
            whole-rules = λ r m. f.whole-rules r (minute_among r m);
            masks_below = minute_below;
            few_negations = omega (arith, minute_negations);
          };
          few_pairs = fits.few_pairs;
          disjoint = fits.disjoint;
        }

    -- the bytes that the layout gives are a sheet, and it has the setting
    pub minute_bytes : of_sheet (sheet_bytes x.names (at_minute entries minute x).rules x.pairs) ≡ accepted (setting (at_minute entries minute x))
    minute_bytes =
        let kept = (at_minute entries minute x).rules in
        let says = sheet_of x.names kept x.pairs in
        let bytes = sheet_bytes x.names kept x.pairs in
        (sheet_accepted bytes (setting says)).1 (says, length bytes, fits_accepted x.names kept x.pairs minute_fits, refl)

-- ---- the whole sheet, and the same sheet
abbrev with_rules : Sheet → List (List ℕ) → Sheet
with_rules x rules = record { names = x.names; rules = rules; pairs = x.pairs; rules_at = x.rules_at }

-- "A rule with no entry is always in force": a calendar without entries leaves the sheet as it is
pub none_closed : (minute : ℕ) (x : Sheet) → at_minute [] minute x ≡ x
none_closed minute x = ap (with_rules x) (places_all [] x.rules (in_force [] minute) (λ i _. no_entries minute i))

pub same-rules : (entries : List Entry) (x : Sheet) (m m' : ℕ)
    → rules_in_force entries (length x.rules) m ≡ rules_in_force entries (length x.rules) m'
    → at_minute entries m x ≡ at_minute entries m' x
same-rules entries x m m' e =
    ap (with_rules x) (places_same [] x.rules (in_force entries m) (in_force entries m') ((in_force_same entries (length x.rules) m m').0 e))
