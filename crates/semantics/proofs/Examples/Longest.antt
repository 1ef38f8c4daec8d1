-- K7: "the longest sheet is 1,236": what the check answers to it. To read its 64 rules byte by byte is slow: here it is read without them, and with
-- them it fits the layout, which is accepted (Theorems/Layout.antt). Assumes nothing.
use Rattle.std.specs.Prelude.{ℕ, ◌+◌, ◌*◌, ◌^◌, ◌<◌, ◌≡◌, refl, List, [], ◌∷◌, ◌++◌, map, length}
use Rattle.std.proofs.Common.{sym, ap, ◌∙◌, subst, arith, pow_pos}
use Rattle.sets.specs.Lists.{some, keep, flat, up_to, same_list, ◌among◌, among-map}
use Rattle.sets.specs.Sets.{set_of}
use Rattle.semantics.specs.Definitions.Reading.{field, times}
use Rattle.semantics.specs.Definitions.Sheet.{Opposites, rule_of_masks, atoms_of, count_at, name_byte_at, name_at, pair_at, front, pairs_at, sections}
use Rattle.semantics.specs.Definitions.Setting.{setting_of, k}
use Rattle.semantics.specs.Definitions.Check.{opened, numbers, numbers_of, check}
use Rattle.semantics.specs.Definitions.Returned.{accepted, read, answer}
use Rattle.semantics.specs.Definitions.Program.{bytes}
use Rattle.semantics.specs.Theorems.Layout.{sheet_bytes, sheet_of, Fits}
use Rattle.semantics.proofs.Theorems.Layout.{accepted_fits}
use Rattle.semantics.proofs.Theorems.Fitting.{fits_accepted}
use Rattle.semantics.specs.Examples.Sheets.{zeros}
use Rattle.semantics.specs.Examples.Limits.{longest}

-- what it says
abbrev names : List (List ℕ)
names = map (λ i. bytes "abcdefghijk" ++ (97 + i) ∷ []) (up_to 15)

abbrev masks : List ℕ
masks = map (λ _. 0) (up_to 8)

abbrev rules : List (List ℕ)
rules = map (λ _. masks) (up_to 64)

abbrev pairs : List Opposites
pairs = map (λ i. record { first = 2 * i; second = 2 * i + 1 }) (up_to 7)

laid : longest ≡ sheet_bytes names rules pairs
unfolding flat up_to zeros
laid = refl

without_rules : opened (sheet_bytes names [] pairs) ≡ field (sheet_of names [] pairs) 212
unfolding some keep flat up_to same_list set_of times atoms_of count_at name_byte_at name_at pair_at front pairs_at sections opened
without_rules = refl

no_negations : k (setting_of (length names) (map rule_of_masks rules)) ≡ 0
unfolding some keep flat up_to set_of
no_negations = refl

many : length rules ≡ 64
unfolding up_to
many = refl

eight : length masks ≡ 8
unfolding up_to
eight = refl

fits : Fits names rules pairs
fits =
    let f = accepted_fits (sheet_bytes names [] pairs) (sheet_of names [] pairs) 212 without_rules in
    let same : (r : List ℕ) → r among rules → r ≡ masks = λ r m. ((among-map (λ _. masks) (up_to 64)).0 m).2 in
    let none : (x : ℕ) → x among masks → x ≡ 0 = λ x m. ((among-map {B = ℕ} (λ _. 0) (up_to 8)).0 m).2 in
    record {
      front_fits = record {
        few_names = f.front_fits.few_names;
        good_names = f.front_fits.good_names;
        distinct = f.front_fits.distinct;
        few_rules = omega (arith, many);
        whole-rules = λ r m. ap length (same r m) ∙ eight;
        masks_below = λ r m x q. subst (λ z. z < 2 ^ length names) (sym (none x (subst (λ l. x among l) (same r m) q))) (pow_pos (length names));
        few_negations = omega (arith, no_negations);
      };
      few_pairs = f.few_pairs;
      disjoint = f.disjoint;
    }

pub longest_accepted : check longest ≡ accepted (numbers 15 64 0)
unfolding some keep flat up_to set_of check
longest_accepted = ap check laid ∙ ap (λ r. answer numbers_of (read r)) (fits_accepted names rules pairs fits)
