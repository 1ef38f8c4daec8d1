-- A sheet that is opened, its masks judged and its rules and pairs loaded: the source that it is. Assumes nothing.
use Prim.Native.Nat.{ℕ, ◌+◌, ◌*◌, ◌≤◌}
use mathlib.Core.Path.{◌≡◌, refl, sym, ap, ◌∙◌, subst}
use mathlib.Core.Bool.{true, false}
use mathlib.Core.List.{List, ◌++◌, map}
use mathlib.Core.Logic.{inl, inr}
use native.Mathlib.Omega.{arith}
use lib.ListN.{length}
use Rattle.sets.specs.Lists.{all_append}
use Rattle.sets.specs.Sets.{Below, AllBelow}
use Rattle.semantics.specs.Definitions.Reading.{field}
use Rattle.semantics.specs.Definitions.Sheet.{Sheet, atoms, rule_of_masks, most_atoms}
use Rattle.semantics.specs.Definitions.Setting.{setting_of, k}
use Rattle.semantics.specs.Definitions.Check.{opposed, setting, opened, of_sheet}
use Rattle.semantics.specs.Definitions.Day.{under, masks_fit, of_day}
use Rattle.semantics.specs.Fields.{k_atoms, m_atoms}
use Rattle.semantics.specs.Words.{program_room, pairs_written, rules_in}
use Rattle.semantics.proofs.Theorems.Accepted.{accepted_read}
use Rattle.semantics.proofs.Theorems.Layout.{accepted_fits}
use Rattle.semantics.proofs.Theorems.Written.{k_atoms-written, m_atoms-written}
use Rattle.semantics.proofs.Theorems.Opposites.{opposed_below, pairs_as_rules}
use Rattle.semantics.proofs.Theorems.Source.{sheet_accepted, sheet_refused}
use Rattle.semantics.proofs.Theorems.DaySource.{dec_fit, not_fit, masks_accepted, masks_refused}
use Rattle.sheet.specs.declared.Contents.{Contents}
use Rattle.sheet.specs.Opened.{contents, opened_of, opened_as, opened_refused, Holds}
use Rattle.opened.specs.Loaded.{Loads}
use Rattle.guess.specs.declared.outline.Outline.{Outline}
use Rattle.guess.specs.Programs.{unmasked_in, Outlines}
use Rattle.std.specs.Prelude.{Ok, Err}
use Rattle.answers.specs.Refusals.{number_of}
use Rattle.answers.specs.declared.refusal.Refusal.{Refusal}
use Rattle.sheet.specs.Refused.{refusal_of}
use Rattle.source.specs.Sources.{Reads}

abbrev pub outline_of : Contents → (rules ins outs : ℕ) → Outline
outline_of x rules ins outs = record {
  atoms = x.atoms;
  rules = rules;
  negations = x.negations;
  k_atoms = x.k_atoms;
  m_atoms = x.m_atoms;
  ins = ins;
  outs = outs;
}

-- few atoms
pub few_atoms : (s : List ℕ) {x : Contents} → opened_of (opened s) ≡ Ok x → x.atoms ≤ most_atoms
few_atoms s e =
    let (y, end, d, is) = opened_as (opened s) e in
    rw is (accepted_read s y end d).0.front_read.few_atoms

-- there is room for its rules and pairs
pub few_loaded : (s : List ℕ) {x : Contents} → Holds s x → x.rules + x.pairs ≤ program_room
few_loaded s (y, end, d, is) =
    let r = (accepted_read s y end d).0 in
    rw is (omega (arith, r.front_read.few_rules, r.few_pairs))

module _ (s words : List ℕ) (ins outs : ℕ) where
  -- of the sheet y
  module _ (y : Sheet) (end : ℕ) (e : opened s ≡ field y end) (rules : ℕ) (many : rules ≡ length y.rules + length y.pairs)
      (same : rules_in words rules ≡ y.rules ++ pairs_written y.pairs) (room : 8 * program_room ≤ length words) where
    outline : Outline
    outline = outline_of (contents y) rules ins outs

    means : unmasked_in outline words ≡ setting y
    unfolding outline
    means = ap (λ rules. setting_of (atoms y) (map rule_of_masks rules)) same ∙ pairs_as_rules y

    is_outline : Outlines outline words
    unfolding outline
    is_outline =
        let (read, few) = accepted_read s y end e in
        let fits = accepted_fits s y end e in
        let below = all_append (Below (atoms y)) y.rules fits.front_fits.masks_below (opposed_below (atoms y) y.pairs fits.disjoint.below) in
        record {
          few_atoms = read.front_read.few_atoms;
          few_rules = omega (arith, many, read.front_read.few_rules, read.few_pairs);
          stand = omega (arith, many, read.front_read.few_rules, read.few_pairs, room);
          below = subst (AllBelow (atoms y)) (sym same) below;
          k-atoms = sym (ap k_atoms same ∙ k_atoms-written y.rules (map opposed y.pairs));
          m-atoms = sym (ap m_atoms same ∙ m_atoms-written y.rules (map opposed y.pairs));
          counted = ap k (sym means);
          few_negations = few;
        }

    loaded : masks_fit ins outs (atoms y) ≡ true → Reads (of_day s ins outs) (Ok (outline_of (contents y) rules ins outs)) words
    unfolding outline
    loaded fits = (
      is_outline,
      (masks_accepted (of_sheet s) ins outs _).1 (setting y, (sheet_accepted s _).1 (y, end, e, refl), (dec_fit ins outs (atoms y)).yes fits, ap (under ins outs) means),
    )

  pub day_reads : {x : Contents} → Holds s x → masks_fit ins outs x.atoms ≡ true → (rules : ℕ) → rules ≡ x.rules + x.pairs → Loads s rules words
      → 8 * program_room ≤ length words → Reads (of_day s ins outs) (Ok (outline_of x rules ins outs)) words
  day_reads {x} (y, end, d, is) fits rules many loads room =
      let all : rules ≡ length y.rules + length y.pairs = subst (λ c. rules ≡ c.rules + c.pairs) is many in
      subst (λ c. Reads (of_day s ins outs) (Ok (outline_of c rules ins outs)) words) (sym is)
      (loaded y end d rules all (loads y end d) room (subst (λ c. masks_fit ins outs c.atoms ≡ true) is fits))

  -- "13, place 0"
  pub day_reads_bad : {x : Contents} → opened_of (opened s) ≡ Ok x → masks_fit ins outs x.atoms ≡ false → Reads (of_day s ins outs) (Err (refusal_of 13 0)) words
  day_reads_bad e not_so =
      let (y, end, d, is) = opened_as (opened s) e in
      let bad = subst (λ c. masks_fit ins outs c.atoms ≡ false) is not_so in
      (masks_refused (of_sheet s) ins outs 13 0).1
      (inr (setting y, (sheet_accepted s _).1 (y, end, d, refl), not_fit ins outs (atoms y) ((dec_fit ins outs (atoms y)).no bad), refl, refl))

  pub day_reads_refused : {q : Refusal} → opened_of (opened s) ≡ Err q → Reads (of_day s ins outs) (Err q) words
  day_reads_refused {q} e =
      (masks_refused (of_sheet s) ins outs (number_of q.reason) q.place).1 (inl ((sheet_refused s (number_of q.reason) q.place).1 (opened_refused s e)))
