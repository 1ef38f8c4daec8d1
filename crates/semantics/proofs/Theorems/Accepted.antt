-- Where the parts of an accepted sheet lie in its bytes. Assumes nothing.
use Rattle.std.specs.Prelude.{ℕ, ◌+◌, ◌*◌, ◌^◌, ◌≤◌, ◌<◌, ◌≡◌, leb, eqb, get_or}
use Rattle.std.proofs.Math.Path.{sym, ap, subst}
use Rattle.std.proofs.Common.{◌∙◌, arith}
use mathlib.Core.List.{List, []}
use borrow.Author.Tests.{leb-true, eqb-true}
use Rattle.std.proofs.Math.ListN.{length}
use Rattle.sets.specs.Lists.{nowhere, all_get_d, get_or-up_to}
use Rattle.sets.specs.Sets.{Below, AllBelow}
use Rattle.sets.specs.Members.{get_or_below}
use Rattle.semantics.specs.Definitions.Reading.{field, times}
use Rattle.semantics.specs.Definitions.Sheet.{Opposites, Sheet, with_pairs, byte_at, word_at, count_at, name_at, rule_at, pair_at, front, pairs_at, sections, most_atoms, most_rules, most_pairs, longest_sheet}
use Rattle.semantics.specs.Definitions.Setting.{k}
use Rattle.semantics.specs.Definitions.Check.{most_negations, setting, opened}
use Rattle.semantics.specs.Fields.{after_names, rule_from, pairs_from}
use Rattle.semantics.specs.Theorems.Reading.{then_field, require_field, field_same, times-length}
use Rattle.semantics.proofs.Theorems.Fields.{after_names_rises, count_field, names_field, rules_field, pairs_field}
use Rattle.semantics.specs.Theorems.Places.{SheetRefusal, Within}
use Rattle.semantics.proofs.Theorems.Places.{opened_in}
use Rattle.semantics.specs.Theorems.Accepted.{FrontRead, Read, Lies}

module _ (s : List ℕ) where
  same-front : {x y : Sheet} {m n : ℕ} → y ≡ x → n ≡ m → FrontRead s x.names x.rules x.rules_at m → FrontRead s y.names y.rules y.rules_at n
  same-front p q r = rw (p, q) r

  pub front_read : (x : Sheet) (end : ℕ) → front s ≡ field x end → FrontRead s x.names x.rules x.rules_at end
  unfolding front
  front_read x end e =
      let (n, at₁, e₁, r₁) = then_field (count_at s most_atoms 0) _ e in
      let (names, at₂, e₂, r₂) = then_field (times n [] (name_at s) at₁) _ r₁ in
      let (m, at₃, e₃, r₃) = then_field (count_at s most_rules at₂) _ r₂ in
      let (rules, at₄, e₄, r₄) = then_field (times m [] (λ _. rule_at s n) at₃) _ r₃ in
      let (ex, ee) = field_same r₄ in
      same-front ex ee (parts n m at₁ at₂ at₃ at₄ names rules e₁ e₂ e₃ e₄)
    where
      parts : (n m at₁ at₂ at₃ at₄ : ℕ) (names rules : List (List ℕ)) → count_at s most_atoms 0 ≡ field n at₁ → times n [] (name_at s) at₁ ≡ field names at₂
          → count_at s most_rules at₂ ≡ field m at₃ → times m [] (λ _. rule_at s n) at₃ ≡ field rules at₄ → FrontRead s names rules at₃ at₄
      parts n m at₁ at₂ at₃ at₄ names rules e₁ e₂ e₃ e₄ =
          let (c₁, c₂, c₃, c₄) = count_field s most_atoms 0 n at₁ e₁ in
          let (d₁, d₂, d₃, d₄) = count_field s most_rules at₂ m at₃ e₃ in
          let ln = times-length (name_at s) n at₁ e₂ in
          let lm = times-length (λ _. rule_at s n) m at₃ e₄ in
          record {
            few_atoms = omega arith;
            atoms_byte = sym c₁ ∙ sym ln;
            some_bytes = c₄;
            counted_at = at₂;
            names-read = rw ln (subst (λ p. times n [] (name_at s) p ≡ field names at₂) c₂ e₂);
            few_rules = omega arith;
            rules_byte = sym d₁ ∙ sym lm;
            more_bytes = d₄;
            after_count = d₂;
            rules-read = rw (ln, lm) e₄;
          }

  -- the front of a sheet has no pairs yet
  pub front-alone : (x : Sheet) (end : ℕ) → front s ≡ field x end → x.pairs ≡ []
  unfolding front
  front-alone x end e =
      let (n, at₁, _, r₁) = then_field (count_at s most_atoms 0) _ e in
      let (names, at₂, _, r₂) = then_field (times n [] (name_at s) at₁) _ r₁ in
      let (m, at₃, _, r₃) = then_field (count_at s most_rules at₂) _ r₂ in
      let (rules, at₄, _, r₄) = then_field (times m [] (λ _. rule_at s n) at₃) _ r₃ in
      ap (λ y. y.pairs) (field_same r₄).0

  same : {x y : Sheet} {m n : ℕ} → y ≡ x → n ≡ m → Read s x m → Read s y n
  same p q r = rw (p, q) r

  pub sections-read : (x : Sheet) (end : ℕ) → sections s ≡ field x end → Read s x end
  unfolding sections pairs_at
  sections-read x end e =
      let (y, at, e₁, r₁) = then_field (front s) _ e in
      let (pairs, at₃, e₂, r₂) = then_field (pairs_at s (length y.names) at) _ r₁ in
      let (n, at₂, e₃, r₃) = then_field (count_at s most_pairs at) _ e₂ in
      let (t, r₄) = require_field (eqb at₃ (length s)) 6 at₃ (field (with_pairs y pairs) at₃) r₂ in
      let (ex, ee) = field_same r₄ in
      same ex ee (parts y pairs n at at₂ at₃ (front_read y at e₁) e₃ r₃ (eqb-true at₃ (length s) t))
    where
      parts : (y : Sheet) (pairs : List Opposites) (n at at₂ at₃ : ℕ) → FrontRead s y.names y.rules y.rules_at at → count_at s most_pairs at ≡ field n at₂
          → times n [] (pair_at s (length y.names)) at₂ ≡ field pairs at₃ → at₃ ≡ length s → Read s (with_pairs y pairs) at₃
      parts y pairs n at at₂ at₃ f e₂ e₃ e₄ =
          let (c₁, c₂, c₃, c₄) = count_field s most_pairs at n at₂ e₂ in
          let ln = times-length (pair_at s (length y.names)) n at₂ e₃ in
          record {
            pairs_counted = at;
            front_read = f;
            few_pairs = omega arith;
            pairs_byte = sym c₁ ∙ sym ln;
            last_bytes = c₄;
            pairs-read = rw ln (subst (λ p. times n [] (pair_at s (length y.names)) p ≡ field pairs at₃) c₂ e₃);
            ends = e₄;
          }

  -- every mask of the rules that were read has atoms of the sheet only
  pub masks_below : (x : Sheet) (end : ℕ) → sections s ≡ field x end → AllBelow (length x.names) x.rules
  masks_below x end e =
      let (_, _, below) = rules_field s (length x.names) _ x.rules_at _ _ (sections-read x end e).front_read.rules-read in
      below

  pub accepted_read : (x : Sheet) (end : ℕ) → opened s ≡ field x end → Read s x end × (k (setting x) ≤ most_negations)
  unfolding opened
  accepted_read x end e =
      let (y, n, d, r) = then_field (sections s) _ e in
      let (t, f) = require_field (leb (k (setting y)) most_negations) 7 0 (field y n) r in
      let h = leb-true (k (setting y)) most_negations t in
      (sections-read x end (d ∙ f), rw (field_same f).0 h)

module _ (s : List ℕ) (x : Sheet) (end : ℕ) (e : opened s ≡ field x end) where
  pub accepted_lies : Lies s x end
  unfolding after_names
  accepted_lies =
      let r = (accepted_read s x end e).0 in
      let f = r.front_read in
      let (names, counted) = names_field s _ 1 _ _ f.names-read in
      let (rules, after-rules, _) = rules_field s (length x.names) _ x.rules_at r.pairs_counted _ f.rules-read in
      let (pairs, after-pairs) = pairs_field s (length x.names) _ (r.pairs_counted + 1) end _ r.pairs-read in
      record {
        ends = r.ends;
        not_long = omega (arith, r.ends, subst (Within (SheetRefusal 7) longest_sheet) e (opened_in s));
        not_short = omega (arith, r.last_bytes, after-rules, f.after_count, counted, after_names_rises s 0 (length x.names) 1 (omega arith));
        atoms_byte = f.atoms_byte;
        names_lie = names;
        rules_begin = f.after_count ∙ ap (λ p. p + 1) counted;
        rules_byte = ap (byte_at s) (sym counted) ∙ f.rules_byte;
        rules_lie = rules;
        pairs_byte = ap (byte_at s) (sym after-rules) ∙ r.pairs_byte;
        pairs_lie = subst (λ p. x.pairs ≡ pairs_from s (length x.pairs) (p + 1)) after-rules pairs;
        whole = omega (arith, after-rules, after-pairs, r.ends);
      }

  -- rule i, and its mask j
  pub rule_lies : (i : ℕ) → i < length x.rules → get_or x.rules i [] ≡ rule_from s (x.rules_at + 16 * i)
  rule_lies i h =
      ap (λ l. get_or l i []) accepted_lies.rules_lie ∙ get_or-up_to (λ j. rule_from s (x.rules_at + 16 * j)) [] (length x.rules) i h

  pub mask_lies : (i j : ℕ) → i < length x.rules → j < 8 → get_or (get_or x.rules i []) j 0 ≡ word_at s (x.rules_at + 16 * i + 2 * j)
  mask_lies i j h l = ap (λ r. get_or r j 0) (rule_lies i h) ∙ get_or-up_to (λ m. word_at s (x.rules_at + 16 * i + 2 * m)) 0 8 j l

  pub mask_below : (i j : ℕ) → i < length x.rules → j < 8 → word_at s (x.rules_at + 16 * i + 2 * j) < 2 ^ length x.names
  mask_below i j h l =
      let n = length x.names in
      let (_, _, below) = rules_field s n _ x.rules_at _ _ (accepted_read s x end e).0.front_read.rules-read in
      let r = all_get_d (Below n) x.rules [] below (λ m k. absurd (nowhere k)) i in
      subst (λ w. w < 2 ^ n) (mask_lies i j h l) (get_or_below n (get_or x.rules i []) r j)
