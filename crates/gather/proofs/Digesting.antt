-- The digest of a rule, by its masks; and of the first rules. Assumes nothing.
use Prim.Native.Nat.{ℕ, ◌+◌, ◌*◌, ◌≤◌, ◌<◌}
use mathlib.Core.Path.{◌≡◌, sym, ap₂, ◌∙◌}
use mathlib.Core.List.{List, map}
use mathlib.Core.Logic.{⊎_elim}
use native.Mathlib.Omega.{arith}
use lib.ListN.{length, take, get_or, set}
use lib.Seq.{length-take-le, get_or-take, get_or-set_same, get_or-set_other}
use Rattle.sets.specs.Decides.{decided, dec_eq}
use Rattle.sets.specs.Lists.{get_or-up_to}
use Rattle.sets.specs.Sets.{◌∪◌, ◌∖◌, full}
use Rattle.semantics.specs.Definitions.Rules.{EpistemicRule, K, not_k, M, not_m}
use Rattle.semantics.specs.Definitions.Sheet.{rule_of_masks}
use Rattle.semantics.specs.Definitions.Setting.{Setting}
use Rattle.semantics.specs.Words.{mask_in, masks_in, rules_in}
use Rattle.semantics.proofs.Theorems.AtSet.{barred-found, asked-found}
use Rattle.guess.specs.declared.outline.Outline.{Outline}
use Rattle.guess.specs.Programs.{unmasked_in, Outlines}
use Rattle.guess.specs.Negations.{found_by}
use Rattle.guess.specs.Numbered.{found_is}
use Rattle.gather.specs.declared.digest.Digest.{Digest}
use Rattle.gather.specs.Digests.{digest_of, digest_in, Digested}

-- ---- so many digests are written
pub record UpTo (x : Outline) (words : List ℕ) (digests : List Digest) (n : ℕ) : Type 0 where
  pub rule : {j : ℕ} → j < n → digest_in digests j ≡ digest_of (unmasked_in x words) (rule_of_masks (masks_in words j))

pub none_yet : (x : Outline) (words : List ℕ) (digests : List Digest) → UpTo x words digests 0
none_yet x words digests = record { rule = λ h. absurd (omega arith) }

pub one_more : {x : Outline} {words : List ℕ} {a : List Digest} {n : ℕ} {d : Digest} → UpTo x words a n → n < length a
    → d ≡ digest_of (unmasked_in x words) (rule_of_masks (masks_in words n)) → UpTo x words (set a n d) (n + 1)
one_more {x} {words} {a} {n} {d} f h right = record {
  rule = λ {j} k. ⊎_elim (λ q. rw q (get_or-set_same a n d _ h ∙ right)) (λ q. get_or-set_other a n j d _ q ∙ f.rule (omega arith)) (decided (dec_eq j n));
}

-- as many as there are rules
pub all_written : {x : Outline} {words : List ℕ} {a : List Digest} → UpTo x words a x.rules → x.rules ≤ length a → Digested x words (take x.rules a)
all_written {x} {words} {a} f h = record {
  stand = omega (arith, length-take-le x.rules a h);
  rule = λ {j} k. get_or-take x.rules a j _ k ∙ f.rule k;
}

-- ---- those of the rules alone, where more are lent
pub exactly : {x : Outline} {words : List ℕ} {a : List Digest} → Digested x words a → Digested x words (take x.rules a)
exactly {x} {words} {a} d = all_written (record { rule = d.rule }) d.stand

pub as_many : {x : Outline} {words : List ℕ} {a : List Digest} → Digested x words a → length (take x.rules a) ≡ x.rules
as_many {x} {words} {a} d = length-take-le x.rules a d.stand

-- ---- one digest
module _ {x : Outline} {words : List ℕ} (o : Outlines x words) (j : ℕ) where
  abbrev s : Setting
  s = unmasked_in x words

  abbrev m : ℕ → ℕ
  m i = get_or words (8 * j + i) 0

  mask_is : (i : ℕ) → i < 8 → m i ≡ get_or (masks_in words j) i 0
  mask_is i h = sym (get_or-up_to (mask_in words j) 0 8 i h)

  -- as the code makes it
  pub digest_is : {head all missed unasked barred asked : ℕ} → head ≡ m 0 → all ≡ full x.atoms → missed ≡ all ∖ m 4 → barred ≡ found_by x missed (m 7)
      → unasked ≡ all ∖ m 5 → asked ≡ found_by x unasked (m 6)
      → ◌≡◌ {A = Digest} (record { head = head; body = m 1 ∪ m 3; nots = m 2; plain = m 1 ∪ m 4; barred = barred; asked = asked })
      (digest_of s (rule_of_masks (masks_in words j)))
  digest_is {head} {all} {missed} {unasked} {barred} {asked} first whole f b h a = λ i. record {
    head = (first ∙ mask_is 0 (omega arith)) i;
    body = mask_is 1 (omega arith) i ∪ mask_is 3 (omega arith) i;
    nots = mask_is 2 (omega arith) i;
    plain = mask_is 1 (omega arith) i ∪ mask_is 4 (omega arith) i;
    barred = (b ∙ ap₂ (found_by x) (f ∙ ap₂ ◌∖◌ whole (mask_is 4 (omega arith))) (mask_is 7 (omega arith))
        ∙ found_is o (full x.atoms ∖ r.mask K) (r.mask not_m) ∙ sym (barred-found x.atoms rs r)) i;
    asked = (a ∙ ap₂ (found_by x) (h ∙ ap₂ ◌∖◌ whole (mask_is 5 (omega arith))) (mask_is 6 (omega arith))
        ∙ found_is o (full x.atoms ∖ r.mask not_k) (r.mask M) ∙ sym (asked-found x.atoms rs r)) i;
  }
    where
      r : EpistemicRule
      r = rule_of_masks (masks_in words j)

      rs : List EpistemicRule
      rs = map rule_of_masks (rules_in words x.rules)
