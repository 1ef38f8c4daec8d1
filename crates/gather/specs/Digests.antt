-- The digest of the rules, as the code has it. Assumes nothing.
use Rattle.std.specs.Prelude.{ℕ, ◌≤◌, ◌<◌, ◌≡◌, List, length, slice_index_or}
use Rattle.sets.specs.Sets.{◌∪◌, ∅}
use Rattle.semantics.specs.Definitions.Rules.{EpistemicRule}
use Rattle.semantics.specs.Definitions.Sheet.{rule_of_masks}
use Rattle.semantics.specs.Definitions.Setting.{Setting}
use Rattle.semantics.specs.Words.{masks_in}
use Rattle.semantics.specs.AtSet.{barred, asked, plain_on}
use Rattle.guess.specs.declared.outline.Outline.{Outline}
use Rattle.guess.specs.Programs.{unmasked_in}
use Rattle.gather.specs.declared.digest.Digest.{Digest}

-- of a rule
abbrev pub digest_of : Setting → EpistemicRule → Digest
digest_of s r = record {
  head = r.objective.head;
  body = r.objective.plain ∪ r.objective.not_nots;
  nots = r.objective.nots;
  plain = plain_on r;
  barred = barred s r;
  asked = asked s r;
}

-- that of rule j
abbrev pub digest_in : List Digest → ℕ → Digest
digest_in digests j = slice_index_or digests j (record { head = ∅; body = ∅; nots = ∅; plain = ∅; barred = ∅; asked = ∅ })

-- of every rule in the words
pub record Digested (x : Outline) (words : List ℕ) (digests : List Digest) : Type 0 where
  pub stand : x.rules ≤ length digests
  pub rule : {j : ℕ} → j < x.rules → digest_in digests j ≡ digest_of (unmasked_in x words) (rule_of_masks (masks_in words j))
