-- What the rules of a sheet do at one set of atoms, for every guess at once. The definitions of document 01 do not rest on it;
-- Theorems/AtSet.antt shows that it gives what they say.
use Rattle.std.specs.Prelude.{ℕ, ◌≡◌, Bool, not, ◌&&◌, List, [], ◌∷◌, map}
use Rattle.sets.specs.Lists.{◌among◌, keep}
use Rattle.sets.specs.Sets.{◌⊆◌, ◌⊂◌, Meets, ◌∈?◌, ◌⊆?◌, ◌meets?◌, ◌∩◌, ◌∪◌, ◌∖◌, ∅, set_of}
use Rattle.semantics.specs.Definitions.Rules.{EpistemicRule, K, not_k, M, not_m}
use Rattle.semantics.specs.Definitions.Guesses.{Negation, not_known, may_be}
use Rattle.semantics.specs.Definitions.Setting.{Setting, k, negation}
use Rattle.semantics.specs.Definitions.Verdict.{guess_found}

-- the negations that the set i satisfies by itself
abbrev pub need : Setting → ℕ → ℕ
need s i = guess_found s (i ∷ [])

-- ---- the negations of a rule
-- the negation is that of a literal which holds where the guess misses it: K a, not M a
abbrev pub bars : EpistemicRule → Negation → Bool
bars r (not_known a) = a ∈? r.mask K
bars r (may_be a) = a ∈? r.mask not_m

-- the negation is that of a literal which holds where the guess has it: not K a, M a
abbrev pub asks : EpistemicRule → Negation → Bool
asks r (not_known a) = a ∈? r.mask not_k
asks r (may_be a) = a ∈? r.mask M

-- the numbers of these negations
abbrev pub barred : Setting → EpistemicRule → ℕ
barred s r = set_of (λ j. bars r (negation s j)) (k s)

abbrev pub asked : Setting → EpistemicRule → ℕ
asked s r = set_of (λ j. asks r (negation s j)) (k s)

-- the plain atoms of what the rule becomes where it is not deleted: K a becomes a
abbrev pub plain_on : EpistemicRule → ℕ
plain_on r = r.objective.plain ∪ r.mask K

-- ---- the rules at a set
-- what is gathered of a rule at i: its head within i, its plain atoms, the negations that a guess must miss and those that it must hold
pub record GatheredRule : Type 0 where
  pub head : ℕ
  pub plain : ℕ
  pub misses : ℕ
  pub holds : ℕ

module _ (s : Setting) where
  -- masks 1 to 3 hold in i, and what i needs does not bar the rule: no guess switches another rule on
  abbrev pub gathers : (i : ℕ) → EpistemicRule → Bool
  gathers i r = r.objective.plain ∪ r.objective.not_nots ⊆? i && not (r.objective.nots meets? i) && not (barred s r meets? need s i)

  abbrev pub gather_rule : (i : ℕ) → EpistemicRule → GatheredRule
  gather_rule i r = record { head = r.objective.head ∩ i; plain = plain_on r; misses = barred s r; holds = asked s r ∖ need s i }

  -- of the rules of a sheet, in its order
  unfoldable pub gathered_rules : List EpistemicRule → (i : ℕ) → List GatheredRule
  gathered_rules rs i = map (gather_rule i) (keep (gathers i) rs)

-- the guess g switches a gathered rule on
pub record SwitchedOn (e : GatheredRule) (g : ℕ) : Type 0 where
  pub apart : Meets e.misses g → ⊥
  pub within : e.holds ⊆ g

-- i is a model of the gathered rules that g switches on, and no proper subset is. (Their bodies hold in i, and their heads are cut to i: in i such a rule
-- fails where its head is empty.)
pub record StableBy (es : List GatheredRule) (i g : ℕ) : Type 0 where
  pub model : (e : GatheredRule) → e among es → e.head ≡ ∅ → SwitchedOn e g → ⊥
  pub minimal : (j : ℕ) → j ⊂ i → ((e : GatheredRule) → e among es → SwitchedOn e g → e.plain ⊆ j → Meets e.head j) → ⊥
