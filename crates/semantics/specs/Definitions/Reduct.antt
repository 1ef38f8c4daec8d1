-- Document 01, "The reduct" (000, Definitions 2 and 5).
use Rattle.std.specs.Prelude.{ℕ, Bool, true, false, not, ◌&&◌, List, [], ◌∷◌, map}
use Rattle.sets.specs.Decides.{does}
use Rattle.sets.specs.Lists.{some, keep, up_to}
use Rattle.sets.specs.Sets.{◌∈?◌, ◌∪◌, set_of}
use Rattle.semantics.specs.Definitions.Rules.{Rule, EpistemicRule, Subjective, K, not_k, M, not_m}
use Rattle.semantics.specs.Definitions.Guesses.{Negation, not_known, may_be, assumed}

-- what the table says is done to a literal
pub data Action : Type 0 where
  becomes_a becomes_not_a becomes_not_not_a removed rule-deleted : Action
  deriving Discrete as same_action

-- The table: what is done to a literal of an atom a that holds, and to one that doesn't.
abbrev pub table : Subjective → Bool → Action
table K true = becomes_a
table K false = rule-deleted
table not_k true = removed
table not_k false = becomes_not_a
table M true = removed
table M false = becomes_not_not_a
table not_m true = becomes_not_a
table not_m false = rule-deleted

-- "K a holds when "not K a" is not in the guess; not M a holds when "M a" is not."
abbrev pub holds_by : List Negation → ℕ → Subjective → ℕ → Bool
holds_by es g K a = not (assumed es g (not_known a))
holds_by es g not_k a = assumed es g (not_known a)
holds_by es g M a = assumed es g (may_be a)
holds_by es g not_m a = not (assumed es g (may_be a))

-- Below, `holds` says which literals hold, and n is the number of atoms.
-- The rule r has a literal of the atom a in one of the masks 4 to 7, and what the table says is done to it is x. (`does (same_action y x)`
-- tests whether y and x are the same action.)
abbrev pub acted : (holds : Subjective → ℕ → Bool) → EpistemicRule → Action → ℕ → Bool
acted holds r x a = some (λ m. a ∈? r.mask m && does (same_action (table m (holds m a)) x)) (K ∷ not_k ∷ M ∷ not_m ∷ [])

module _ (n : ℕ) (holds : Subjective → ℕ → Bool) where
  -- "rule deleted"
  abbrev pub deleted : EpistemicRule → Bool
  deleted r = some (acted holds r rule-deleted) (up_to n)

  -- "Masks 0 to 3 stay; masks 4 to 7 are acted on by the guess". A literal that is removed goes nowhere.
  unfoldable pub reduct_rule : EpistemicRule → Rule
  reduct_rule r = record {
    head = r.objective.head;
    plain = r.objective.plain ∪ set_of (acted holds r becomes_a) n;
    nots = r.objective.nots ∪ set_of (acted holds r becomes_not_a) n;
    not_nots = r.objective.not_nots ∪ set_of (acted holds r becomes_not_not_a) n;
  }

  -- 000, Definition 5: the epistemic reduct
  unfoldable pub reduct : List EpistemicRule → List Rule
  reduct rs = map reduct_rule (keep (λ r. not (deleted r)) rs)
