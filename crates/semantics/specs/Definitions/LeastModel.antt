-- Document 02, K6, "Single-head rules by least model".
use Rattle.std.specs.Prelude.{ℕ, zero, suc, Bool, ◌&&◌, List, map, eqb, leb}
use Rattle.sets.specs.Lists.{every, keep}
use Rattle.sets.specs.Sets.{◌⊆?◌, ◌∪◌, ∅, ⋃, size}
use Rattle.semantics.specs.Definitions.Rules.{Rule}
use Rattle.semantics.specs.Definitions.Sheet.{Sheet, epistemic_rules}
use Rattle.semantics.specs.Definitions.Stable.{is_model, reduct_at}

-- "at most one head atom in each rule": the sheets of which K6 speaks
abbrev pub single_heads : Sheet → Bool
single_heads x = every (λ r. leb (size r.objective.head) 1) (epistemic_rules x)

-- Below, p is rules without negations. What is grown is their least model where each has at most one head atom and they have a model
-- (`least_within`, `least_model_lem` of Theorems/SingleHeads.antt).
-- the heads of rules, together
abbrev pub heads_of : List Rule → ℕ
heads_of p = ⋃ (map (λ r. r.head) p)

-- what enters by a set x: the heads of the rules whose plain atoms are in x
abbrev pub entered : List Rule → ℕ → ℕ
entered p x = heads_of (keep (λ r. r.plain ⊆? x) p)

-- "growing [..] from the empty set", n steps
unfoldable pub grown : List Rule → ℕ → ℕ
grown p zero = ∅
grown p (suc n) = grown p n ∪ entered p (grown p n)

-- "the least model of the reduced rules". A step that adds nothing is followed only by such, and any other adds a head atom: after as many
-- steps as there are head atoms nothing more enters. Theorems/LeastModel.antt: closed, and least.
abbrev pub least_model : List Rule → ℕ
least_model p = grown p (size (heads_of p))

-- "constraints": the rules with an empty head
abbrev pub constraints_of : List Rule → List Rule
constraints_of p = keep (λ r. eqb r.head ∅) p

-- "stability can be judged by growing the least model of the reduced rules from the empty set and comparing, constraints included"
unfoldable pub by_least_model : List Rule → ℕ → Bool
by_least_model p i = let q = reduct_at i p in eqb (least_model q) i && is_model (constraints_of q) i
