-- Document 02, K6: the least model grown in a set, by rules of heads and plain atoms. Below, p is the rules and i the set. Assumes nothing.
use Rattle.std.specs.Prelude.{ℕ, ◌≤◌, ◌<◌, ◌≡◌, List, map, leb}
use Rattle.sets.specs.Lists.{◌among◌, keep}
use Rattle.sets.specs.Sets.{◌∈◌, ◌⊆◌, ◌∩◌, ∅, size}
use Rattle.semantics.specs.Definitions.Rules.{Rule}

-- the rule has at most one head atom in i
abbrev pub OneIn : ℕ → Rule → Type 0
OneIn i r = size (r.head ∩ i) ≤ 1

-- some rule has two head atoms in i, or more
abbrev pub TwoHeads : List Rule → ℕ → Type 0
TwoHeads p i = (r : Rule) × (r among p) × (1 < size (r.head ∩ i))

-- x is closed: where the plain atoms of a rule with at most one head atom in i are in x, so is that head atom
abbrev pub ClosedIn : List Rule → (i x : ℕ) → Type 0
ClosedIn p i x = (r : Rule) → r among p → OneIn i r → r.plain ⊆ x → r.head ∩ i ⊆ x

-- l is the least closed set: what is grown from the empty set (`grown_exactly` of SingleHeads.antt)
pub record Grown (p : List Rule) (i l : ℕ) : Type 0 where
  pub closed : ClosedIn p i l
  pub least : {x : ℕ} → ClosedIn p i x → l ⊆ x

-- one pass over the rules makes m of l
pub record Grows (p : List Rule) (i l m : ℕ) : Type 0 where
  pub kept : l ⊆ m
  pub within : {x : ℕ} → ClosedIn p i x → l ⊆ x → m ⊆ x
  pub closed : m ≡ l → ClosedIn p i l

-- a is the only head atom in i of some rule
abbrev pub Supported : List Rule → (i a : ℕ) → Type 0
Supported p i a = (r : Rule) × (r among p) × OneIn i r × (a ∈ r.head ∩ i)

-- the rules with at most one head atom in i, each with that atom alone as head: what is grown is their least model
unfoldable pub narrowed : ℕ → List Rule → List Rule
narrowed i p =
    map (λ r. record { head = r.head ∩ i; plain = r.plain; nots = ∅; not_nots = ∅ }) (keep (λ r. leb (size (r.head ∩ i)) 1) p)
