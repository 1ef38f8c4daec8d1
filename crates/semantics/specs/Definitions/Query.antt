-- Document 01, "Query and program": the query of an atom, with the fourth answer of document 02, K5.
use Rattle.std.specs.Prelude.{ℕ, not, cond, List}
use Rattle.sets.specs.Lists.{null, every}
use Rattle.sets.specs.Sets.{◌∈?◌}
use Rattle.semantics.specs.Definitions.Setting.{Setting}
use Rattle.semantics.specs.Definitions.Listing.{View, listing}

-- "yes", "no" and "open"; "a fourth answer, "none""
pub data Answer : Type 0 where
  Yes No Open None : Answer

-- by the records: ""yes" if it is known in every world view, otherwise "no" if it is possible in none, otherwise "open"."
unfoldable pub yes_no_open : List View → ℕ → Answer
yes_no_open vs a = cond (every (λ v. a ∈? v.known) vs) Yes (cond (every (λ v. not (a ∈? v.possible)) vs) No Open)

-- K5: ""none", given exactly when there is no world view; "yes", "no" and "open" then presuppose one. This amends the last sentence on the
-- query in document 01", which was: "A sheet without world views answers "yes"."
unfoldable pub answer_by : List View → ℕ → Answer
answer_by vs a = cond (null vs) None (yes_no_open vs a)

-- "Query of an atom": over the world views of the listing
abbrev pub query : Setting → ℕ → Answer
query s a = answer_by (listing s) a
