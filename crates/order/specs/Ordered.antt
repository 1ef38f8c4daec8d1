-- A constant list that is the order: its members below 2^k are the order of the guesses of k negations. That the list of the code is the order: `proofs/Ordered.antt`.
-- Assumes nothing.
use Rattle.std.specs.Prelude.{ℕ, ◌≤◌, ◌≡◌, List}
use Rattle.std.proofs.Common.{sym, ap, ◌∙◌, subst}
use Rattle.semantics.specs.Definitions.Order.{order, members_below}
use Rattle.semantics.specs.Theorems.Order.{Enumerates}
use Rattle.semantics.proofs.Theorems.Order.{order_enumerates, order-members}
use Rattle.order.specs.Table.{table_width}

-- the constant list l, as the code has it, for k negations
module _ {l : List ℕ} (is : l ≡ order table_width) {k : ℕ} (few : k ≤ table_width) where
  -- "for smaller k its members below 2^k are taken"
  pub table-members : members_below k l ≡ order k
  table-members = ap (members_below k) is ∙ order-members k table_width few

  -- they are every guess of k negations, each once, and those of larger size first
  pub table_enumerates : Enumerates k (members_below k l)
  table_enumerates = subst (Enumerates k) (sym table-members) (order_enumerates k)
