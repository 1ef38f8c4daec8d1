-- The answer to a query, by the number of records and the two tests of them. Assumes nothing.
use Prim.Native.Nat.{ℕ}
use mathlib.Core.Path.{◌≡◌, refl, sym, ◌∙◌}
use mathlib.Core.Bool.{Bool, true, false, not, cond}
use mathlib.Core.List.{List, [], ◌∷◌}
use native.Mathlib.Omega.{arith}
use lib.ListN.{length}
use Rattle.sets.specs.Lists.{null, every}
use Rattle.sets.specs.Sets.{◌∈?◌}
use Rattle.semantics.specs.Definitions.Listing.{View}
use Rattle.semantics.specs.Definitions.Query.{Answer, Yes, No, Open, None, yes_no_open, answer_by}
use Rattle.records.specs.Records.{views_in, views_in_long}

-- of views and an atom, by the two tests
module _ (vs : List View) (a : ℕ) where
  abbrev Everywhere : Bool → Type 0
  Everywhere b = b ≡ every (λ v. a ∈? v.known) vs

  abbrev Nowhere : Bool → Type 0
  Nowhere b = b ≡ every (λ v. not (a ∈? v.possible)) vs

  pub answers_yes : Everywhere true → Yes ≡ yes_no_open vs a
  unfolding yes_no_open
  answers_yes e = rw (sym e)

  pub answers_no : Everywhere false → Nowhere true → No ≡ yes_no_open vs a
  unfolding yes_no_open
  answers_no e n = rw (sym e, sym n)

  pub answers_open : Everywhere false → Nowhere false → Open ≡ yes_no_open vs a
  unfolding yes_no_open
  answers_open e n = rw (sym e, sym n)

-- with no view, and with some
where_none : (vs : List View) (x : Answer) → length vs ≡ 0 → None ≡ cond (null vs) None x
where_none [] x n = refl
where_none (v ∷ vs) x n = absurd (omega arith)

where_some : (vs : List View) (x : Answer) → (length vs ≡ 0 → ⊥) → x ≡ cond (null vs) None x
where_some [] x m = absurd (m refl)
where_some (v ∷ vs) x m = refl

-- of the first n records of the words
module _ (words : List ℕ) (n a : ℕ) where
  pub answers-none : n ≡ 0 → None ≡ answer_by (views_in words n) a
  unfolding answer_by
  answers-none e = where_none (views_in words n) _ (views_in_long words n ∙ e)

  pub answers-three : (n ≡ 0 → ⊥) → yes_no_open (views_in words n) a ≡ answer_by (views_in words n) a
  unfolding answer_by
  answers-three m = where_some (views_in words n) _ (λ e. m (sym (views_in_long words n) ∙ e))
