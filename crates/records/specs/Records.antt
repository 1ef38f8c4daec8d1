-- The views that stand as records in words, four each. Assumes nothing.
use Rattle.std.specs.Prelude.{ℕ, ◌+◌, ◌*◌, ◌≤◌, ◌<◌, ◌≡◌, List, map, length, get_or}
use Rattle.std.proofs.Common.{◌∙◌}
use Rattle.std.proofs.Math.ListN.{length-map}
use Rattle.sets.specs.Lists.{up_to, length-up_to}
use Rattle.sets.specs.Sets.{size}
use Rattle.semantics.specs.Definitions.Listing as meant
use Rattle.records.specs.declared.View.{View}

-- the view that the code has
abbrev pub view_from : View → meant.View
view_from v = record { guess = v.guess; known = v.known; possible = v.possible; sets = v.sets }

module _ (words : List ℕ) where
  -- record j
  abbrev pub view_in : ℕ → meant.View
  view_in j = record {
    guess = get_or words (4 * j) 0;
    known = get_or words (4 * j + 1) 0;
    possible = get_or words (4 * j + 2) 0;
    sets = get_or words (4 * j + 3) 0;
  }

  -- of the first n records those with larger guesses come first
  abbrev pub LargerFirst : (n : ℕ) → Type 0
  LargerFirst n = (i j : ℕ) → i < j → j < n → size (get_or words (4 * j) 0) ≤ size (get_or words (4 * i) 0)

  -- the first n records
  unfoldable pub views_in : (n : ℕ) → List meant.View
  views_in n = map view_in (up_to n)

  pub views_in_long : (n : ℕ) → length (views_in n) ≡ n
  unfolding views_in
  views_in_long n = length-map (up_to n) view_in ∙ length-up_to n
