-- Document 01, "Order and listing": world views, what each guess counts as, and the records.
use Rattle.std.specs.Prelude.{ℕ, Bool, not, ◌&&◌, List, [], ◌∷◌, map, length}
use Rattle.sets.specs.Lists.{some, keep, flat}
use Rattle.sets.specs.Sets.{◌⊂?◌}
use Rattle.semantics.specs.Definitions.Setting.{Setting, k, guesses}
use Rattle.semantics.specs.Definitions.Verdict.{verdict, is_empty, is_other, is_verified, belief_sets, known_in, possible_in}
use Rattle.semantics.specs.Definitions.Propagation.{contradicted}
use Rattle.semantics.specs.Definitions.Order.{order}

module _ (s : Setting) where
  -- "A world view is a verified guess of which no proper superset is verified (000, Definition 6); guesses are compared here as the sets of
  -- negations they assume."
  unfoldable pub is_world_view : ℕ → Bool
  is_world_view g = is_verified (verdict s g) && not (some (λ h. g ⊂? h && is_verified (verdict s h)) (guesses s))

  -- "covered: proper subset of a world view's guess"
  unfoldable pub covered : ℕ → Bool
  covered g = some (λ h. g ⊂? h && is_world_view h) (guesses s)

  -- "ruled: not covered, and contradicted"
  abbrev pub ruled : ℕ → Bool
  ruled g = not (covered g) && contradicted s g

  -- "tested: all others; they are empty, other or views by their verdict"
  abbrev pub tested : ℕ → Bool
  tested g = not (covered g) && not (ruled g)

  abbrev pub tested_empty : ℕ → Bool
  tested_empty g = tested g && is_empty (verdict s g)

  abbrev pub tested_other : ℕ → Bool
  tested_other g = tested g && is_other (verdict s g)

  -- these are the world views: Theorems/WorldView.antt, `view-tested`
  abbrev pub tested_view : ℕ → Bool
  tested_view g = tested g && is_verified (verdict s g)

-- "The result has views, covered, ruled, tested, empty, other."
pub record Tally : Type 0 where
  pub views : ℕ
  pub covered : ℕ
  pub ruled : ℕ
  pub tested : ℕ
  pub empty : ℕ
  pub other : ℕ

-- the six in that order
abbrev pub six : Tally → List ℕ
six t = t.views ∷ t.covered ∷ t.ruled ∷ t.tested ∷ t.empty ∷ t.other ∷ []

abbrev pub tallied : (views covered ruled tested empty other : ℕ) → Tally
tallied views covered ruled tested empty other = record {
  views = views;
  covered = covered;
  ruled = ruled;
  tested = tested;
  empty = empty;
  other = other;
}

-- "each of the six numbers says how many guesses bear its name"
unfoldable pub tally_of : Setting → Tally
tally_of s = record {
  views = length (keep (is_world_view s) (guesses s));
  covered = length (keep (covered s) (guesses s));
  ruled = length (keep (ruled s) (guesses s));
  tested = length (keep (tested s) (guesses s));
  empty = length (keep (tested_empty s) (guesses s));
  other = length (keep (tested_other s) (guesses s));
}

-- "four 16-bit words, guess, known, possible, number of sets"
pub record View : Type 0 where
  pub guess : ℕ
  pub known : ℕ
  pub possible : ℕ
  pub sets : ℕ

-- "Known, possible and number of sets are those of the verdict on that guess": Theorems/Listing.antt, `view-verdict`
abbrev pub view_of : Setting → ℕ → View
view_of s g = record { guess = g; known = known_in s (belief_sets s g); possible = possible_in (belief_sets s g); sets = length (belief_sets s g) }

-- a list of guesses "with only the world views kept"
unfoldable pub views_along : Setting → List ℕ → List View
views_along s l = map (view_of s) (keep (is_world_view s) l)

-- "the order's list with only the world views kept"
abbrev pub listing : Setting → List View
listing s = views_along s (order (k s))

-- "each as its four words"
abbrev pub record_of : View → List ℕ
record_of v = v.guess ∷ v.known ∷ v.possible ∷ v.sets ∷ []

abbrev pub words : List View → List ℕ
words vs = flat record_of vs
